-- The words of a record that was read. By congruence.
-- Assumes nothing.
use mathlib.Core.Path.{◌≡◌, refl, ap, ◌∙◌}
use mathlib.Core.List.{List}
use Prim.Native.Nat.{ℕ}
use Rattle.words.specs.Words.{id_of, start_of, end_of, last_of}
use Rattle.records.specs.OneRecord.{record_of}
use Rattle.records.specs.declared.Record.{Record}

module _ (w : List ℕ) (i : ℕ) where
  pub record_is : record_of w i ≡ record { id = id_of w i; start = start_of w i; end = end_of w i; size = last_of w i }
  unfolding record_of
  record_is = refl

  module _ {r : Record} (is : r ≡ record_of w i) where
    pub id_is : r.id ≡ id_of w i
    id_is = ap (λ (x : Record). x.id) (is ∙ record_is)

    pub start_is : r.start ≡ start_of w i
    start_is = ap (λ (x : Record). x.start) (is ∙ record_is)

    pub end_is : r.end ≡ end_of w i
    end_is = ap (λ (x : Record). x.end) (is ∙ record_is)

    pub size_is : r.size ≡ last_of w i
    size_is = ap (λ (x : Record). x.size) (is ∙ record_is)

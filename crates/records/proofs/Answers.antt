-- The outcome of a list, by what the scan says and where 10 applies. By rewriting.
-- Assumes nothing.
use mathlib.Core.Path.{◌≡◌, sym, ap, ◌∙◌}
use mathlib.Core.List.{List, [], ◌∷◌}
use Prim.Native.Nat.{ℕ, ◌/◌}
use lib.ListN.{length}
use Rattle.words.specs.Outcome.{Outcome, accepted, refused, unless_refused, number_of, place_of}
use Rattle.std.specs.Prelude.{None}
use Rattle.records.specs.Forest.{empty}
use Rattle.records.specs.Check.{records_check, list_range_fault, range_outcome, list_check}
use Rattle.words.specs.Refusal.{refused_by}
use Rattle.words.specs.declared.refusal.Refusal.{Refusal}
use Rattle.words.proofs.Refusals.{told}

module _ (T S : ℕ) (ws : List ℕ) where
  abbrev ranges : Outcome
  ranges = range_outcome (length ws / 4) (list_range_fault S ws)

  list_is : (o : Outcome) → records_check T empty ws ≡ o → list_check T S ws ≡ unless_refused o ranges
  unfolding list_check
  list_is o e = ap (λ (x : Outcome). unless_refused x ranges) e

  -- 6 to 9 refuse
  pub answer_refused : (r : Refusal) → records_check T empty ws ≡ refused_by r → refused_by r ≡ list_check T S ws
  answer_refused r e = told r ∙ sym (list_is (refused (number_of (refused_by r)) (place_of (refused_by r))) (e ∙ told r))

  -- they don't, and 10 doesn't either
  pub answer_ordered : records_check T empty ws ≡ accepted [] → list_range_fault S ws ≡ None → accepted (length ws / 4 ∷ []) ≡ list_check T S ws
  answer_ordered e h = sym (list_is (accepted []) e ∙ ap (range_outcome (length ws / 4)) h)

  -- they don't
  pub answer_unordered : records_check T empty ws ≡ accepted [] → (o : Outcome) → o ≡ ranges → o ≡ list_check T S ws
  answer_unordered e o q = q ∙ sym (list_is (accepted []) e)

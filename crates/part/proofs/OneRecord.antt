-- One record of words whose end indices count from an offset. By computation.
-- Assumes nothing.
use mathlib.Core.Path.{◌≡◌, sym}
use mathlib.Core.List.{List}
use Prim.Native.Nat.{ℕ, ◌+◌, ◌-◌, ◌*◌, ◌%◌, ◌≤◌}
use native.Mathlib.Omega.{arith}
use lib.ListN.{length}
use Rattle.words.specs.Words.{id_of, start_of, end_of}
use Rattle.part.specs.Part.{end_index}
use Rattle.part.specs.Rebased.{rebased}
use Rattle.part.proofs.Rebased.{At, rebased_at, rebased_length}

module _ (w : List ℕ) (from i : ℕ) where
  -- the words with end indices counted from the offset
  abbrev v : List ℕ
  v = rebased from 0 w

  pub same_length : length w % 4 ≡ 0 → length v ≡ length w
  same_length whole = omega (arith, rebased_length from 0 w)

  module _ (l : i * 4 + 4 ≤ length w) where
    at : At from 0 w i
    at = rebased_at from 0 w i l

    pub from_on : end_index w i - from ≡ end_index v i
    from_on = sym at.index

    pub id_same : id_of v i ≡ id_of w i
    id_same = at.id

    pub start_same : start_of v i ≡ start_of w i
    start_same = omega (arith, at.start)

    pub end_same : end_of v i ≡ end_of w i
    end_same = omega (arith, at.end)

-- The greatest end of any record: no record ends past it, and it is the least number that none ends past. By induction on the words,
-- four at a time. Assumes nothing.
use mathlib.Core.Path.{◌≡◌}
use mathlib.Core.Logic.{◌↔◌}
use mathlib.Core.List.{List, [], ◌∷◌}
use Prim.Native.Nat.{ℕ, zero, suc, ◌+◌, ◌*◌, ◌≤◌}
use native.Mathlib.Omega.{arith}
use native.Mathlib.Nat.{le_trans}
use lib.ListN.{length}
use Rattle.words.specs.Words.{end_of}
use Rattle.part.specs.Part.{greatest_end}

pub greatest_above : (w : List ℕ) (i : ℕ) → i * 4 + 4 ≤ length w → end_of w i ≤ greatest_end w
unfolding greatest_end
greatest_above [] i h = absurd (omega arith)
greatest_above (a ∷ []) i h = absurd (omega arith)
greatest_above (a ∷ b ∷ []) i h = absurd (omega arith)
greatest_above (a ∷ b ∷ c ∷ []) i h = absurd (omega arith)
greatest_above (a ∷ b ∷ c ∷ d ∷ rest) zero h = omega arith
greatest_above (a ∷ b ∷ c ∷ d ∷ rest) (suc i) h =
    let q : suc i * 4 + 2 ≡ suc (suc (suc (suc (i * 4 + 2)))) = omega arith in
    rw q (omega (arith, greatest_above rest i (omega arith)))

pub greatest_least : (w : List ℕ) (l : ℕ) → ((i : ℕ) → i * 4 + 4 ≤ length w → end_of w i ≤ l) → greatest_end w ≤ l
unfolding greatest_end
greatest_least [] l f = omega arith
greatest_least (a ∷ []) l f = omega arith
greatest_least (a ∷ b ∷ []) l f = omega arith
greatest_least (a ∷ b ∷ c ∷ []) l f = omega arith
greatest_least (a ∷ b ∷ c ∷ d ∷ rest) l f = omega (arith, f 0 (omega arith), greatest_least rest l later)
  where
    later : (i : ℕ) → i * 4 + 4 ≤ length rest → end_of rest i ≤ l
    later i h =
        let q : suc i * 4 + 2 ≡ suc (suc (suc (suc (i * 4 + 2)))) = omega arith in
        rw q at (f (suc i) (omega arith))

-- That the greatest end is within l says just that every record's end is.
pub greatest_exactly : (w : List ℕ) (l : ℕ) → (greatest_end w ≤ l) ↔ ((i : ℕ) → i * 4 + 4 ≤ length w → end_of w i ≤ l)
greatest_exactly w l = (λ h i m. le_trans (greatest_above w i m) h, greatest_least w l)

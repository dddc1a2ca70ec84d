-- Which cells have no line of their own. Assumes nothing.
use native.Mathlib.Nat.{add-zero}
use borrow.Author.Tests.{ne_eqb}
use Rattle.std.specs.Prelude.{◌≡◌, false, List, ℕ, ◌*◌, ◌+◌, get_or}
use Rattle.listing.specs.Steps.{is_listed}

-- one whose first word is not 1
pub not_listed : (F : ℕ) (cs : List ℕ) (i : ℕ) → (get_or cs (i * 7 + 0) 0 ≡ 1 → ⊥) → false ≡ is_listed F cs i
unfolding is_listed
not_listed F cs i other = rw (ne_eqb _ _ (simp add-zero at other))

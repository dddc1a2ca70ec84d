-- What an accepted outcome says of the tests before it. Assumes nothing.
use mathlib.Core.Path.{◌≡◌, refl}
use mathlib.Core.List.{List}
use mathlib.Core.Bool.{Bool, true, false, cond}
use Prim.Native.Nat.{ℕ}
use native.Mathlib.Omega.{arith}
use Rattle.words.specs.Outcome.{Outcome, accepted, refused}

pub never : (number place : ℕ) (counts : List ℕ) → refused number place ≡ accepted counts → ⊥
never number place counts h = let z : ◌≡◌ {A = ℕ} 0 1 = cc in omega arith

-- a test that refuses did not hold, and what follows it is accepted
pub passed : (t : Bool) (number place : ℕ) (next : Outcome) (counts : List ℕ) → cond t (refused number place) next ≡ accepted counts → (t ≡ false) × (next ≡ accepted counts)
passed true number place next counts h = absurd (never number place counts h)
passed false number place next counts h = (refl, h)

-- A signed number from its 8 bits, which is what a `match` on an i8 says, and the test that two signed numbers are equal.
-- Assumes nothing.
use mathlib.Core.Path.{◌≡◌, refl, sym, ap, ◌∙◌}
use mathlib.Core.Bool.{false}
use Prim.Native.Nat.{ℕ}
use borrow.Author.Tests.{ne_eqb}
use lib.IntN.{ℤ, pos, negsuc}
use mir.Syntax.{w8}
use mir.Val.{SFits, of_z, to_z}
use mir.Facts.{to_z-of_z}
use Rattle.search.specs.Side.{eqz}

pub of_bits : (n : ℕ) (z : ℤ) → SFits w8 z → of_z w8 z ≡ n → z ≡ to_z w8 n
of_bits n z f e = sym (to_z-of_z f) ∙ ap (to_z w8) e

eqz_ne : (a b : ℤ) → (a ≡ b → ⊥) → eqz a b ≡ false
eqz_ne (pos a) (pos b) h = ne_eqb a b (λ e. h (ap pos e))
eqz_ne (pos a) (negsuc b) h = refl
eqz_ne (negsuc a) (pos b) h = refl
eqz_ne (negsuc a) (negsuc b) h = ne_eqb a b (λ e. h (ap negsuc e))

pub not_bits : (k z : ℤ) → (of_z w8 z ≡ of_z w8 k → ⊥) → eqz z k ≡ false
not_bits k z h = eqz_ne z k (λ e. h (ap (of_z w8) e))

-- A length that is given or not, each case. Assumes nothing.
use mathlib.Core.Path.{◌≡◌}
use Rattle.std.specs.Prelude.{None, Some}
use Prim.Native.Nat.{ℕ}
use borrow.Author.Tests.{eq-eqb, ne_eqb}
use Rattle.gateway.specs.Given.{given_as}

pub none_given : (given length : ℕ) → given ≡ 0 → None ≡ given_as given length
none_given given length h = rw (eq-eqb given 0 h)

pub some_given : (given length : ℕ) → (given ≡ 0 → ⊥) → Some length ≡ given_as given length
some_given given length h = rw (ne_eqb given 0 h)

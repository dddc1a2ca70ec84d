-- What is given across C by a number that says no or yes.
use Rattle.std.specs.Prelude.{Bool, cond, not, ℕ, eqb}
use Rattle.std.specs.Prelude.{Option, None, Some}

-- a length, or none: 0 says that there is none; 0 and 4,294,967,295 are lengths
abbrev pub given_as : (given length : ℕ) → Option ℕ
given_as given length = cond (eqb given 0) None (Some length)

-- "0: no, any other number": yes
abbrev pub flag_as : (number : ℕ) → Bool
flag_as n = not (eqb n 0)

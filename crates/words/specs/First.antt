-- The first place for which a test holds.
use Rattle.std.specs.Prelude.{ℕ, zero, suc, ◌+◌, List, [], ◌∷◌, Bool, cond}
use Rattle.std.specs.Prelude.{Option, None, Some}

-- the first of `left` numbers from i on
unfoldable pub first_from : (ℕ → Bool) → ℕ → ℕ → Option ℕ
first_from test i zero = None
first_from test i (suc left) = let rest = first_from test (i + 1) left in cond (test i) (Some i) rest

-- the first of a list
unfoldable pub first_in : (ℕ → Bool) → List ℕ → Option ℕ
first_in test [] = None
first_in test (a ∷ l) = let rest = first_in test l in cond (test a) (Some a) rest

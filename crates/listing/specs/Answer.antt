-- The count of an accepted call.
use Rattle.std.specs.Prelude.{ℕ, List, [], ◌∷◌}

-- "Counts: .. lines for listing"
abbrev pub listed_counts : ℕ → List ℕ
listed_counts n = n ∷ []

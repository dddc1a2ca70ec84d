-- The counts of an accepted call.
use Rattle.std.specs.Prelude.{ℕ, List, [], ◌∷◌}

-- "Counts: cells and words for .. materialise"; it writes no packed words
abbrev pub materialized_counts : ℕ → List ℕ
materialized_counts n = n ∷ 0 ∷ []

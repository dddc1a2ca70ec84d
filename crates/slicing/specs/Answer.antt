-- The counts of an accepted slice.
use Rattle.std.specs.Prelude.{ℕ, List, [], ◌∷◌}
use Rattle.slicing.specs.declared.Sliced.{Sliced}

-- "words and length for slicing"
abbrev pub slice_counts : Sliced → List ℕ
slice_counts s = s.words ∷ s.length ∷ []

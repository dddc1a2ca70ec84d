-- What an answer counts that writes a tree.
use Rattle.std.specs.Prelude.{ℕ, List, [], ◌∷◌}
use Rattle.tree.specs.declared.Written.{Written}

-- "Counts: cells and words for build, balance"
abbrev pub written_counts : Written → List ℕ
written_counts w = w.cells ∷ w.words ∷ []

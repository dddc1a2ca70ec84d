-- The numbers by which cells name their kinds.
use Rattle.std.specs.Prelude.{ℕ}
use Rattle.tree.specs.declared.Kind.{Kind}

-- "kind (1 tree, 2 packed part, 3 tree of `NodeType::none`)"
abbrev pub kind_word : Kind → ℕ
kind_word Kind.Tree = 1
kind_word Kind.Part = 2
kind_word Kind.Untyped = 3

-- Listing: "it leaves out the top, repeat ids and kind 3; its lines, in cell order, are depth (listed nodes around it),
-- id, absolute start and absolute end".
use Rattle.std.specs.Prelude.{List, [], ◌++◌, ℕ, ◌+◌}
use Rattle.std.specs.Prelude.{Option, None, Some}
use Rattle.records.specs.Forest.{line, depth_below}
use Rattle.tree.specs.Trees.{Trees, nil, tree, part, kids_of}

-- how many words a line has: "listing lines (four words each)"
abbrev pub line_width : ℕ
line_width = 4

-- a tree's own line at depth d, by its type
unfoldable pub node_line : (F d : ℕ) (type : Option ℕ) (s e : ℕ) → List ℕ
node_line F d None s e = []
node_line F d (Some i) s e = line F d i s e

-- the depth of its children
unfoldable pub node_below : (F d : ℕ) (type : Option ℕ) → ℕ
node_below F d None = d
node_below F d (Some i) = depth_below F d i

-- the lines of siblings at depth d; no parts are left where it is used
unfoldable pub listing : (F d : ℕ) → Trees → List ℕ
listing F d nil = []
listing F d (tree t s l kids rest) = (node_line F d t s (s + l) ++ listing F (node_below F d t) kids) ++ listing F d rest
listing F d (part s l ws rest) = listing F d rest

-- the lines of a whole tree
unfoldable pub lines : (F : ℕ) → Trees → List ℕ
lines F t = listing F 0 (kids_of t)

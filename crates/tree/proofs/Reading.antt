-- The ordinary reading of items, and what is left of items behind the first ones: definitions that only laws cite.
-- Assumes nothing.
use mathlib.Core.List.{List, [], ◌++◌}
use Prim.Native.Nat.{ℕ, zero, suc}
use Rattle.records.specs.Forest.{line, depth_below}
use Rattle.tree.specs.Items.{Items, nil, mark, span}

-- the ordinary reading of items
unfoldable pub reads : (F d : ℕ) → Items → List ℕ
reads F d nil = []
reads F d (mark i s e n rest) = reads F d rest
reads F d (span i s e kids rest) = reads F d rest ++ (line F d i s e ++ reads F (depth_below F d i) kids)

-- the items behind the first k
unfoldable pub after : (k : ℕ) → Items → Items
after zero its = its
after (suc k) nil = nil
after (suc k) (mark i s e n rest) = after k rest
after (suc k) (span i s e kids rest) = after k rest

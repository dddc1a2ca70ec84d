-- How many nodes a list has, for a tactic. Assumes nothing.
use mathlib.Core.Path.{◌≡◌, refl}
use Prim.Native.Nat.{ℕ}
use Rattle.tree.specs.Trees.{Trees, nil, tree, part, nodes}

-- k, or 0 of an empty list
abbrev pub any_or_none : Trees → ℕ → ℕ
any_or_none nil k = 0
any_or_none (tree t s l kids rest) k = k
any_or_none (part s l ws rest) k = k

-- An empty list has no nodes. A tactic that is given this looks at the first node of a list, which tells how many there are.
pub nodes_any : (ts : Trees) → nodes ts ≡ any_or_none ts (nodes ts)
unfolding nodes
nodes_any nil = refl
nodes_any (tree t s l kids rest) = refl
nodes_any (part s l ws rest) = refl

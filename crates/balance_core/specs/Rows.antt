-- Rows of siblings in a store, their balanced sizes, and the first group of a row. Only internal functions cite these.
use Rattle.std.specs.Prelude.{◌≡◌, List, ◌∷◌, true, cond, ℕ, ◌+◌, max, ◌≤◌, ◌<◌, length}
use Rattle.tree.specs.Trees.{Trees, nil, tree, part, ◌⊕◌, siblings, last_end}
use Rattle.tree.specs.Cells.{id_word}
use Rattle.tree.specs.Balance.{SetType, total, groups}
use Rattle.store.specs.Store.{Holds, Readable, typed, liked, stored_kind, node_width, node_first}

-- a node's balanced size under a type, by what its words tell
abbrev pub sized : (w : List ℕ) (n kind id : ℕ) → ℕ
sized w n k i = cond (typed w n k i) (max 1 (liked w (node_first w n) k i)) 1

-- a node that can be read, and its children where it is of this type
pub record Sizable (w : List ℕ) (n kind id : ℕ) : Type 0 where
  pub inside : n + node_width ≤ length w
  pub kids : typed w n kind id ≡ true → Readable w (node_first w n)

-- all ends fit a word
abbrev pub Ends : Trees → Type 0
Ends nil = Unit {0}
Ends (tree t s l kids rest) = record { own : s + l ≤ 4294967295; inner : Ends kids; after : Ends rest }
Ends (part s l ws rest) = record { own : s + l ≤ 4294967295; after : Ends rest }

-- k siblings `us` from a node on, whose sizes under a type are exact; `tail` are the siblings after them
pub record Row (w : List ℕ) (node k kd i : ℕ) : Type 0 where
  pub base : ℕ
  pub top : ℕ
  pub low : ℕ
  pub type : SetType
  pub us : Trees
  pub tail : Trees
  pub inside : top ≤ length w
  pub holds : Holds type.none_first w base top low node (us ⊕ tail)
  pub counted : siblings us ≡ k
  pub kind_is : kd ≡ stored_kind type
  pub id_is : i ≡ id_word type.type
  pub few : total type us < 4294967295
  pub ends : Ends us

-- the first group of a row under the share m: `count` trees of the size `sum` up to `end`, and the node after them
pub record Grouped (w : List ℕ) (node k kd i m : ℕ) (p : Row w node k kd i) (count sum next end : ℕ) : Type 0 where
  pub first : Trees
  pub rest : Trees
  pub split : p.us ≡ first ⊕ rest
  pub groups_is : groups p.type m p.us ≡ first ∷ groups p.type m rest
  pub some : 1 ≤ count
  pub count_is : siblings first ≡ count
  pub sum_is : total p.type first ≡ sum
  pub next_is : Holds p.type.none_first w p.base p.top p.low next (rest ⊕ p.tail)
  pub end_is : last_end 0 first ≡ end
  pub small : 2 ≤ count → sum < m

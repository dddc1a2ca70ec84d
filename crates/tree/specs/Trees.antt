-- Trees as the build makes them.
use Rattle.std.specs.Prelude.{Bool, true, false, List, ℕ, suc, ◌+◌}
use Rattle.std.specs.Prelude.{Option}

-- Siblings in order. A tree has a type (an id, or none for `NodeType::none`), a start, a length, its children and the
-- siblings after it; a packed part has a start, a length, its words and the siblings after it. Starts are absolute.
pub data Trees : Type 0 where
  nil : Trees
  tree : (type : Option ℕ) (start length : ℕ) (kids rest : Trees) → Trees
  part : (start length : ℕ) (words : List ℕ) (rest : Trees) → Trees

-- siblings one after the other
infixr 50 ◌⊕◌
unfoldable pub ◌⊕◌ : Trees → Trees → Trees
nil ⊕ us = us
(tree t s l kids rest) ⊕ us = tree t s l kids (rest ⊕ us)
(part s l ws rest) ⊕ us = part s l ws (rest ⊕ us)

-- how many trees and parts there are, descendants too: each is one cell
unfoldable pub nodes : Trees → ℕ
nodes nil = 0
nodes (tree t s l kids rest) = suc (nodes kids + nodes rest)
nodes (part s l ws rest) = suc (nodes rest)

-- how many siblings there are
unfoldable pub siblings : Trees → ℕ
siblings nil = 0
siblings (tree t s l kids rest) = suc (siblings rest)
siblings (part s l ws rest) = suc (siblings rest)

-- is there none?
unfoldable pub is_nil : Trees → Bool
is_nil nil = true
is_nil (tree t s l kids rest) = false
is_nil (part s l ws rest) = false

-- the children of the first one
unfoldable pub kids_of : Trees → Trees
kids_of nil = nil
kids_of (tree t s l kids rest) = kids
kids_of (part s l ws rest) = nil

-- where the first one starts
unfoldable pub first_start : Trees → ℕ
first_start nil = 0
first_start (tree t s l kids rest) = s
first_start (part s l ws rest) = s

-- where the last one ends, or e if there is none
unfoldable pub last_end : (e : ℕ) → Trees → ℕ
last_end e nil = e
last_end e (tree t s l kids rest) = last_end (s + l) rest
last_end e (part s l ws rest) = last_end (s + l) rest

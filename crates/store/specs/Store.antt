-- Trees held in the words of a store. Only internal functions cite these.
use Rattle.std.specs.Prelude.{◌≡◌, List, [], ◌∷◌, Bool, true, false, cond, ℕ, zero, suc, ◌+◌, ◌-◌, ◌*◌, ◌%◌, min, ◌≤◌, ◌<◌, eqb}
use Rattle.std.specs.Prelude.{Option, None, Some}
use lib.ListN.{length, get_or, drop}
use Rattle.std.proofs.Math.Seq.{paste}
use Rattle.words.specs.Words.{put, front}
use Rattle.tree.specs.Trees.{Trees, nil, tree, part, nodes, siblings}
use Rattle.tree.specs.Balance.{SetType, in_set, all_of, total}
use Rattle.tree.specs.Cells.{cell_width, packed, kind, id_word, tree_cells}

-- a count as a 32-bit word keeps it
abbrev pub word : ℕ → ℕ
word n = min n 4294967295

-- one more than the balanced size of siblings that are all trees of the type t, else 0
unfoldable pub likes : (t : SetType) → Trees → ℕ
likes t ts = cond (all_of t ts) (word (suc (total t ts))) 0

-- the kind of a node that stands for a tree of id 0 where place 0 of the set is none
abbrev pub first_of_set : ℕ
first_of_set = 7

-- The kind by which a node, beside its id, tells its type. Kinds are compared modulo 4, so that a tree of id 0 compares as none does where
-- place 0 of the set is none; its cell still has kind 1.
abbrev pub kind_under : (none_first : Bool) → Option ℕ → ℕ
kind_under false t = kind t
kind_under true None = 3
kind_under true (Some zero) = first_of_set
kind_under true (Some (suc i)) = 1

abbrev pub stored_kind : SetType → ℕ
stored_kind t = kind_under t.none_first t.type

-- the kind of the cell that a tree's node is written as
abbrev pub kind_written : (kind : ℕ) → ℕ
kind_written k = cond (eqb k first_of_set) 1 k

-- how many words a node has
abbrev pub node_width : ℕ
node_width = 10

-- The words of the node at the address n: kind, id (of a part: how many words), start, length, first child's address (of a part:
-- its words' address) and next sibling's address, ...
abbrev pub node_kind : (w : List ℕ) (n : ℕ) → ℕ
node_kind w n = get_or w n 0

abbrev pub node_id : (w : List ℕ) (n : ℕ) → ℕ
node_id w n = get_or w (n + 1) 0

abbrev pub node_start : (w : List ℕ) (n : ℕ) → ℕ
node_start w n = get_or w (n + 2) 0

abbrev pub node_length : (w : List ℕ) (n : ℕ) → ℕ
node_length w n = get_or w (n + 3) 0

abbrev pub node_first : (w : List ℕ) (n : ℕ) → ℕ
node_first w n = get_or w (n + 4) 0

abbrev pub node_next : (w : List ℕ) (n : ℕ) → ℕ
node_next w n = get_or w (n + 5) 0

-- ... the places of three that tell of the list from the node on how many cells, packed words and trees it has, ...
abbrev pub node_cells_place : ℕ
node_cells_place = 6

abbrev pub node_words_place : ℕ
node_words_place = 7

abbrev pub node_trees_place : ℕ
node_trees_place = 8

-- ... and its balanced size where all have the node's own type.
abbrev pub node_like : (w : List ℕ) (n : ℕ) → ℕ
node_like w n = get_or w (n + 9) 0

-- a node at the address n that stands from `base` up to `top`: what its words say of a list
pub record Node (w : List ℕ) (base top n : ℕ) (kind id start length like : ℕ) (list : Trees) : Type 0 where
  pub live : 0 < n
  pub above : base ≤ n
  pub below : n + node_width ≤ top
  pub kind_at : node_kind w n ≡ kind
  pub id_at : node_id w n ≡ id
  pub start_at : node_start w n ≡ start
  pub length_at : node_length w n ≡ length
  pub cells_at : get_or w (n + node_cells_place) 0 ≡ word (nodes list)
  pub words_at : get_or w (n + node_words_place) 0 ≡ word (lib.ListN.length (packed list))
  pub trees_at : get_or w (n + node_trees_place) 0 ≡ word (siblings list)
  pub like_at : node_like w n ≡ like

-- the words ws, of 16 bits each, stand from the address a on, at or above `low`
pub record Staged (w : List ℕ) (low a : ℕ) (ws : List ℕ) : Type 0 where
  pub above : low ≤ a
  pub within : a + length ws ≤ length w
  pub same : (k : ℕ) → k < length ws → get_or w (a + k) 0 ≡ get_or ws k 0
  pub narrow : (k : ℕ) → k < length ws → get_or ws k 0 < 65536

-- The address n denotes these siblings, 0 none. Nodes stand from `base` up to `top`, words of parts from `low` up. `none_first`: is
-- place 0 of the set none?
abbrev pub Holds : (none_first : Bool) (w : List ℕ) (base top low n : ℕ) → Trees → Type 0
Holds f w base top low n nil = n ≡ 0
Holds f w base top low n (tree t s l kids rest) =
    record {
      node : Node w base top n (stored_kind (in_set f t)) (id_word t) s l (likes (in_set f t) (tree t s l kids rest)) (tree t s l kids rest);
      first : Holds f w base top low (node_first w n) kids;
      next : Holds f w base top low (node_next w n) rest;
    }
Holds f w base top low n (part s l ws rest) =
    record {
      node : Node w base top n 2 (length ws) s l 0 (part s l ws rest);
      first : Staged w low (node_first w n) ws;
      next : Holds f w base top low (node_next w n) rest;
    }

-- the words from `base` up to `top` and from `low` on are the same
pub record Same (w w' : List ℕ) (base top low : ℕ) : Type 0 where
  pub size : length w' ≡ length w
  pub below : (j : ℕ) → base ≤ j → j < top → get_or w' j 0 ≡ get_or w j 0
  pub above : (j : ℕ) → low ≤ j → get_or w' j 0 ≡ get_or w j 0

-- word k of a node, 0 where there is none
abbrev pub told : List ℕ → ℕ → ℕ → ℕ
told w n k = cond (eqb n 0) 0 (get_or w (n + k) 0)

-- is a node's type the one of this kind and id?
abbrev pub typed : (w : List ℕ) (n kind id : ℕ) → Bool
typed w n k i = cond (eqb (node_kind w n % 4) (k % 4)) (eqb i (node_id w n)) false

-- what a list's node tells of a type: one more than the balanced size where all are trees of it, else 0
abbrev pub liked : (w : List ℕ) (n kind id : ℕ) → ℕ
liked w n k i = cond (eqb n 0) 1 (cond (typed w n k i) (node_like w n) 0)

-- the same for a tree of size s before a list
abbrev pub liked_on : (s b : ℕ) → ℕ
liked_on s b = cond (eqb b 0) 0 (word (s + b))

-- an address that can be read
abbrev pub Readable : List ℕ → ℕ → Type 0
Readable w n = (n ≡ 0 → ⊥) → n + node_width ≤ length w

-- what a push leaves: the new node at the old top, all other words as they were, and what holds of the new node
pub record PushedTree (w w' : List ℕ) (top k i s l kids next r : ℕ) : Type 0 where
  pub address : r ≡ top
  pub kept : Same w w' 0 top (top + node_width)
  pub holds : (f : Bool) (base low : ℕ) (t : Option ℕ) (ks rest : Trees) → 0 < base → base ≤ top → top + node_width ≤ low
      → k ≡ stored_kind (in_set f t) → i ≡ id_word t
      → Holds f w base top low kids ks → Holds f w base top low next rest
      → Holds f w' base (top + node_width) low r (tree t s l ks rest)

-- the same of a part whose words stand at `from`
pub record PushedPart (w w' : List ℕ) (top s l from count next r : ℕ) : Type 0 where
  pub address : r ≡ top
  pub kept : Same w w' 0 top (top + node_width)
  pub holds : (f : Bool) (base low : ℕ) (ws : List ℕ) (rest : Trees) → 0 < base → base ≤ top → top + node_width ≤ low → count ≡ length ws
      → Staged w low from ws → Holds f w base top low next rest
      → Holds f w' base (top + node_width) low r (part s l ws rest)

-- the cell of a tree node, after `cell` others, under a parent that starts at q
abbrev pub tree_cell : (w : List ℕ) (n q cell : ℕ) → List ℕ
tree_cell w n q cell =
    kind_written (node_kind w n) ∷ node_id w n ∷ (node_start w n - q) ∷ node_length w n
    ∷ cond (eqb (node_first w n) 0) 0 (cell + 2)
    ∷ told w (node_first w n) node_trees_place
    ∷ cond (eqb (node_next w n) 0) 0 (cell + 2 + told w (node_first w n) node_cells_place)
    ∷ []

-- the cell of a part's node, after `cell` others and `word` packed words
abbrev pub part_cell : (w : List ℕ) (n q cell word : ℕ) → List ℕ
part_cell w n q cell word =
    2 ∷ 0 ∷ (node_start w n - q) ∷ node_length w n ∷ word ∷ node_id w n
    ∷ cond (eqb (node_next w n) 0) 0 (cell + 2)
    ∷ []

-- a part's node at n that can be written out: its cell and its words fit
pub record PartReady (w : List ℕ) (n cell room word wide : ℕ) : Type 0 where
  pub inside : n + node_width ≤ length w
  pub cell_fits : cell * cell_width + cell_width ≤ room
  pub few : cell + 2 < 4294967296
  pub narrow : word < 4294967296
  pub held : node_first w n + node_id w n ≤ length w
  pub words_fit : word + node_id w n ≤ wide
  pub small : (k : ℕ) → k < node_id w n → get_or w (node_first w n + k) 0 < 65536

-- the part's cell and its words are written, r of them
pub record PartWritten (w : List ℕ) (n q cell word : ℕ) (out out' words words' : List ℕ) (r : ℕ) : Type 0 where
  pub count : r ≡ node_id w n
  pub cell_out : out' ≡ put out (cell * cell_width) (part_cell w n q cell word)
  pub words_out : words' ≡ paste words word (drop (node_first w n) w) (node_id w n)

-- a list of trees that can be written out: there is room for its cells, its packed words and the pending lists
pub record Writable (w : List ℕ) (top root room wide : ℕ) : Type 0 where
  pub none_first : Bool
  pub base : ℕ
  pub low : ℕ
  pub trees : Trees
  pub holds : Holds none_first w base top low root trees
  pub free : top + 2 * nodes trees ≤ low
  pub inside : low ≤ length w
  pub cells_fit : cell_width * nodes trees ≤ room
  pub words_fit : length (packed trees) ≤ wide
  pub few : nodes trees < 4294967295
  pub narrow : length (packed trees) < 4294967296

-- the cells and the packed words stand at the front of the outputs, which are otherwise as they were
pub record Wrote (w : List ℕ) (top root q : ℕ) (out out' words words' : List ℕ) : Type 0 where
  pub cells_out : (f : Bool) (base low : ℕ) (ts : Trees) → Holds f w base top low root ts → out' ≡ front (tree_cells q ts) out
  pub words_out : (f : Bool) (base low : ℕ) (ts : Trees) → Holds f w base top low root ts → words' ≡ front (packed ts) words

-- a word staged below those that stand from `low` on
pub record StagedMore (w w' : List ℕ) (low x r : ℕ) : Type 0 where
  pub address : r + 1 ≡ low
  pub kept : Same w w' 0 r low
  pub holds : (ws : List ℕ) → Staged w low low ws → Staged w' r r (x ∷ ws)

-- a list of trees of the build that can be put under a top and written out
pub record TopReady (w : List ℕ) (top kids room wide : ℕ) : Type 0 where
  pub base : ℕ
  pub low : ℕ
  pub trees : Trees
  pub live : 0 < base
  pub above : base ≤ top
  pub free : top + node_width + 2 * suc (nodes trees) ≤ low
  pub inside : low ≤ length w
  pub fits : low ≤ 4294967295
  pub holds : Holds false w base top low kids trees
  pub cells_fit : cell_width * suc (nodes trees) ≤ room
  pub words_fit : length (packed trees) ≤ wide
  pub narrow : length (packed trees) < 4294967296

-- the whole tree's cells and words
pub record TopWrote (w : List ℕ) (top id s l kids : ℕ) (out out' words words' : List ℕ) : Type 0 where
  pub cells_out : (p : TopReady w top kids (length out) (length words)) → out' ≡ front (tree_cells s (tree (Some id) s l p.trees nil)) out
  pub words_out : (p : TopReady w top kids (length out) (length words)) → words' ≡ front (packed p.trees) words

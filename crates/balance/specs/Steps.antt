-- What the steps of balance promise each other: for the contracts of private functions only.
use Rattle.std.specs.Prelude.{◌≡◌, Bool, cond, List, [], ◌∷◌, ◌++◌, ℕ, ◌+◌, ◌-◌, ◌*◌, ◌/◌, ◌≤◌, ◌<◌, eqb, length, get_or, set}
use Rattle.std.specs.Prelude.{None}
use Rattle.words.specs.Outcome.{Result, settled}
use Rattle.words.specs.Words.{front, record_width}
use Rattle.tree.specs.Trees.{Trees, nil, tree, part, nodes}
use Rattle.tree.specs.Cells.{packed, tree_cells, cell_width, cell_kind, cell_position, cell_first, cell_next}
use Rattle.store.specs.Store.{Holds, Staged, first_of_set, node_width}
use Rattle.rules.specs.Lowest.{bad_cell}
use Rattle.rules.specs.Calls.{most_items, result_room, handed_in}

-- Of the trees of siblings in cell order: the start of the parent of each, q for the siblings, ...
unfoldable pub bases : (q : ℕ) → Trees → List ℕ
bases q nil = []
bases q (tree t s l kids rest) = q ∷ (bases s kids ++ bases q rest)
bases q (part s l ws rest) = q ∷ bases q rest

-- ... and each one with its later siblings.
unfoldable pub onwards : Trees → List Trees
onwards nil = []
onwards (tree t s l kids rest) = tree t s l kids rest ∷ (onwards kids ++ onwards rest)
onwards (part s l ws rest) = part s l ws rest ∷ onwards rest

-- n accepted cells and their packed words
pub record Given (cs ws : List ℕ) (n : ℕ) : Type 0 where
  pub types : ℕ
  pub accepted : bad_cell types 0 cs ws ≡ None
  pub short : (j : ℕ) → get_or ws j 0 < 65536
  pub whole : n ≡ length cs / cell_width

-- one word for cell x, counted from 1, unless x names none
unfoldable pub noted : (held : List ℕ) (x q : ℕ) → List ℕ
noted held x q = cond (eqb x 0) held (set held (x - 1) q)

-- what cell i, counted from 0, notes for the cells that it names by next and by first
unfoldable pub links_noted : (cs held : List ℕ) (i : ℕ) → List ℕ
links_noted cs held i =
    let later = noted held (cell_next cs i) (get_or held i 0) in
    cond (eqb (cell_kind cs i) 2) later (noted later (cell_first cs i) (get_or held i 0 + cell_position cs i))

-- cell i can be read, the cells that it names have a word of the work slice, and its start fits 32 bits
pub record Linked (cs held : List ℕ) (i : ℕ) : Type 0 where
  pub inside : i * cell_width + cell_width ≤ length cs
  pub own : i < length held
  pub next_fits : cell_next cs i ≤ length held
  pub first_fits : (cell_kind cs i ≡ 2 → ⊥) → cell_first cs i ≤ length held
  pub start_fits : get_or held i 0 + cell_position cs i ≤ 4294967295

-- the first n words are the starts of the cells' parents
abbrev pub Based : (held : List ℕ) (n : ℕ) → Trees → Type 0
Based held n ts = (k : ℕ) → k < n → get_or held k 0 ≡ get_or (bases 0 ts) k 0

-- The kind by which the store has a cell of kind 1 or 3: where place 0 of the set is none, one of its own for kind 1 with id 0.
abbrev pub kind_stored : (none_first : Bool) (kind id : ℕ) → ℕ
kind_stored f k i = cond f (cond (eqb k 1) (cond (eqb i 0) first_of_set k) k) k

-- Where the node of cell x stands, counted from 1, if nodes go up to `high`; 0 for none.
unfoldable pub address : (high x : ℕ) → ℕ
address high x = cond (eqb x 0) 0 (high - x * node_width)

-- The cells from cell i on, counted from 0, stand in the store, in front of the packed words; `none_first`: is place 0 of the set none?
pub record Building (none_first : Bool) (held cs ws : List ℕ) (n high low i : ℕ) : Type 0 where
  pub given : Given cs ws n
  pub high_is : high ≡ n * 11
  pub under : high ≤ low
  pub inside : low ≤ length held
  pub fits : low + length ws ≤ 4294967295
  pub based : Based held n (handed_in cs ws)
  pub staged : Staged held low low ws
  pub built : (k : ℕ) → i ≤ k → k < n → Holds none_first held n (high - i * node_width) low (high - (k + 1) * node_width) (get_or (onwards (handed_in cs ws)) k nil)

-- a tree in the store, with the space to write it out
pub record Standing (held : List ℕ) (top root : ℕ) (ts : Trees) : Type 0 where
  pub none_first : Bool
  pub base : ℕ
  pub low : ℕ
  pub holds : Holds none_first held base top low root ts
  pub free : top + 2 * nodes ts ≤ low
  pub inside : low ≤ length held
  pub few : nodes ts < 4294967295
  pub narrow : length (packed ts) < 4294967296
  pub live : root ≡ 0 → ⊥
  pub deep : root + node_width ≤ length held

-- 12, 13, or the cells and words of a tree at the front of the outputs
unfoldable pub settled_tree : (ts : Trees) (out words : List ℕ) → Result
settled_tree ts out words =
    settled (result_room (nodes ts) (length (packed ts)) (length out) (length words))
    (front (tree_cells 0 ts) out ∷ front (packed ts) words ∷ []) (out ∷ words ∷ [])

-- accepted cells with the work slice that balance asks for
pub record Lent (cs ws : List ℕ) (work : ℕ) : Type 0 where
  pub given : Given cs ws (length cs / cell_width)
  pub most : length cs / cell_width + length ws / record_width ≤ most_items
  pub lent : 96 * (length cs / cell_width + length ws / record_width) + 96 ≤ work

-- Cells and packed words written from a tree, and read back into one.
use Rattle.std.specs.Prelude.{true, false, List, [], ◌∷◌, ◌++◌, ℕ, zero, suc, ◌+◌, ◌-◌, ◌*◌, ◌/◌, eqb, length, get_or, take, drop}
use Rattle.std.specs.Prelude.{Option, None, Some}
use Rattle.tree.specs.Trees.{Trees, nil, tree, part, nodes, siblings}

-- how many words a cell has: "Cells number from 1 in preorder, seven words each"
abbrev pub cell_width : ℕ
cell_width = 7

-- the places of a cell's words behind its kind: "kind, id, position from the parent's start, length, first, count, next"
abbrev pub id_place : ℕ
id_place = 1

abbrev pub position_place : ℕ
position_place = 2

abbrev pub length_place : ℕ
length_place = 3

abbrev pub first_place : ℕ
first_place = 4

abbrev pub count_place : ℕ
count_place = 5

abbrev pub next_place : ℕ
next_place = 6

-- the words of cell i, counted from 0
abbrev pub cell_kind : (cs : List ℕ) (i : ℕ) → ℕ
cell_kind cs i = get_or cs (i * cell_width) 0

abbrev pub cell_id : (cs : List ℕ) (i : ℕ) → ℕ
cell_id cs i = get_or cs (i * cell_width + id_place) 0

abbrev pub cell_position : (cs : List ℕ) (i : ℕ) → ℕ
cell_position cs i = get_or cs (i * cell_width + position_place) 0

abbrev pub cell_length : (cs : List ℕ) (i : ℕ) → ℕ
cell_length cs i = get_or cs (i * cell_width + length_place) 0

abbrev pub cell_first : (cs : List ℕ) (i : ℕ) → ℕ
cell_first cs i = get_or cs (i * cell_width + first_place) 0

abbrev pub cell_count : (cs : List ℕ) (i : ℕ) → ℕ
cell_count cs i = get_or cs (i * cell_width + count_place) 0

abbrev pub cell_next : (cs : List ℕ) (i : ℕ) → ℕ
cell_next cs i = get_or cs (i * cell_width + next_place) 0

-- the words of a part's cell i, of the packed words ws: "kind 2: word offset of the part", "count (children or words)"
abbrev pub part_at : (cs ws : List ℕ) (i : ℕ) → List ℕ
part_at cs ws i = take (cell_count cs i) (drop (cell_first cs i) ws)

-- one cell: "kind, id, position from the parent's start, length, first, count, next"
abbrev pub cell : (kind id position length first count next : ℕ) → List ℕ
cell k i s l a n x = k ∷ i ∷ s ∷ l ∷ a ∷ n ∷ x ∷ []

-- starts counted from the parent's start; q for the first ones
unfoldable pub relative : (q : ℕ) → Trees → Trees
relative q nil = nil
relative q (tree t s l kids rest) = tree t (s - q) l (relative s kids) (relative q rest)
relative q (part s l ws rest) = part (s - q) l ws (relative q rest)

-- and back
unfoldable pub absolute : (q : ℕ) → Trees → Trees
absolute q nil = nil
absolute q (tree t s l kids rest) = tree t (q + s) l (absolute (q + s) kids) (absolute q rest)
absolute q (part s l ws rest) = part (q + s) l ws (absolute q rest)

-- the packed words: "Parts abut from offset 0 in cell order"
unfoldable pub packed : Trees → List ℕ
packed nil = []
packed (tree t s l kids rest) = packed kids ++ packed rest
packed (part s l ws rest) = ws ++ packed rest

-- the number c, or 0 where there is no cell to name
unfoldable pub unless_none : Trees → (c : ℕ) → ℕ
unless_none nil c = 0
unless_none (tree t s l kids rest) c = c
unless_none (part s l ws rest) c = c

-- "kind (1 tree, 2 packed part, 3 tree of `NodeType::none`)"
unfoldable pub kind : (type : Option ℕ) → ℕ
kind None = 3
kind (Some i) = 1

-- "id (0 for kinds 2 and 3)"
unfoldable pub id_word : (type : Option ℕ) → ℕ
id_word None = 0
id_word (Some i) = i

-- The cells of siblings with relative starts: the first one has the number c, and parts begin at word w. "first child's
-- cell, 0 for none; kind 2: word offset of the part"; "count (children or words)"; "next sibling's cell, 0 ends the
-- chain".
unfoldable pub cells : (c w : ℕ) → Trees → List ℕ
cells c w nil = []
cells c w (tree t s l kids rest) =
    let c' = c + suc (nodes kids) in
    cell (kind t) (id_word t) s l (unless_none kids (suc c)) (siblings kids) (unless_none rest c')
    ++ (cells (suc c) w kids ++ cells c' (w + length (packed kids)) rest)
cells c w (part s l ws rest) = cell 2 0 s l w (length ws) (unless_none rest (suc c)) ++ cells (suc c) (w + length ws) rest

-- the cells of a whole tree that starts at S
unfoldable pub tree_cells : (S : ℕ) → Trees → List ℕ
tree_cells S t = cells 1 0 (relative S t)

-- the first n siblings, and those after them
unfoldable pub leading : Trees → (n : ℕ) → Trees
leading nil n = nil
leading (tree t s l kids rest) zero = nil
leading (tree t s l kids rest) (suc n) = tree t s l kids (leading rest n)
leading (part s l ws rest) zero = nil
leading (part s l ws rest) (suc n) = part s l ws (leading rest n)

unfoldable pub following : Trees → (n : ℕ) → Trees
following nil n = nil
following (tree t s l kids rest) zero = tree t s l kids rest
following (tree t s l kids rest) (suc n) = following rest n
following (part s l ws rest) zero = part s l ws rest
following (part s l ws rest) (suc n) = following rest n

-- The tree of a cell in front of the trees ts of the cells after it: the first n of these are its children. Of a part
-- the words are n of the packed words ws, from a on.
unfoldable pub cell_tree : (ws : List ℕ) (k i s l a n : ℕ) → Trees → Trees
cell_tree ws k i s l a n ts =
    elim (eqb k 2) [
      | true ↦ part s l (take n (drop a ws)) ts
      | false ↦ tree (elim (eqb k 3) [ true ↦ None | false ↦ Some i ]) s l (leading ts n) (following ts n)
    ]

-- the trees of the first n cells, with relative starts
unfoldable pub decode_from : (ws : List ℕ) (n : ℕ) → (cs : List ℕ) → Trees
decode_from ws zero cs = nil
decode_from ws (suc n) cs =
    cell_tree ws (cell_kind cs 0) (cell_id cs 0) (cell_position cs 0) (cell_length cs 0) (cell_first cs 0) (cell_count cs 0) (decode_from ws n (drop cell_width cs))

-- the trees of all cells, with relative starts; ws are the packed words
unfoldable pub decode : (ws cs : List ℕ) → Trees
decode ws cs = decode_from ws (length cs / cell_width) cs

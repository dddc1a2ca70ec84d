-- What the passes over the cells do at one cell: for the contracts of private functions only.
use Rattle.std.specs.Prelude.{◌≡◌, Bool, cond, ◌&&◌, List, [], ◌∷◌, ℕ, zero, suc, ◌+◌, ◌-◌, ◌*◌, ◌/◌, ◌≤◌, ◌<◌, ltb, eqb, length, set}
use Rattle.std.specs.Prelude.{None}
use Rattle.words.specs.Words.{record_width}
use Rattle.tree.specs.Cells.{cell_width, cell_kind, cell_id, cell_position, cell_length, cell_first, cell_count, cell_next, part_at}
use Rattle.tree.specs.Calls.{list_cells}
use Rattle.tree.specs.Well.{Short}
use Rattle.rules.specs.Lowest.{bad_cell}
use Rattle.part_lines.specs.Steps as part_lines

-- Does cell i, counted from 0, have a line? "It leaves out the top, repeat ids and kind 3"; the passes begin after the top.
unfoldable pub is_listed : (F : ℕ) (cs : List ℕ) (i : ℕ) → Bool
is_listed F cs i = eqb (cell_kind cs i) 1 && ltb (cell_id cs i) F

-- its line, if it has one: its depth is d, and its parent starts at q
unfoldable pub own_line : (F : ℕ) (cs : List ℕ) (i q d : ℕ) → List ℕ
own_line F cs i q d =
    let s = q + cell_position cs i in
    cond (is_listed F cs i) (d ∷ cell_id cs i ∷ s ∷ (s + cell_length cs i) ∷ []) []

-- the lines of cell i: those of a part's records, or its own
unfoldable pub cell_lines : (F : ℕ) (cs ws : List ℕ) (i q d : ℕ) → List ℕ
cell_lines F cs ws i q d =
    let own = own_line F cs i q d in
    cond (eqb (cell_kind cs i) 2) (part_lines.listed_part F (q + cell_position cs i) d (part_at cs ws i)) own

-- how many of the `left` cells from cell i on have a line of their own
unfoldable pub lines_from : (F : ℕ) (cs : List ℕ) (i left : ℕ) → ℕ
lines_from F cs i zero = 0
lines_from F cs i (suc left) =
    let rest = lines_from F cs (i + 1) left in
    cond (is_listed F cs i) (rest + 1) rest

-- two words for cell x, counted from 1, unless x names none
unfoldable pub noted : (held : List ℕ) (x q d : ℕ) → List ℕ
noted held x q d = cond (eqb x 0) held (set (set held ((x - 1) * 2) q) ((x - 1) * 2 + 1) d)

-- the first child's cell; a part has none
unfoldable pub child_of : (cs : List ℕ) (i : ℕ) → ℕ
child_of cs i = cond (eqb (cell_kind cs i) 2) 0 (cell_first cs i)

-- what cell i has noted for the cells that it names by next and by first
unfoldable pub links_noted : (F : ℕ) (cs held : List ℕ) (i q d : ℕ) → List ℕ
links_noted F cs held i q d =
    noted (noted held (cell_next cs i) q d) (child_of cs i) (q + cell_position cs i) (cond (is_listed F cs i) (d + 1) d)

-- Cell i can be read, its end fits 32 bits, and so does the depth below it.
pub record Ready (cs : List ℕ) (i q d : ℕ) : Type 0 where
  pub inside : i * cell_width + cell_width ≤ length cs
  pub ends : q + cell_position cs i + cell_length cs i ≤ 4294967295
  pub shallow : d < 4294967295

-- its line, if it has one, has room in `room` words
pub record LineReady (F : ℕ) (cs : List ℕ) (i q d room : ℕ) : Type 0 where
  pub ready : Ready cs i q d
  pub fits : length (own_line F cs i q d) ≤ room

-- It is a part, its lines have room, and there are `ends` words for the end indices of its records.
pub record PartLinesReady (F : ℕ) (cs ws : List ℕ) (i q d ends room : ℕ) : Type 0 where
  pub is : cell_kind cs i ≡ 2
  pub ready : Ready cs i q d
  pub inside : cell_first cs i + cell_count cs i ≤ length ws
  pub lent : part_lines.Lent F (q + cell_position cs i) d (part_at cs ws i) ends room

-- a cell of either kind
pub record CellReady (F : ℕ) (cs ws : List ℕ) (i q d ends room : ℕ) : Type 0 where
  pub inside : i * cell_width + cell_width ≤ length cs
  pub line : (cell_kind cs i ≡ 2 → ⊥) → LineReady F cs i q d room
  pub packed : cell_kind cs i ≡ 2 → PartLinesReady F cs ws i q d ends room

-- The cells and the packed words, of 16 bits, are accepted, for some type count; there are two words for notes for each cell, a word for
-- the end index of each packed record, and the lines have room and are no more than 32 bits can number.
pub record Lent (F S : ℕ) (cs ws : List ℕ) (notes ends room : ℕ) : Type 0 where
  pub types : ℕ
  pub types_fit : types ≤ 65536
  pub fits : S ≤ 4294967295
  pub short : Short ws
  pub whole : length cs / cell_width * cell_width ≡ length cs
  pub accepted : bad_cell types S cs ws ≡ None
  pub notes_fit : length cs / cell_width * 2 ≤ notes
  pub ends_fit : length ws / record_width ≤ ends
  pub few : length (list_cells F S cs ws) ≤ 17179869180
  pub lines_fit : length (list_cells F S cs ws) ≤ room

-- The lowest cell that breaks a cell rule, found in one pass from cell 1 on. `Rules` has the rules as document 01 words them,
-- and proofs/SamePlace shows that both name the same cell.
--
-- `Named` cells are those that an earlier cell names by first or next and that are still to come, the latest link first.
-- So three rules, "a first child is the next cell; next names the cell after a cell's last descendant; every other
-- cell is on one chain", are one question at each cell (`place_broken`): is it the cell that the latest link names, and
-- does no other link name it? Chain lengths are counted from the last cell back.
use Rattle.std.specs.Prelude.{Bool, true, false, ◌&&◌, ◌||◌, not, List, [], ◌∷◌, ℕ, zero, suc, ◌+◌, ◌-◌, ◌%◌, ltb, leb, eqb, length, get_or, take, drop}
use Rattle.std.specs.Prelude.{Option, None, Some}
use Rattle.tree.specs.Cells.{cell_width}
use Rattle.rules.specs.Cell.{Cell, cells_of, is_part, first_child}
use Rattle.rules.specs.PartLowest.{part_kept}

-- How many cells stand on the chain that the link x of cell c begins; `later` has this for each cell after c.
unfoldable pub chain : (c x : ℕ) (later : List ℕ) → ℕ
chain c x later = elim (ltb c x) [ true ↦ get_or later (x - suc c) 0 | false ↦ 0 ]

-- for each of the cells from cell c on, how many cells stand on the chain from it on
unfoldable pub chains : (c : ℕ) → List Cell → List ℕ
chains c [] = []
chains c (k ∷ ks) = let later = chains (suc c) ks in suc (chain c k.next later) ∷ later

unfoldable pub any_part : List Cell → Bool
any_part [] = false
any_part (k ∷ ks) = is_part k || any_part ks

-- A cell that an earlier one names: its number, the end of the sibling before it (0 for a first child), its parent's length
-- (none: the parent is the top, "the top excepted"), and its parent's absolute start.
pub record Named : Type 0 where
  pub cell : ℕ
  pub after : ℕ
  pub within : Option ℕ
  pub base : ℕ

unfoldable pub named : (c : ℕ) → List Named → Bool
named c [] = false
named c (d ∷ ds) = eqb d.cell c || named c ds

unfoldable pub any_of : List Bool → Bool
any_of [] = false
any_of (b ∷ bs) = b || any_of bs

-- The rules, each with the answer "cell c breaks it". T is the type count, ws the packed words, n the number of cells.

-- "cell 1 is the top, kind 1, position 0, next 0"
unfoldable pub top_broken : (c : ℕ) → Cell → Bool
top_broken c k = eqb c 1 && (not (eqb k.kind 1) || (not (eqb k.position 0) || not (eqb k.next 0)))

-- "kind (1 tree, 2 packed part, 3 tree of NodeType::none)"
unfoldable pub kind_broken : Cell → Bool
kind_broken k = not (eqb k.kind 1 || (eqb k.kind 3 || is_part k))

-- "id (0 for kinds 2 and 3)"; "ids are below T"
unfoldable pub id_broken : (T : ℕ) → Cell → Bool
id_broken T k = elim (eqb k.kind 1) [ true ↦ leb T k.id | false ↦ not (eqb k.id 0) ]

-- "first (first child's cell, 0 for none)", "next (next sibling's cell, 0 ends the chain)": a link leads to a later cell
unfoldable pub link_broken : (n c x : ℕ) → Bool
link_broken n c x = not (eqb x 0) && not (ltb c x && leb x n)

-- "a chain has count cells", against the parent
unfoldable pub count_broken : (c : ℕ) → Cell → (later : List ℕ) → Bool
count_broken c k later = not (is_part k) && not (eqb k.count (chain c k.first later))

-- "a first child is the next cell; next names the cell after a cell's last descendant; every other cell is on one chain"
unfoldable pub place_broken : (c : ℕ) → Named → List Named → Bool
place_broken c d ds = not (eqb d.cell c) || named c ds

-- "a sibling starts at or after the end of the one before it"
unfoldable pub order_broken : Named → Cell → Bool
order_broken d k = ltb k.position d.after

-- "children end within their parent, the top excepted"
unfoldable pub inside_broken : Named → Cell → Bool
inside_broken d k = elim d.within [ None ↦ false | Some l ↦ ltb l (k.position + k.len) ]

-- "absolute ends fit 32 bits; the top's length is free"
unfoldable pub end_broken : (c : ℕ) → Named → Cell → Bool
end_broken c d k = not (eqb c 1) && ltb 4294967295 (d.base + (k.position + k.len))

-- "parts abut from offset 0 in cell order and pass 16 to 20; their records nest and order by range as in 10 and end within
-- the part's length"; w is where the parts before it end
unfoldable pub part_broken : (T : ℕ) (ws : List ℕ) (w : ℕ) → Cell → Bool
part_broken T ws w k =
    is_part k
    && (not (eqb k.first w)
    || (ltb (length ws) (k.first + k.count) || not (part_kept T k.len (take k.count (drop k.first ws)))))

-- "parts fill the packed words": "words after the last part against that part's cell or cell 1"; ks are the cells after c
unfoldable pub stray_broken : (ws : List ℕ) (c : ℕ) → Cell → List Cell → Bool
stray_broken ws c k ks =
    not (any_part ks)
    && elim (is_part k) [ true ↦ not (eqb (k.first + k.count) (length ws)) | false ↦ eqb c 1 && not (eqb (length ws) 0) ]

-- what the cell that d names, c, names by next and by first
unfoldable pub next_named : Named → Cell → List Named → List Named
next_named d k ds =
    elim (eqb k.next 0) [
      | true ↦ ds
      | false ↦ record { cell = k.next; after = k.position + k.len; within = d.within; base = d.base } ∷ ds
    ]

unfoldable pub first_named : (c : ℕ) → Named → Cell → List Named → List Named
first_named c d k ds =
    elim (eqb (first_child k) 0) [
      | true ↦ ds
      | false ↦
          record {
            cell = k.first;
            after = 0;
            within = elim (eqb c 1) [ true ↦ None | false ↦ Some k.len ];
            base = d.base + k.position;
          } ∷ ds
    ]

-- where the parts up to this cell end
unfoldable pub words_end : (w : ℕ) → Cell → ℕ
words_end w k = elim (is_part k) [ true ↦ k.first + k.count | false ↦ w ]

module _ (T : ℕ) (ws : List ℕ) (n : ℕ) where
  -- Does cell c break a rule? d and ds are the named cells, w is where the parts before it end, ks are the cells after it.
  unfoldable pub broken : (c w : ℕ) (d : Named) (ds : List Named) (k : Cell) (ks : List Cell) → Bool
  broken c w d ds k ks = any_of (
      top_broken c k
      ∷ kind_broken k
      ∷ id_broken T k
      ∷ link_broken n c k.next
      ∷ link_broken n c (first_child k)
      ∷ count_broken c k (chains (suc c) ks)
      ∷ place_broken c d ds
      ∷ order_broken d k
      ∷ inside_broken d k
      ∷ end_broken c d k
      ∷ part_broken T ws w k
      ∷ stray_broken ws c k ks
      ∷ [])

  -- The lowest of the cells from cell c on that breaks a rule; 0 for none. A cell that nothing names is unreached.
  unfoldable pub lowest_from : (c w : ℕ) → List Named → List Cell → ℕ
  lowest_from c w ds [] = 0
  lowest_from c w [] (k ∷ ks) = c
  lowest_from c w (d ∷ ds) (k ∷ ks) =
      let rest = lowest_from (suc c) (words_end w k) (first_named c d k (next_named d k ds)) ks in
      elim (broken c w d ds k ks) [ true ↦ c | false ↦ rest ]

-- the top, before anything is read; S is its absolute start
unfoldable pub top_named : (S : ℕ) → Named
top_named S = record { cell = 1; after = 0; within = None; base = S }

-- Refusal 15: none, or its place: "lowest such cell; 0 if the slice is empty or no multiple of 7". Absolute ends are counted
-- from S.
unfoldable pub bad_cell : (T S : ℕ) (cs ws : List ℕ) → Option ℕ
bad_cell T S cs ws =
    let ks = cells_of cs in
    let lowest = lowest_from T ws (length ks) 1 0 (top_named S ∷ []) ks in
    elim (eqb (length cs) 0 || not (eqb (length cs % cell_width) 0)) [
      | true ↦ Some 0
      | false ↦ elim lowest [ zero ↦ None | suc c ↦ Some (suc c) ]
    ]

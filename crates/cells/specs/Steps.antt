-- The tree check's tests on words, and what its functions promise each other. Only internal functions cite these; the laws in proofs/ tie
-- them to crate `rules`.
use Rattle.std.specs.Prelude.{◌≡◌, Bool, false, ◌&&◌, ◌||◌, not, cond, List, ℕ, zero, suc, Option, None, Some, ◌+◌, ◌-◌, ◌*◌, ◌≤◌, ltb, leb, eqb, length, get_or, drop}
use Rattle.tree.specs.Cells.{cell_width, cell_kind, cell_id, cell_position, cell_length, cell_first, cell_count, cell_next}
use Rattle.rules.specs.Cell.{Cell, cells_of, first_child}
use Rattle.rules.specs.Lowest.{chains, any_part, top_broken, kind_broken, id_broken, link_broken, part_broken}

-- a cell read from words; i counts from 0
abbrev pub cell_at : List ℕ → ℕ → Cell
cell_at cs i = record {
  kind = cell_kind cs i;
  id = cell_id cs i;
  position = cell_position cs i;
  len = cell_length cs i;
  first = cell_first cs i;
  count = cell_count cs i;
  next = cell_next cs i;
}

-- a cell by its number, 0 for none
unfoldable pub cell_or_none : ℕ → Option ℕ
cell_or_none zero = None
cell_or_none (suc c) = Some (suc c)

-- the length of the chain that the link x of cell c begins, by the lengths of the chains from each cell on
unfoldable pub followed : (lengths : List ℕ) (c x : ℕ) → ℕ
followed lengths c x = cond (leb x c) 0 (get_or lengths (x - 1) 0)

-- the last part's number, 0 for none
pub record Last (cs : List ℕ) (n last : ℕ) : Type 0 where
  pub few : last ≤ n
  pub is : (c : ℕ) → any_part (drop c (cells_of cs)) ≡ ltb c last

-- the rules that cell i + 1 breaks by itself
unfoldable pub own_test : (T n i : ℕ) (k : Cell) → Bool
own_test T n i k =
    top_broken (i + 1) k
    || (kind_broken k
    || (id_broken T k || (link_broken n (i + 1) k.next || link_broken n (i + 1) (first_child k))))

-- a chain that has not count cells
unfoldable pub count_test : (lengths : List ℕ) (i : ℕ) (k : Cell) → Bool
count_test lengths i k = cond (eqb k.kind 2) false (not (eqb k.count (followed lengths (i + 1) k.first)))

-- order, parent's end, absolute end; the numbers are those of the latest link
unfoldable pub range_test : (i position len after within base : ℕ) → Bool
range_test i position len after within base =
    ltb position after || (ltb within (position + len) || (not (eqb i 0) && ltb 4294967295 (base + (position + len))))

-- words after the last part
unfoldable pub stray_test : (size i last : ℕ) (k : Cell) → Bool
stray_test size i last k =
    cond (ltb (i + 1) last) false (cond (eqb k.kind 2) (not (eqb (k.first + k.count) size)) (eqb i 0 && not (eqb size 0)))

-- all rules but that of the cell's place
unfoldable pub cell_test : (T : ℕ) (ws : List ℕ) (n last i w : ℕ) (lengths : List ℕ) (after within base : ℕ) (k : Cell) → Bool
cell_test T ws n last i w lengths after within base k =
    own_test T n i k
    || (count_test lengths i k
    || (range_test i k.position k.len after within base
    || (part_broken T ws w k || stray_test (length ws) i last k)))

-- what the check of cells is given: the lengths of their chains, and room for as many links as are open at most
pub record Given (cs : List ℕ) (T last : ℕ) (lengths : List ℕ) (links : ℕ) : Type 0 where
  pub cells : length lengths * cell_width ≡ length cs
  pub types : T ≤ 65536
  pub final : Last cs (length lengths) last
  pub lengths_are : lengths ≡ chains 1 (cells_of cs)
  pub for_links : length lengths * 4 + 8 ≤ links

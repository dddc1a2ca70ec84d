-- What the writer of materialised cells keeps: trees without parts, written as cells from the last one back, with the numbers of the
-- siblings that have no parent yet in one slice, and marks of how many trees came of a sibling in another. Only internal functions cite these.
use Rattle.std.specs.Prelude.{◌≡◌, List, ℕ, zero, suc, ◌+◌, ◌-◌, ◌*◌, ◌/◌, ◌≤◌, ◌<◌, cond, ◌⊎◌, ltb, eqb, length, get_or, set, drop}
use Rattle.std.specs.Prelude.{Option}
use Rattle.words.specs.Words.{start_of, record_width}
use Rattle.tree.specs.Trees.{Trees, nil, tree, part, ◌⊕◌, nodes, siblings}
use Rattle.tree.specs.Materialise.{within, beyond, unpack}
use Rattle.tree.specs.Cells.{kind, id_word, relative, decode_from, cell_width, next_place, cell_kind, cell_id, cell_position, cell_length, cell_first, cell_count, cell_next, part_at}

-- where a link leads: to the cell c, counted from 0, or to e where there is no tree
unfoldable pub leads : Trees → (c e : ℕ) → ℕ
leads nil c e = e
leads (tree t s l kids rest) c e = suc c
leads (part s l ws rest) c e = suc c

-- The siblings stand in `out` as cells, the first one as cell c, counted from 0; the last one's next is e.
abbrev pub Out : (out : List ℕ) (c e : ℕ) → Trees → Type 0
Out out c e nil = Unit {0}
Out out c e (tree t s l kids rest) =
    record {
      kind_at : cell_kind out c ≡ kind t;
      id_at : cell_id out c ≡ id_word t;
      start_at : cell_position out c ≡ s;
      length_at : cell_length out c ≡ l;
      first_at : cell_first out c ≡ leads kids (suc c) 0;
      count_at : cell_count out c ≡ siblings kids;
      next_at : cell_next out c ≡ leads rest (c + suc (nodes kids)) e;
      inner : Out out (suc c) 0 kids;
      after : Out out (c + suc (nodes kids)) e rest;
    }
Out out c e (part s l ws rest) = ⊥

-- The cells of the siblings, counted from 0, stand in `held`: the last one's in front.
abbrev pub Roots : (held : List ℕ) (c : ℕ) → Trees → Type 0
Roots held c nil = Unit {0}
Roots held c (tree t s l kids rest) =
    record {
      at : get_or held (siblings rest) 0 ≡ c;
      after : Roots held (c + suc (nodes kids)) rest;
    }
Roots held c (part s l ws rest) = ⊥

-- Of n cells those from c on are written: these siblings.
pub record Made (held out : List ℕ) (n c : ℕ) (ts : Trees) : Type 0 where
  pub cells : Out out c 0 ts
  pub roots : Roots held c ts
  pub size : c + nodes ts ≡ n

-- there is room for n cells and for their numbers
pub record Room (held out : List ℕ) (n : ℕ) : Type 0 where
  pub wide : n * cell_width ≤ length out
  pub deep : n ≤ length held
  pub few : n ≤ 4294967295

-- the words from `at` on are the same
pub record Behind (at : ℕ) (before after : List ℕ) : Type 0 where
  pub same : (j : ℕ) → at ≤ j → get_or after j 0 ≡ get_or before j 0

-- Of `sp` siblings those with `kept` or more after them are taken: the last one's link ends.
unfoldable pub ended : (held out : List ℕ) (kept sp : ℕ) → List ℕ
ended held out kept sp = cond (ltb kept sp) (set out (get_or held kept 0 * cell_width + next_place) 0) out

-- the link of the cell c, counted from 0, to its first child
unfoldable pub first_link : (c kept sp : ℕ) → ℕ
first_link c kept sp = cond (ltb kept sp) (c + 2) 0

-- the link to the first of the `kept` siblings
unfoldable pub next_link : (held : List ℕ) (kept : ℕ) → ℕ
next_link held kept = cond (eqb kept 0) 0 (get_or held (kept - 1) 0 + 1)

-- A tree that can be written: of `sp` siblings those with `kept` or more after them become its children. It is cell c of `total`.
pub record Taken (held out : List ℕ) (c kept sp : ℕ) : Type 0 where
  pub total : ℕ
  pub kids : Trees
  pub rest : Trees
  pub made : Made held out total (suc c) (kids ⊕ rest)
  pub room : Room held out total
  pub left : siblings rest ≡ kept
  pub all : siblings (kids ⊕ rest) ≡ sp

-- what room there is for it
pub record Fit (held out : List ℕ) (c kept sp : ℕ) : Type 0 where
  pub deep : kept < length held
  pub below : kept ≤ sp
  pub few : sp ≤ 4294967295
  pub first : kept < sp → c + 2 < 4294967296
  pub next : 0 < kept → get_or held (kept - 1) 0 < 4294967295
  pub last : kept < sp → get_or held kept 0 * cell_width + next_place < length out
  pub cell : c * cell_width + cell_width ≤ length out
  pub number : c < 4294967295

-- what a tree leaves that is written
pub record Put (held held' out out' : List ℕ) (c kept sp k i s l : ℕ) : Type 0 where
  pub made : (p : Taken held out c kept sp) (t : Option ℕ) → k ≡ kind t → i ≡ id_word t → Made held' out' p.total c (tree t s l p.kids p.rest)
  pub out_behind : (p : Taken held out c kept sp) → Behind (p.total * cell_width) out out'

-- the trees of a part so far, with starts from the part's parent, before the siblings that follow the part
abbrev pub so_far : Trees → Trees → Trees
so_far ts rest = relative 0 ts ⊕ rest

-- The trees of a part, of which those of the next `count` cells are children of the record before: up to the cell `limit`. Their numbers
-- stand in `roots`, a part of the stack `held`.
pub record Open (roots out : List ℕ) (limit : ℕ) : Type 0 where
  pub held : List ℕ
  pub low : ℕ
  pub read : (j : ℕ) → j < length roots → get_or roots j 0 ≡ get_or held (low + j) 0
  pub total : ℕ
  pub cell : ℕ
  pub trees : Trees
  pub rest : Trees
  pub count : ℕ
  pub made : Made held out total cell (so_far trees rest)
  pub room : Room held out total
  pub left : siblings rest ≡ low
  pub all : siblings (so_far trees rest) ≡ low + length roots
  pub limit_is : limit ≡ cell + count

-- They count their starts from q; r of the trees are left.
pub record Moved (roots out out' : List ℕ) (limit q r : ℕ) : Type 0 where
  pub few : r ≤ length roots
  pub made : (p : Open roots out limit)
      → Made p.held out' p.total p.cell (relative q (within p.trees p.count) ⊕ so_far (beyond p.trees p.count) p.rest)
  pub left : (p : Open roots out limit) → siblings (so_far (beyond p.trees p.count) p.rest) ≡ p.low + r
  pub behind : (p : Open roots out limit) → Behind (p.total * cell_width) out out'

-- how many records stand in one, by its end index n and its offset
unfoldable pub inner_count : (n off : ℕ) → ℕ
inner_count n off = (n - (off + record_width)) / record_width

-- A part that can be unpacked before `sp` siblings: its first record becomes cell c. Starts from p fit 32 bits.
pub record Packed (held out : List ℕ) (c p sp : ℕ) (ws : List ℕ) : Type 0 where
  pub total : ℕ
  pub rest : Trees
  pub made : Made held out total (c + length ws / record_width) rest
  pub room : Room held out total
  pub all : siblings rest ≡ sp
  pub starts : (i : ℕ) → i * record_width + record_width ≤ length ws → p + start_of ws i < 4294967296

pub record Unpacked (held held' out out' : List ℕ) (c p sp : ℕ) (ws : List ℕ) (r : ℕ) : Type 0 where
  pub made : (g : Packed held out c p sp ws) → Made held' out' g.total c (so_far (unpack p 0 ws) g.rest)
  pub left : (g : Packed held out c p sp ws) → siblings (so_far (unpack p 0 ws) g.rest) ≡ r
  pub out_behind : (g : Packed held out c p sp ws) → Behind (g.total * cell_width) out out'

-- the trees with their parts unpacked; all starts are counted from the parent's
unfoldable pub unpacked : Trees → Trees
unpacked nil = nil
unpacked (tree t s l kids rest) = tree t s l (unpacked kids) (unpacked rest)
unpacked (part s l ws rest) = so_far (unpack s 0 ws) (unpacked rest)

-- how many cells come of one, by its kind and count
unfoldable pub weight : (kind count : ℕ) → ℕ
weight k m = cond (eqb k 2) (m / record_width) 1

-- how many come of the first i cells
unfoldable pub cells_before : (cs : List ℕ) (i : ℕ) → ℕ
cells_before cs zero = 0
cells_before cs (suc i) = cells_before cs i + weight (cell_kind cs i) (cell_count cs i)

-- the trees of the cells from i on, counted from 0
abbrev pub ahead : (cs ws : List ℕ) (i : ℕ) → Trees
ahead cs ws i = decode_from ws (length cs / cell_width - i) (drop (i * cell_width) cs)

-- How many trees come of the siblings after each of these stands in `marks`, the last one's in front.
abbrev pub Marks : (marks : List ℕ) → Trees → Type 0
Marks marks nil = Unit {0}
Marks marks (tree t s l kids rest) = record { at : get_or marks (siblings rest) 0 ≡ siblings (unpacked rest); after : Marks marks rest }
Marks marks (part s l ws rest) = record { at : get_or marks (siblings rest) 0 ≡ siblings (unpacked rest); after : Marks marks rest }

-- The cells from i on are written: `sp` trees and `mp` siblings have no parent yet, and `cell` cells are still to come.
pub record At (roots marks out cs ws : List ℕ) (total i cell sp mp : ℕ) : Type 0 where
  pub made : Made roots out total cell (unpacked (ahead cs ws i))
  pub marked : Marks marks (ahead cs ws i)
  pub all : siblings (unpacked (ahead cs ws i)) ≡ sp
  pub kept : siblings (ahead cs ws i) ≡ mp
  pub few : mp + i ≤ length cs / cell_width
  pub before : cell ≡ cells_before cs i
  pub room : Room roots out total
  pub deep : length cs / cell_width ≤ length marks

-- what is used of a cell that breaks no rule, if it is a part
pub record PartFits (cs ws : List ℕ) (i : ℕ) : Type 0 where
  pub inside : cell_first cs i + cell_count cs i ≤ length ws
  pub starts : (j : ℕ) → j * record_width + record_width ≤ length (part_at cs ws i) → cell_position cs i + start_of (part_at cs ws i) j < 4294967296

-- how many of `mp` siblings are left when n are taken, and how many of `sp` trees
unfoldable pub trees_left : (marks : List ℕ) (sp mp left : ℕ) → ℕ
trees_left marks sp mp left = cond (ltb left mp) (get_or marks left 0) sp

-- a cell that is a tree: kind 1, or kind 3 with the id 0
abbrev pub Typed : (cs : List ℕ) (i : ℕ) → Type 0
Typed cs i = (cell_kind cs i ≡ 1) ⊎ ((cell_kind cs i ≡ 3) × (cell_id cs i ≡ 0))

-- the cell i can be written, after the cells behind it
pub record NextCell (roots marks out cs : List ℕ) (i cell sp mp : ℕ) : Type 0 where
  pub ws : List ℕ
  pub at : At roots marks out cs ws (length roots) (i + 1) cell sp mp
  pub inside : i * cell_width + cell_width ≤ length cs
  pub other : cell_kind cs i ≡ 2 → ⊥
  pub typed : Typed cs i

pub record NextPart (roots marks out cs ws : List ℕ) (i cell sp mp : ℕ) : Type 0 where
  pub at : At roots marks out cs ws (length roots) (i + 1) cell sp mp
  pub inside : i * cell_width + cell_width ≤ length cs
  pub is : cell_kind cs i ≡ 2
  pub fits : PartFits cs ws i

pub record Wrote (roots roots' marks marks' out out' cs ws : List ℕ) (i cell sp mp cell' sp' mp' : ℕ) : Type 0 where
  pub at : At roots marks out cs ws (length roots) (i + 1) cell sp mp → At roots' marks' out' cs ws (length roots) i cell' sp' mp'
  pub behind : At roots marks out cs ws (length roots) (i + 1) cell sp mp → Behind (length roots * cell_width) out out'

-- the next cell, of either kind
pub record Next (roots marks out cs ws : List ℕ) (i cell sp mp : ℕ) : Type 0 where
  pub at : At roots marks out cs ws (length roots) (i + 1) cell sp mp
  pub inside : i * cell_width + cell_width ≤ length cs
  pub parts : cell_kind cs i ≡ 2 → PartFits cs ws i
  pub typed : (cell_kind cs i ≡ 2 → ⊥) → Typed cs i

-- cells that can be written: a word of `roots` for each
pub record Ready (roots marks out cs ws : List ℕ) : Type 0 where
  pub total_is : length roots ≡ cells_before cs (length cs / cell_width)
  pub room : Room roots out (length roots)
  pub deep : length cs / cell_width ≤ length marks
  pub parts : (i : ℕ) → i * cell_width + cell_width ≤ length cs → cell_kind cs i ≡ 2 → PartFits cs ws i
  pub typed : (i : ℕ) → i * cell_width + cell_width ≤ length cs → (cell_kind cs i ≡ 2 → ⊥) → Typed cs i

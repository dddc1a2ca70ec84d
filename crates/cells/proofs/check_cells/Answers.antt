-- `cells::check_cells` meets its contract. The invariant: what is left from cell i + 1 on, with the links that are open, gives the same
-- place as the whole. Assumes nothing.
use mathlib.Core.Path.{sym, ◌∙◌}
use Prim.Native.Nat.{◌+◌, ◌*◌, ◌≤◌}
use native.Mathlib.Omega.{arith}
use lib.ListN.{length}
use Rattle.cells.proofs.Walking.{walk_start, walk_end}
use Rattle.cells.proofs.Naming.{named_none, named_some}
use Rattle.cells.proofs.Passing.{Placed, in_its_place, misplaced, breaks, fitting, passes}
use Rattle.cells.proofs.check_cells.Goals.{Else-not-placed, In-loop-i}
use Rattle.cells.proofs.check_cells.Goals as goal

-- in the loop, before cell i + 1: room for the open links and two more
link_room : (l : In-loop-i) → l.loop-i.s.top * 4 + 8 ≤ length l.loop-i.links
link_room l = omega (arith, l.requires.given.for_links, l.loop-i.invariant.few, l.loop-i-test.true)

-- where the cell is in its place
at_place : (e : Else-not-placed) → Placed e.loop-i.links e.loop-i.s.top e.loop-i.s.limit (e.loop-i.i + 1)
at_place e = in_its_place (sym e.placed.ensures ∙ e.if-not-placed.false)

pub loop-i-init : goal.loop-i-init
loop-i-init c = walk_start _ _ _ _ _ _ _ _ _ c.name_if-s.ensures

pub returns-then-not-placed : goal.returns-then-not-placed
returns-then-not-placed c =
    named_some c.loop-i.i (misplaced c.requires.given.cells c.loop-i.invariant c.loop-i-test.true (sym c.placed.ensures ∙ c.if-not-placed.true))

pub read_link-d-requires : goal.read_link-d-requires
read_link-d-requires c =
    (omega (arith, (at_place (goal.at.read_link-d-requires c).Else-not-placed).links), omega (arith, link_room (goal.at.read_link-d-requires c).In-loop-i))

pub returns-then-cell_broken : goal.returns-then-cell_broken
returns-then-cell_broken c =
    named_some c.loop-i.i (breaks c.requires.given.cells c.loop-i.invariant c.loop-i-test.true c.requires.given.lengths_are c.read_link-d.ensures c.read_cell-k.ensures c.requires.given.final (omega arith) (at_place (goal.at.returns-then-cell_broken c).Else-not-placed)
    (sym c.cell_broken.ensures ∙ c.if-cell_broken.true))

pub overflow_sub-older : goal.overflow_sub-older
overflow_sub-older c = omega (arith, (at_place (goal.at.overflow_sub-older c).Else-not-placed).links)

pub push_names-s-requires-clause-len_bound : goal.push_names-s-requires-clause-len_bound
push_names-s-requires-clause-len_bound c =
    fitting c.requires.given.cells c.loop-i.invariant c.loop-i-test.true c.requires.given.lengths_are c.read_link-d.ensures c.read_cell-k.ensures c.requires.given.final (omega arith) (at_place (goal.at.push_names-s-requires-clause-len_bound c).Else-not-placed)
    (sym c.cell_broken.ensures ∙ c.if-cell_broken.false)

pub loop-i-preserved : goal.loop-i-preserved
loop-i-preserved c =
    passes c.requires.given.cells c.loop-i.invariant c.loop-i-test.true c.requires.given.lengths_are c.read_link-d.ensures c.read_cell-k.ensures c.requires.given.final (omega arith) (at_place (goal.at.loop-i-preserved c).Else-not-placed)
    (sym c.cell_broken.ensures ∙ c.if-cell_broken.false) _ _ _ _ c.push_names-s.ensures c.words_end-w.ensures

pub returns : goal.returns
returns c = named_none (walk_end _ _ _ _ _ c.requires.given.cells _ _ _ _ _ c.loop-i.invariant c.loop-i-test.false)

-- `cells::check_cells` meets its contract. The invariant: what is left from cell i + 1 on, with the links that are open, gives the same
-- place as the whole. Assumes nothing.
use lib.ListN.{length}
use Rattle.cells.proofs.Walking.{Walk}
use Rattle.cells.proofs.check_cells.Given as goal

abbrev pub invariant-loop-i : goal.invariant-loop-i
invariant-loop-i l = Walk l.g.types l.g.tree.words.now (length l.g.lengths.now) l.start l.g.tree.cells.now l.links l.i l.w l.s.top l.s.limit

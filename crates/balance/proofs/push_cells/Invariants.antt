-- `balance::push_cells` meets its contract: the invariant: the nodes of the cells from the present one on stand in the store. Assumes nothing.
use Prim.Native.Nat.{◌/◌}
use Rattle.balance.specs.Steps.{Building}
use lib.ListN.{length}
use Rattle.tree.specs.Cells.{cell_width}
use Rattle.balance.proofs.push_cells.Given as goal

abbrev pub invariant-loop-i : goal.invariant-loop-i
invariant-loop-i l = Building l.none_first l.work l.t.cells.now l.t.words.now (length l.t.cells.now / cell_width) l.high l.low l.i

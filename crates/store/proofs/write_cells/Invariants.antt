-- `store::write_cells` meets its contract: the cells and words done stand at the front of the outputs. Assumes nothing.
use Rattle.store.proofs.Writer.{Going}
use Rattle.store.proofs.Flow.{Later}
use Rattle.store.specs.Store.{told, Writable}
use Rattle.tree.specs.Trees.{Trees}
use lib.ListN.{length}
use Prim.Native.Nat.{◌+◌, ◌-◌, ◌*◌}
use Rattle.store.proofs.write_cells.Given as goal

abbrev pub invariant-loop-at : goal.invariant-loop-at
invariant-loop-at l = (p : Writable l.initial.work l.top l.root (length l.initial.out) (length l.initial.words)) × (now : Trees) × (later : Later) × Going l.initial.work l.top l.root l.start l.initial.out l.initial.words p l.work l.out l.words l.at l.from l.sp l.cell l.word now later

abbrev pub decreases-loop-at : goal.decreases-loop-at
decreases-loop-at l = 3 * (told l.initial.work l.root 6 - l.cell) + (l.sp - l.top)

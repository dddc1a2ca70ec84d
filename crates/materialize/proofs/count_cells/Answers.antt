-- `materialize::count_cells` meets its contract: the invariant: the sum is what comes of the cells passed. Assumes nothing.
use mathlib.Core.Path.{refl}
use Prim.Native.Nat.{◌/◌}
use native.Mathlib.Nat.{add-zero}
use native.Mathlib.Omega.{arith}
use lib.ListN.{length}
use Rattle.tree.specs.Cells.{cell_width}
use Rattle.materialize.specs.Steps.{cells_before}
use Rattle.materialize.proofs.Finishing.{before_all}
use Rattle.materialize.proofs.count_cells.Goals as goal

pub loop-i-init : goal.loop-i-init
unfolding cells_before
loop-i-init c = refl

pub overflow_add-total : goal.overflow_add-total
overflow_add-total c =
    let cs = c.args.cells.now in
    let weighed = simp add-zero at c.cell_weight-total.ensures in
    omega (arith, c.loop-i.invariant, weighed, before_all cs c.loop-i.i (length cs / cell_width) c.loop-i-test.true, c.requires)

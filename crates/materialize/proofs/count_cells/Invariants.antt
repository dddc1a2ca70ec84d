-- `materialize::count_cells` meets its contract: the invariant: the sum is what comes of the cells passed. Assumes nothing.
use mathlib.Core.Path.{◌≡◌}
use Rattle.materialize.specs.Steps.{cells_before}
use Rattle.materialize.proofs.count_cells.Given as goal

abbrev pub invariant-loop-i : goal.invariant-loop-i
invariant-loop-i l = l.total ≡ cells_before l.cells l.i

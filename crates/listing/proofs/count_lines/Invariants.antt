-- `listing::count_lines` meets its contract. The invariant: the count and the lines of the cells from cell i on are those of all cells.
-- Assumes nothing.
use mathlib.Core.Path.{◌≡◌}
use Prim.Native.Nat.{◌+◌, ◌-◌, ◌/◌, ◌<◌}
use lib.ListN.{length}
use Rattle.tree.specs.Cells.{cell_width}
use Rattle.listing.specs.Steps.{lines_from}
use Rattle.listing.proofs.count_lines.Given as goal

abbrev pub invariant-loop-i : goal.invariant-loop-i
invariant-loop-i l = (l.count < l.i) × (l.count + lines_from l.first_repeat l.cells l.i (length l.cells / cell_width - l.i) ≡ lines_from l.first_repeat l.cells 1 (length l.cells / cell_width - 1))

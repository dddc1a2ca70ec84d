-- `cells::linking::chain_lengths` meets its contract. The invariant: the lengths from cell c on stand in their places. Assumes nothing.
use native.Mathlib.Omega.{arith}
use Prim.Native.Nat.{◌+◌, ◌-◌, ◌*◌}
use lib.ListN.{get_or}
use Rattle.tree.specs.Cells.{cell_width, next_place}
use Rattle.cells.proofs.Reading.{fits_at}
use Rattle.cells.proofs.linking.chain_lengths.Goals as goal

pub overflow_add-lengths : goal.overflow_add-lengths
overflow_add-lengths c =
    omega (arith, fits_at c.args.cells.now c.loop-c.lengths c.loop-c.c (get_or c.args.cells.now ((c.loop-c.c - 1) * cell_width + next_place) 0) c.follow-length.result (λ j. omega (arith, c.type_inv.cells j)) c.loop-c-test.true (omega (arith, c.type_inv.cells ((c.loop-c.c - 1) * cell_width + next_place))) c.follow-length.ensures c.loop-c.invariant)

-- `balance::rebuild` meets its contract: up to 8 children stay, more are balanced. Assumes nothing.
use Rattle.balance.proofs.Rebuilding.{cells_inside, ten, first_in, row_there, row_total, range_ready, divided_standing}
use native.Mathlib.Omega.{arith}
use Rattle.balance.proofs.rebuild.Goals as goal

pub bounds-cells-5 : goal.bounds-cells-5
bounds-cells-5 c = omega (arith, cells_inside c.requires.building c.requires.room)

pub overflow_sub-result : goal.overflow_sub-result
overflow_sub-result c = omega (arith, ten c.requires.building c.requires.room)

pub bounds-cells-4 : goal.bounds-cells-4
bounds-cells-4 c = omega (arith, cells_inside c.requires.building c.requires.room)

pub node_of-kids-requires : goal.node_of-kids-requires
node_of-kids-requires c =
    let b = c.requires.building in
    omega (arith, first_in b c.requires.room, b.high_is)

pub row_size-size-requires-clause-row : goal.row_size-size-requires-clause-row
row_size-size-requires-clause-row c = row_there c.requires.building c.requires.room (omega arith) c.node_of-kids.ensures

pub bounds-cells-1 : goal.bounds-cells-1
bounds-cells-1 c = omega (arith, cells_inside c.requires.building c.requires.room)

pub bounds-cells-3 : goal.bounds-cells-3
bounds-cells-3 c = omega (arith, cells_inside c.requires.building c.requires.room)

pub balance_range-requires : goal.balance_range-requires
balance_range-requires c =
    let b = c.requires.building in
    let room = c.requires.room in
    range_ready b room (omega arith) c.node_of-kids.ensures
    (row_total b room (omega arith) c.node_of-kids.ensures c.row_size-size.ensures) c.stored_kind.ensures

pub returns : goal.returns
returns c =
    let b = c.requires.building in
    let room = c.requires.room in
    divided_standing b room (omega arith) c.node_of-kids.ensures
    (row_total b room (omega arith) c.node_of-kids.ensures c.row_size-size.ensures) c.stored_kind.ensures c.balance_range.ensures

-- `take::stepping::take_deep` meets its contract. Assumes nothing.
use mathlib.Core.Path.{refl}
use Prim.Native.Nat.{◌-◌}
use Rattle.take.proofs.Deep.{flat_asks, finish_asks, deepened}
use Rattle.take.proofs.stepping.take_deep.Goals as goal

pub take_flat-flat-requires : goal.take_flat-flat-requires
take_flat-flat-requires c =
    let a = c.args in
    let asks = flat_asks a.first_repeat a.bound a.records.now a.work.now a.s a.next.node a.next.memo in
    asks c.in_repeat-own.result c.in_repeat-own.ensures (a.s.p - 1) refl c.requires

pub finish_node-made-requires : goal.finish_node-made-requires
finish_node-made-requires c =
    let a = c.args in
    let r = c.take_flat-flat.result in
    let asks = finish_asks a.first_repeat a.bound a.records.now a.work.now a.s a.next.node a.next.memo in
    let taken = asks c.in_repeat-own.result c.in_repeat-own.ensures (a.s.p - 1) refl c.take_flat-flat.new.work in
    taken r.g.top r.low r.g.groups r.g.loose r.g.edge c.take_flat-flat.ensures c.requires

pub returns : goal.returns
returns c =
    let a = c.args in
    let r = c.take_flat-flat.result in
    let deep = deepened a.first_repeat a.bound a.records.now a.work.now a.s a.next.node a.next.memo in
    let taken = deep c.in_repeat-own.result c.in_repeat-own.ensures (a.s.p - 1) refl c.take_flat-flat.new.work in
    let done = taken r.g.top r.low r.g.groups r.g.loose r.g.edge c.take_flat-flat.ensures c.requires in
    done c.finish_node-made.new.work c.finish_node-made.result.top c.finish_node-made.result.node c.finish_node-made.ensures

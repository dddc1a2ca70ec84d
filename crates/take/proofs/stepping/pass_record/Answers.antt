-- `take::stepping::pass_record` meets its contract. Assumes nothing.
use mathlib.Core.Path.{refl}
use Prim.Native.Nat.{◌-◌}
use Rattle.records.proofs.OneRecord.{id_is, end_is}
use Rattle.take.proofs.Passing.{pass_asks, passed_on}
use Rattle.take.proofs.stepping.pass_record.Goals as goal

pub pass_over-children-requires-clause-readable : goal.pass_over-children-requires-clause-readable
pass_over-children-requires-clause-readable c = (pass_asks c.args.records.now c.args.work.now c.args.bound c.args.s c.requires).0

pub pass_over-children-requires-clause-readable_2 : goal.pass_over-children-requires-clause-readable_2
pass_over-children-requires-clause-readable_2 c = (pass_asks c.args.records.now c.args.work.now c.args.bound c.args.s c.requires).1

pub returns : goal.returns
returns c =
    let passed = passed_on c.args.records.now c.args.work.now c.args.bound c.args.s c.requires c.pass_over-children.new.work in
    let read = passed (c.args.s.p - 1) c.record_at-r.result.id c.record_at-r.result.end c.pass_over-children.result in
    read refl (id_is _ _ c.record_at-r.ensures) (end_is _ _ c.record_at-r.ensures) c.pass_over-children.ensures

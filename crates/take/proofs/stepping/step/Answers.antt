-- `take::stepping::step` meets its contract, each case. Assumes nothing.
use mathlib.Core.Path.{sym}
use Rattle.records.proofs.OneRecord.{id_is}
use Rattle.take.proofs.Loop.{closed_step, passing, passed_step, starting, took_step}
use Rattle.take.proofs.stepping.step.Goals as goal

pub returns-then-s : goal.returns-then-s
returns-then-s c = closed_step c.if-s.true c.close_tree.ensures

pub pass_record-requires : goal.pass_record-requires
pass_record-requires c = passing c.own_at-own.ensures (id_is _ _ c.record_at.ensures) c.if-s.false (sym c.if-is_own.ensures) c.requires

pub returns-then-is_own : goal.returns-then-is_own
returns-then-is_own c = passed_step c.own_at-own.ensures (id_is _ _ c.record_at.ensures) c.if-s.false (sym c.if-is_own.ensures) c.pass_record.ensures

pub take_record-requires : goal.take_record-requires
take_record-requires c = starting c.own_at-own.ensures (id_is _ _ c.record_at.ensures) c.if-s.false (sym c.if-is_own.ensures) c.requires

pub returns : goal.returns
returns c = took_step c.own_at-own.ensures (id_is _ _ c.record_at.ensures) c.if-s.false (sym c.if-is_own.ensures) c.take_record.ensures

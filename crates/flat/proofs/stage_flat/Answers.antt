-- `flat::stage_flat` meets its contract: the held records from the place at hand on are staged. Assumes nothing.
use native.Mathlib.Omega.{arith}
use Rattle.records.proofs.OneRecord.{size_is}
use Rattle.flat.proofs.Staging.{staging_start, drop_at, four_at, ready_at, hold_at, staging_end}
use Rattle.flat.proofs.stage_flat.Goals as goal

pub loop-q-init : goal.loop-q-init
loop-q-init c = staging_start c.requires

-- a record that is dropped
pub loop-q-preserved-then-record_at-gt-RECORD_SIZE : goal.loop-q-preserved-then-record_at-gt-RECORD_SIZE
loop-q-preserved-then-record_at-gt-RECORD_SIZE c =
    drop_at c.requires c.loop-q.invariant c.loop-q-test.true (size_is _ _ c.record_at.ensures) c.if-record_at-gt-RECORD_SIZE.true

pub stage_record-below-requires : goal.stage_record-below-requires
stage_record-below-requires c =
    ready_at c.requires c.loop-q.invariant c.loop-q-test.true (size_is _ _ c.record_at.ensures) c.if-record_at-gt-RECORD_SIZE.false

pub overflow_sub-left : goal.overflow_sub-left
overflow_sub-left c =
    four_at c.requires c.loop-q.invariant c.loop-q-test.true (size_is _ _ c.record_at.ensures) c.if-record_at-gt-RECORD_SIZE.false

-- a record that is staged
pub loop-q-preserved : goal.loop-q-preserved
loop-q-preserved c =
    hold_at c.requires c.loop-q.invariant c.loop-q-test.true (size_is _ _ c.record_at.ensures) c.if-record_at-gt-RECORD_SIZE.false c.stage_record-below.ensures

pub returns : goal.returns
returns c = staging_end c.requires c.loop-q.invariant (omega (arith, c.loop-q-test.false))

-- `flat::flat_extent` meets its contract: the flat part up to the place at hand, one record more at a time. Assumes nothing.
use native.Mathlib.Omega.{arith}
use Rattle.flat.proofs.Extending.{extending_start, extended_done, drop_at, early_at, hold_at}
use Rattle.flat.proofs.flat_extent.Goals as goal

pub loop-q-init : goal.loop-q-init
loop-q-init c = extending_start c.args.records.now c.args.p c.args.lo c.args.bound c.args.lo c.requires.lo_le_p

-- a record that is dropped
pub loop-q-preserved-then-r-gt-RECORD_SIZE : goal.loop-q-preserved-then-r-gt-RECORD_SIZE
loop-q-preserved-then-r-gt-RECORD_SIZE c =
    drop_at c.loop-q.invariant c.loop-q-test.true c.record_at-r.ensures (omega arith) c.if-r-gt-RECORD_SIZE.true

-- a record that starts too early
pub returns-then-r-saturating_sub : goal.returns-then-r-saturating_sub
returns-then-r-saturating_sub c =
    early_at c.loop-q.invariant c.loop-q-test.true c.record_at-r.ensures c.saturating_sub.ensures c.if-r-gt-RECORD_SIZE.false
    c.if-r-saturating_sub.true

-- a record that is held
pub loop-q-preserved : goal.loop-q-preserved
loop-q-preserved c =
    let held = c.held-x.ensures in
    hold_at c.loop-q.invariant c.loop-q-test.true c.record_at-r.ensures c.saturating_sub.ensures c.if-r-gt-RECORD_SIZE.false
    (omega arith) c.if-r-saturating_sub.false _ held.p_value held.count_value held.first_value held.end_value

pub returns : goal.returns
returns c = extended_done c.loop-q.invariant (omega (arith, c.loop-q-test.false))

-- `records::judge` meets its contract: the invariant is `Judging` where `left` records are still to be judged, from the laws of
-- proofs/Judging. Assumes nothing.
use mathlib.Core.Path.{refl}
use Rattle.records.proofs.Judging as J
use Rattle.records.proofs.judge.Goals as goal

pub loop-left-preserved-then-not-stands : goal.loop-left-preserved-then-not-stands
loop-left-preserved-then-not-stands c =
    J.judging_next c.loop-left.invariant c.loop-left-test.true c.record_at-child.ensures c.span-span.ensures c.behind_at-after.ensures
    c.stands.ensures (rw c.if-not-stands.true c.min-low.ensures)

pub loop-left-preserved : goal.loop-left-preserved
loop-left-preserved c =
    J.judging_next c.loop-left.invariant c.loop-left-test.true c.record_at-child.ensures c.span-span.ensures c.behind_at-after.ensures
    c.stands.ensures (rw c.if-not-stands.false refl)

pub returns : goal.returns
returns c = J.judging_end c.loop-left.invariant c.loop-left-test.false

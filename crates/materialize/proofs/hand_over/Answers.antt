-- `materialize::hand_over` meets its contract: the trees taken so far stand as the record's children, with positions from its start.
-- Assumes nothing.
use Rattle.materialize.proofs.Handing.{going_start, going_fits, going_next, going_limit, going_none}
use Rattle.materialize.proofs.hand_over.Goals as goal

pub loop-left-init : goal.loop-left-init
loop-left-init c = going_start

pub returns-then-limit-root : goal.returns-then-limit-root
returns-then-limit-root c = going_limit c.loop-left.invariant c.loop-left-test.true c.loop-left.auto.left c.if-limit-root.true

pub bounds-out-root : goal.bounds-out-root
bounds-out-root c = going_fits c.loop-left.invariant c.loop-left-test.true c.loop-left.auto.left c.requires

pub bounds-out-root-in-loop-left : goal.bounds-out-root-in-loop-left
bounds-out-root-in-loop-left c = going_fits c.loop-left.invariant c.loop-left-test.true c.loop-left.auto.left c.requires

pub loop-left-preserved : goal.loop-left-preserved
loop-left-preserved c = going_next c.loop-left.invariant c.loop-left-test.true c.loop-left.auto.left c.if-limit-root.false c.saturating_sub.ensures

pub returns : goal.returns
returns c = going_none c.loop-left.invariant c.loop-left-test.false

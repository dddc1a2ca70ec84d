-- `balance_core::first_group` meets its contract: how the first group of a row grows. Assumes nothing.
use Rattle.balance_core.proofs.Growth.{row_sizable, growing_start, growing_sizable, growing_end, growing_stop, growing_step}
use native.Mathlib.Omega.{arith}
use Rattle.balance_core.proofs.first_group.Goals as goal

pub node_at-first-requires : goal.node_at-first-requires
node_at-first-requires c = (row_sizable c.requires.row c.requires.le_k).inside

pub balanced_node_size-requires : goal.balanced_node_size-requires
balanced_node_size-requires c = row_sizable c.requires.row c.requires.le_k

pub loop-g-init : goal.loop-g-init
loop-g-init c = λ p.
    growing_start c.args.m p c.requires.le_k c.balanced_node_size.ensures (omega arith) c.node_at-first.ensures.next

-- the next tree, where one is left
pub balanced_node_size-requires-in-loop-g : goal.balanced_node_size-requires-in-loop-g
balanced_node_size-requires-in-loop-g c =
    growing_sizable c.args.m c.requires.row (c.loop-g.invariant c.requires.row).2 c.loop-g-test.true

pub node_at-last-requires : goal.node_at-last-requires
node_at-last-requires c =
    (growing_sizable c.args.m c.requires.row (c.loop-g.invariant c.requires.row).2 c.loop-g-test.true).inside

-- it is one too much
pub returns-then-m-grown : goal.returns-then-m-grown
returns-then-m-grown c = λ p.
    growing_stop c.args.m p (c.loop-g.invariant p).2 c.loop-g-test.true c.balanced_node_size-in-loop-g.ensures c.saturating_add-grown.ensures
    c.if-m-grown.true

-- it joins the group
pub loop-g-preserved : goal.loop-g-preserved
loop-g-preserved c = λ p.
    growing_step c.args.m p (c.loop-g.invariant p).2 c.loop-g-test.true c.balanced_node_size-in-loop-g.ensures c.saturating_add-grown.ensures
    c.if-m-grown.false (omega (arith, c.ranges.m.fits)) (omega arith) c.node_at-last.ensures.next

-- the group is the whole row
pub returns : goal.returns
returns c = λ p. growing_end c.args.m p (c.loop-g.invariant p).2 c.loop-g-test.false

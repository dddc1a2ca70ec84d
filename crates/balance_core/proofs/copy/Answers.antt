-- `balance_core::copy` meets its contract: a node again, with another next. Assumes nothing.
use Rattle.balance_core.proofs.Copies.{copy_inside, copy_onto, copy_kids, copied_tree, copied_part}
use borrow.Author.Tests.{eqb-true, eqb-false}
use Rattle.balance_core.proofs.copy.Goals as goal

pub node_at-n-requires : goal.node_at-n-requires
node_at-n-requires c = copy_inside c.requires

pub push_part-made-requires-clause-readable : goal.push_part-made-requires-clause-readable
push_part-made-requires-clause-readable c = copy_onto c.requires

-- a part
pub returns-then-is : goal.returns-then-is
returns-then-is c =
    let n = c.node_at-n.ensures in
    copied_part n.kind n.id n.start n.length n.first (eqb-true _ _ (simp c.is.ensures at c.if-is.true)) c.push_part-made.ensures

pub push_tree-made-requires-clause-readable : goal.push_tree-made-requires-clause-readable
push_tree-made-requires-clause-readable c = copy_kids c.requires c.node_at-n.ensures.kind c.node_at-n.ensures.first (eqb-false _ _ (simp c.is.ensures at c.if-is.false))

pub push_tree-made-requires-clause-readable_2 : goal.push_tree-made-requires-clause-readable_2
push_tree-made-requires-clause-readable_2 c = copy_onto c.requires

-- a tree
pub returns : goal.returns
returns c =
    let n = c.node_at-n.ensures in
    copied_tree n.kind n.id n.start n.length n.first (eqb-false _ _ (simp c.is.ensures at c.if-is.false)) c.push_tree-made.ensures

-- `materialize::place_tree` meets its contract: the tree stands before its siblings. Assumes nothing.
use native.Mathlib.Nat.{add-zero}
use native.Mathlib.Omega.{arith}
use Rattle.materialize.proofs.Placing.{tree_ready, tree_few, tree_wrote}
use Rattle.materialize.proofs.place_tree.Goals as goal

pub overflow_sub-at : goal.overflow_sub-at
overflow_sub-at c = (tree_few c.requires c.saturating_sub-left.ensures c.staying-kept.ensures).1

pub push-requires : goal.push-requires
push-requires c = tree_ready c.requires c.saturating_sub-left.ensures c.staying-kept.ensures

pub overflow_cast-marks : goal.overflow_cast-marks
overflow_cast-marks c = omega (arith, (tree_few c.requires c.saturating_sub-left.ensures c.staying-kept.ensures).0)

pub overflow_sub-result : goal.overflow_sub-result
overflow_sub-result c = (tree_few c.requires c.saturating_sub-left.ensures c.staying-kept.ensures).1

pub overflow_add-result : goal.overflow_add-result
overflow_add-result c = omega (arith, (tree_few c.requires c.saturating_sub-left.ensures c.staying-kept.ensures).0)

pub returns : goal.returns
returns c =
    let written = simp add-zero at c.push.ensures in
    tree_wrote c.requires c.saturating_sub-left.ensures c.staying-kept.ensures written c.push.auto.roots c.push.auto.out

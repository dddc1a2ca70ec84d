-- `store::write_cells` meets its contract: the cells and words done stand at the front of the outputs. Assumes nothing.
use native.Mathlib.Nat.{add-zero}
use borrow.Author.Tests.{eqb-true, eqb-false}
use native.Mathlib.Omega.{arith}
use Rattle.store.proofs.Writer.{going_start, total, going_end, going_pop, node_inside, cells_left, cell_room, part_ready, tree_ready, going_tree, going_part}
use Rattle.store.proofs.Flow.{end}
use Rattle.store.proofs.write_cells.Goals as goal

pub loop-at-init : goal.loop-at-init
loop-at-init c =
    let a = c.args in
    (c.requires, c.requires.trees, end, going_start a.work.now a.top a.root a.start a.out.now a.words.now c.requires)

pub returns-then-sp-bottom : goal.returns-then-sp-bottom
returns-then-sp-bottom c = going_end c.loop-at.invariant.3 c.if-at-eq0.true c.if-sp-bottom.true

pub overflow_sub-at : goal.overflow_sub-at
overflow_sub-at c = omega (arith, (going_pop c.loop-at.invariant.3 c.if-at-eq0.true c.if-sp-bottom.false).0)

pub overflow_sub-sp : goal.overflow_sub-sp
overflow_sub-sp c = omega (arith, (going_pop c.loop-at.invariant.3 c.if-at-eq0.true c.if-sp-bottom.false).0)

pub loop-at-preserved-then-at-eq0 : goal.loop-at-preserved-then-at-eq0
loop-at-preserved-then-at-eq0 c =
    let q = (going_pop c.loop-at.invariant.3 c.if-at-eq0.true c.if-sp-bottom.false).1 in
    (c.loop-at.invariant.0, q.0, q.1, q.2)

pub bounds-work-n : goal.bounds-work-n
bounds-work-n c = omega (arith, node_inside c.loop-at.invariant.3 c.if-at-eq0.false)

pub bounds-work-n-in-loop-at : goal.bounds-work-n-in-loop-at
bounds-work-n-in-loop-at c = omega (arith, node_inside c.loop-at.invariant.3 c.if-at-eq0.false)

pub bounds-work-n-in-loop-at-2 : goal.bounds-work-n-in-loop-at-2
bounds-work-n-in-loop-at-2 c = omega (arith, node_inside c.loop-at.invariant.3 c.if-at-eq0.false)

pub bounds-work-n-in-loop-at-3 : goal.bounds-work-n-in-loop-at-3
bounds-work-n-in-loop-at-3 c = omega (arith, node_inside c.loop-at.invariant.3 c.if-at-eq0.false)

pub write_part-word-requires : goal.write_part-word-requires
write_part-word-requires c = part_ready c.loop-at.invariant.3 c.if-at-eq0.false (eqb-true _ _ (simp (c.is.ensures, add-zero) at c.if-is.true))

pub loop-at-smaller-then-is : goal.loop-at-smaller-then-is
loop-at-smaller-then-is c = omega (arith, cells_left c.loop-at.invariant.3 c.if-at-eq0.false, total c.loop-at.invariant.0)

pub loop-at-preserved-then-is : goal.loop-at-preserved-then-is
loop-at-preserved-then-is c =
    let q = (going_part c.loop-at.invariant.3 c.if-at-eq0.false (eqb-true _ _ (simp (c.is.ensures, add-zero) at c.if-is.true)) c.write_part-word.ensures).1 in
    (c.loop-at.invariant.0, q.0, q.1, q.2)

pub write_tree-requires : goal.write_tree-requires
write_tree-requires c =
    let going = c.loop-at.invariant.3 in
    let live = c.if-at-eq0.false in
    let r = tree_ready going live (eqb-false _ _ (simp (c.is.ensures, add-zero) at c.if-is.false)) in
    record {
      node_width_in_bounds = node_inside going live;
      readable = r.kids_read;
      cell_width_in_bounds = cell_room going live;
      node_cells_place_bound = r.few;
    }

pub put-requires : goal.put-requires
put-requires c = (omega arith, (tree_ready c.loop-at.invariant.3 c.if-at-eq0.false (eqb-false _ _ (simp (c.is.ensures, add-zero) at c.if-is.false))).stack)

pub loop-at-smaller : goal.loop-at-smaller
loop-at-smaller c = omega (arith, cells_left c.loop-at.invariant.3 c.if-at-eq0.false, total c.loop-at.invariant.0, c.loop-at.invariant.3.inside)

pub loop-at-preserved : goal.loop-at-preserved
loop-at-preserved c =
    let q = going_tree c.loop-at.invariant.3 c.if-at-eq0.false (eqb-false _ _ (simp (c.is.ensures, add-zero) at c.if-is.false)) c.write_tree.ensures c.put.ensures in
    (c.loop-at.invariant.0, q.0, q.1, q.2)

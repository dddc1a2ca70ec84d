-- `balance::push_cell` meets its contract: one node more, of a part or of a tree. Assumes nothing.
use mathlib.Core.Path.{refl, sym}
use borrow.Author.Tests.{eqb-true, eqb-false}
use Rattle.balance.proofs.Pushing.{start_fits, next_in, address_readable, words_fit, first_in, pushed_part, pushed_tree}
use native.Mathlib.Nat.{add-zero}
use native.Mathlib.Omega.{arith}
use Rattle.tree.specs.Cells.{cell_kind}
use Rattle.balance.proofs.push_cell.Goals as goal

pub overflow_add-start-2 : goal.overflow_add-start-2
overflow_add-start-2 c = omega (arith, start_fits c.args.i c.requires.i_in_bounds c.requires.building)

pub node_of-next-requires : goal.node_of-next-requires
node_of-next-requires c =
    let b = c.requires.building in
    omega (arith, next_in c.args.i c.requires.i_in_bounds b, b.high_is)

pub overflow_add-low : goal.overflow_add-low
overflow_add-low c =
    let is_part = eqb-true (cell_kind c.args.t.cells.now c.args.i) 2 (sym c.if-is_part.ensures) in
    omega (arith, words_fit c.args.i c.requires.i_in_bounds c.requires.building is_part)

pub push_part-requires-clause-readable : goal.push_part-requires-clause-readable
push_part-requires-clause-readable c =
    let b = c.requires.building in
    let l = c.requires.i_in_bounds in
    rw c.node_of-next.ensures (address_readable c.args.i l b _ (next_in c.args.i l b))

pub returns-then-is_part : goal.returns-then-is_part
returns-then-is_part c =
    let b = c.requires.building in
    pushed_part c.args.i c.requires.i_in_bounds b refl refl c.node_of-next.ensures (eqb-true _ _ (sym c.if-is_part.ensures)) refl c.push_part.ensures

pub node_of-first-requires : goal.node_of-first-requires
node_of-first-requires c =
    let b = c.requires.building in
    let no_part = eqb-false (cell_kind c.args.t.cells.now c.args.i) 2 (sym c.if-is_part.ensures) in
    omega (arith, first_in c.args.i c.requires.i_in_bounds b no_part, b.high_is)

pub push_tree-requires-clause-readable : goal.push_tree-requires-clause-readable
push_tree-requires-clause-readable c =
    let b = c.requires.building in
    let l = c.requires.i_in_bounds in
    let no_part = eqb-false (cell_kind c.args.t.cells.now c.args.i) 2 (sym c.if-is_part.ensures) in
    rw c.node_of-first.ensures (address_readable c.args.i l b _ (first_in c.args.i l b no_part))

pub push_tree-requires-clause-readable_2 : goal.push_tree-requires-clause-readable_2
push_tree-requires-clause-readable_2 c =
    let b = c.requires.building in
    let l = c.requires.i_in_bounds in
    rw c.node_of-next.ensures (address_readable c.args.i l b _ (next_in c.args.i l b))

pub returns : goal.returns
returns c =
    let b = c.requires.building in
    pushed_tree c.args.i c.requires.i_in_bounds b refl refl c.node_of-next.ensures (eqb-false _ _ (sym c.if-is_part.ensures)) c.node_of-first.ensures
    (simp add-zero at c.stored_kind.ensures) c.push_tree.ensures

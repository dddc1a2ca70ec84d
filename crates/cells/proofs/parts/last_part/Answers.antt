-- `cells::parts::last_part` meets its contract. The invariant: no part stands from that cell on. Assumes nothing.
use mathlib.Core.Path.{sym, ◌∙◌}
use native.Mathlib.Nat.{add-zero}
use borrow.Author.Tests.{eqb-true, eqb-false}
use Rattle.cells.proofs.Reading.{bare_start, bare_back, last_found}
use Rattle.cells.proofs.parts.last_part.Goals as goal

pub loop-last-init : goal.loop-last-init
loop-last-init c = bare_start c.args.cells.now c.args.n c.requires

pub returns-then-is : goal.returns-then-is
returns-then-is c =
    let a = c.args in
    let two = eqb-true _ _ (sym c.is.ensures ∙ c.if-is.true) in
    last_found a.cells.now a.n c.loop-last.last c.requires c.loop-last-test.true c.loop-last.auto.last (simp add-zero at two) c.loop-last.invariant

pub loop-last-preserved : goal.loop-last-preserved
loop-last-preserved c =
    let a = c.args in
    let other = eqb-false _ _ (sym c.is.ensures ∙ c.if-is.false) in
    bare_back a.cells.now a.n c.loop-last.last c.requires c.loop-last-test.true c.loop-last.auto.last (simp add-zero at other) c.loop-last.invariant

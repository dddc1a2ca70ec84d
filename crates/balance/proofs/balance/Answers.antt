-- `balance::balance` meets its contract: what is accepted can be balanced. Assumes nothing.
use Rattle.std.proofs.lemmas.Result.{err_from_is_err_and}
use lib.ListN.{length}
use mathlib.Core.Path.{sym}
use native.Mathlib.Omega.{arith}
use Rattle.rules.proofs.CallLaws.{balance_refused_by}
use Rattle.balance.proofs.Calling.{ready}
use Rattle.balance.proofs.balance.Goals as goal

pub returns-in_err-accept : goal.returns-in_err-accept
returns-in_err-accept c =
    let a = c.args in
    let p = err_from_is_err_and c.from_residual.result c.from_residual.ensures.1 in
    rw (p.1, p.2) (sym (balance_refused_by a.types a.cells.now a.words.now (length a.work.now) a.out.now c.in_err-accept.field-0.0 a.none_first a.packed.now c.in_err-accept.ensures))

pub balance_accepted-requires : goal.balance_accepted-requires
balance_accepted-requires c =
    let a = c.args in
    ready a.types a.none_first a.cells.now a.words.now _ a.out.now a.packed.now c.in_ok-accept.ensures
    c.if-cells-words-gt-MOST_ITEMS.false _ c.accept.auto.work (λ j. omega (arith, c.type_inv.words j))

-- `materialize::materialize` meets its contract: what is accepted can be written. Assumes nothing.
use Rattle.std.proofs.lemmas.Result.{err_from_is_err_and}
use native.Mathlib.Omega.{arith}
use lib.ListN.{length}
use mathlib.Core.Path.{sym}
use Rattle.rules.proofs.CallLaws.{materialise_refused_by}
use Rattle.materialize.proofs.Calling.{total_inside, ready}
use Rattle.materialize.proofs.materialize.Goals as goal

pub returns-in_err-accept : goal.returns-in_err-accept
returns-in_err-accept c =
    let a = c.args in
    let p = err_from_is_err_and c.from_residual.result c.from_residual.ensures.1 in
    rw (p.1, p.2) (sym (materialise_refused_by a.types a.cells.now a.words.now (length a.work.now) a.out.now c.in_err-accept.field-0.0 c.in_err-accept.ensures))

pub split_at_mut-roots-requires : goal.split_at_mut-roots-requires
split_at_mut-roots-requires c =
    let a = c.args in
    total_inside a.types a.cells.now a.words.now (length a.work.now) a.out.now c.in_ok-accept.ensures c.type_inv.words _ _ c.accept.auto.work c.count_cells-total.ensures

pub write_back-requires : goal.write_back-requires
write_back-requires c =
    let a = c.args in
    let e = c.split_at_mut-roots.ensures in
    ready a.types a.cells.now a.words.now (length a.work.now) a.out.now c.in_ok-accept.ensures
    (omega (arith, c.count_cells-total.ensures, c.if-total-gt4294967295.false)) c.count_cells-total.ensures c.if-out-total.false
    c.type_inv.words c.accept.auto.work c.split_at_mut-roots.result.0.now c.split_at_mut-roots.result.1.now e.front_len e.back_len

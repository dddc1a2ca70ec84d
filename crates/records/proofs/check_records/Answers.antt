-- `records::check_records` meets its contract, by cases of what the scan says. Assumes nothing.
use Rattle.std.proofs.Common.{Bool, Ok}
use Rattle.std.proofs.lemmas.Result.{err_from_is_err_and}
use mathlib.Core.Path.{subst}
use Rattle.records.specs.Taking.{Says}
use Rattle.records.proofs.Answers as A
use Rattle.records.proofs.check_records.Goals as goal

pub returns-in_err-scan_records : goal.returns-in_err-scan_records
returns-in_err-scan_records c =
    let p = err_from_is_err_and c.from_residual.result c.from_residual.ensures.1 in
    rw (p.1, p.2) (A.answer_refused c.args.types c.args.start c.args.records.now c.in_err-scan_records.field-0.0 c.in_err-scan_records.ensures)

pub returns-then-branch : goal.returns-then-branch
returns-then-branch c =
    let h = subst (λ (b : Bool). Says c.args.types c.args.start c.args.records.now (Ok b)) c.if-branch.true c.in_ok-scan_records.ensures in
    A.answer_ordered c.args.types c.args.start c.args.records.now h.0 h.1

pub returns : goal.returns
returns c =
    let clear = subst (λ (b : Bool). Says c.args.types c.args.start c.args.records.now (Ok b)) c.if-branch.false c.in_ok-scan_records.ensures in
    A.answer_unordered c.args.types c.args.start c.args.records.now clear _ c.check_ranges.ensures

-- `listing::list` meets its contract: the lines can be counted, and what is accepted can be written. Assumes nothing.
use Rattle.std.proofs.lemmas.Result.{err_from_is_err_and}
use mathlib.Core.Path.{sym, ap₂}
use Prim.Native.Nat.{ℕ, ◌+◌, ◌-◌, ◌/◌}
use native.Mathlib.Omega.{arith}
use lib.ListN.{length}
use Rattle.tree.specs.Cells.{cell_width}
use Rattle.rules.proofs.CallLaws.{list_refused_by}
use Rattle.part_lines.proofs.Counts.{listed_few}
use Rattle.listing.proofs.Writes.{lines_few}
use Rattle.listing.proofs.Cases.{notes_inside, all_lent}
use Rattle.listing.proofs.list.Goals as goal

pub returns-in_err-accept : goal.returns-in_err-accept
returns-in_err-accept c =
    let a = c.args in
    let p = err_from_is_err_and c.from_residual.result c.from_residual.ensures.1 in
    rw (p.1, p.2) (sym (list_refused_by a.types a.cells.now a.words.now (length a.work.now) a.lines.now c.in_err-accept.field-0.0 a.first_repeat a.start c.in_err-accept.ensures))

pub overflow_add-count : goal.overflow_add-count
overflow_add-count c =
    let a = c.args in
    omega (arith, c.count_listed-packed.ensures, c.count_lines-own.ensures, listed_few a.first_repeat a.words.now, lines_few a.first_repeat a.cells.now 1 (length a.cells.now / cell_width - 1))

pub split_at_mut-notes-requires : goal.split_at_mut-notes-requires
split_at_mut-notes-requires c =
    let a = c.args in
    notes_inside a.types a.first_repeat a.start a.cells.now a.words.now (length a.work.now) a.lines.now c.in_ok-accept.ensures _ c.accept.auto.work

pub write_lines-requires : goal.write_lines-requires
write_lines-requires c =
    let a = c.args in
    let e = c.split_at_mut-notes.ensures in
    all_lent a.types a.first_repeat a.start a.cells.now a.words.now (length a.work.now) a.lines.now c.in_ok-accept.ensures
    c.ranges.start.fits c.type_inv.words (ap₂ (λ (x y : ℕ). x + y) c.count_lines-own.ensures c.count_listed-packed.ensures)
    c.if-count-gt-MOST_LINES.false c.if-lines-count.false c.accept.auto.work e.front_len e.back_len

-- `build::build` meets its contract: the check refuses, or the accepted list is built. Assumes nothing.
use Rattle.std.proofs.Common.{arith, length, take, ◌+◌, ◌*◌, ◌≤◌, ◌≡◌}
use Rattle.std.proofs.lemmas.Result.{err_from_is_err_and}
use mathlib.Core.Path.{sym}
use lib.Seq.{length-take-le}
use Rattle.build.proofs.Calling.{refuses, few_counted, front_fits, listed, builds}
use Rattle.build.proofs.build.Goals.{In_ok-count}
use Rattle.build.proofs.build.Goals as goal

-- the words that the check asks for are there
fits : (k : In_ok-count) → 96 * k.in_ok-count.count + 96 ≤ length k.check.new.work
fits k =
    let a = k.args in
    let h = front_fits a.types a.first_repeat a.bound a.start a.top a.given (length a.work.now) a.records.now a.cells.now a.words.now k.in_ok-count.count k.in_ok-count.ensures in
    omega (arith, h, k.check.auto.work)

-- and only they are lent
front_long : (k : In_ok-count) → length (take (96 * k.in_ok-count.count + 96) k.check.new.work) ≡ 96 * k.in_ok-count.count + 96
front_long k = length-take-le (96 * k.in_ok-count.count + 96) k.check.new.work (fits k)

pub returns-in_err-count : goal.returns-in_err-count
returns-in_err-count c =
    let a = c.args in
    let p = err_from_is_err_and c.from_residual.result c.from_residual.ensures.1 in
    rw (p.1, p.2) (refuses a.types a.first_repeat a.bound a.start a.top a.given (length a.work.now) a.records.now a.cells.now a.words.now c.in_err-count.field-0.0 c.in_err-count.ensures)

pub overflow_mul-front : goal.overflow_mul-front
overflow_mul-front c =
    let a = c.args in
    let few = few_counted a.types a.first_repeat a.bound a.start a.top a.given (length a.work.now) a.records.now a.cells.now a.words.now c.in_ok-count.count c.in_ok-count.ensures in
    omega (arith, few)

pub overflow_add-front : goal.overflow_add-front
overflow_add-front c =
    let a = c.args in
    let few = few_counted a.types a.first_repeat a.bound a.start a.top a.given (length a.work.now) a.records.now a.cells.now a.words.now c.in_ok-count.count c.in_ok-count.ensures in
    omega (arith, few)

pub slice_bounds-front-end : goal.slice_bounds-front-end
slice_bounds-front-end c = fits (goal.at.slice_bounds-front-end c).In_ok-count

pub slice_bounds-front-end-2 : goal.slice_bounds-front-end-2
slice_bounds-front-end-2 c = sym (front_long (goal.at.slice_bounds-front-end-2 c).In_ok-count)

pub build_accepted-requires : goal.build_accepted-requires
build_accepted-requires c =
    let a = c.args in
    let k = (goal.at.build_accepted-requires c).In_ok-count in
    listed a.types a.first_repeat a.bound a.start a.top a.given (length a.work.now) a.records.now a.cells.now a.words.now c.in_ok-count.count c.in_ok-count.ensures
    (omega (arith, c.ranges.start)) (length (take (96 * c.in_ok-count.count + 96) c.check.new.work)) (front_long k)

pub returns : goal.returns
returns c =
    let a = c.args in
    builds a.types a.first_repeat a.bound a.start a.top a.given (length a.work.now) a.records.now a.cells.now a.words.now c.in_ok-count.count c.in_ok-count.ensures _ c.build_accepted.ensures

-- `run::run` meets its contract: the build is refused, or listing answers on what it wrote. Assumes nothing.
use Rattle.std.proofs.Common.{arith, length, ◌≡◌, ℕ, ◌*◌, ◌≤◌, [], ◌∷◌, Ok, Err}
use Rattle.std.specs.declared.result.Result as std
use mathlib.Core.Path.{refl, sym, ap, ◌∙◌}
use lib.Seq.{length-take-le}
use Rattle.words.specs.Outcome.{accepted}
use Rattle.words.specs.Refusal.{answered}
use Rattle.words.specs.declared.refusal.Refusal.{Refusal}
use Rattle.tree.specs.Cells.{cell_width}
use Rattle.tree.specs.Calls.{build_call}
use Rattle.tree.specs.Written.{written_counts}
use Rattle.tree.specs.declared.Written.{Written}
use Rattle.listing.specs.Answer.{listed_counts}
use Rattle.run.specs.Running.{none_left, followed, one_work, run_call}
use Rattle.run.proofs.Fitting.{build_fits}
use Rattle.run.proofs.Stepping.{result, run_refused, run_listed, list_refused}
use Rattle.run.proofs.run.Goals.{After-build, After-list, In-Ok}
use Rattle.run.proofs.run.Goals as goal

-- the answer of the build
built_as : (b : After-build) (v : std.Result Written Refusal) → b.build.result ≡ v
    → let a = b.args in result (answered written_counts v) (b.build.new.cells ∷ b.build.new.words ∷ []) ≡ build_call a.types a.first_repeat a.bound a.start a.top a.given (length a.work.now) a.records.now a.cells.now a.words.now
built_as b v e = ap (λ (x : std.Result Written Refusal). result (answered written_counts x) (b.build.new.cells ∷ b.build.new.words ∷ [])) (sym e) ∙ b.build.ensures

-- accepted, its counts stand in its outputs
fits_here : (k : In-Ok) → (cell_width * k.in-Ok.written.cells ≤ length k.build.new.cells) × (k.in-Ok.written.words ≤ length k.build.new.words)
fits_here k =
    let a = k.args in
    let n = k.in-Ok.written.cells in
    let m = k.in-Ok.written.words in
    let outputs = k.build.new.cells ∷ k.build.new.words ∷ [] in
    let f = build_fits a.types a.first_repeat a.bound a.start a.top a.given (length a.work.now) a.records.now a.cells.now a.words.now (result (accepted (n ∷ m ∷ [])) outputs) n m (built_as (goal.at.In-Ok k).After-build (Ok k.in-Ok.written) k.in-Ok.is) refl in
    (omega (arith, f.0, k.build.auto.cells), omega (arith, f.1, k.build.auto.words))

-- the answer of listing comes after the counts of the build
listed_as : (l : After-list) (v : std.Result ℕ Refusal) → l.list.result ≡ v
    → let a = l.args in
    followed (accepted (written_counts l.in-Ok.written)) (l.build.new.cells ∷ l.build.new.words ∷ []) (followed (answered listed_counts v) (l.list.new.lines ∷ []) none_left []) (a.lines.now ∷ [])
    ≡ run_call a.types a.first_repeat a.bound a.start a.top a.given (one_work (length a.work.now)) a.records.now a.cells.now a.words.now a.lines.now
listed_as l v e =
    let a = l.args in
    let listed = ap (λ (x : std.Result ℕ Refusal). result (answered listed_counts x) (l.list.new.lines ∷ [])) (sym e) ∙ l.list.ensures in
    run_listed a.types a.first_repeat a.bound a.start a.top a.given (length a.work.now) a.records.now a.cells.now a.words.now a.lines.now l.build.new.cells l.build.new.words
    l.in-Ok.written.cells l.in-Ok.written.words (built_as (goal.at.After-list l).After-build (Ok l.in-Ok.written) l.in-Ok.is)
    (length l.build.new.work) (omega (arith, l.build.auto.work)) (answered listed_counts v) l.list.new.lines listed

pub slice_bounds-built-end : goal.slice_bounds-built-end
slice_bounds-built-end c = (fits_here (goal.at.slice_bounds-built-end c).In-Ok).0

pub slice_bounds-parts-end : goal.slice_bounds-parts-end
slice_bounds-parts-end c = (fits_here (goal.at.slice_bounds-parts-end c).In-Ok).1

pub returns-in-Err : goal.returns-in-Err
returns-in-Err c =
    let a = c.args in
    run_refused a.types a.first_repeat a.bound a.start a.top a.given (length a.work.now) a.records.now a.cells.now a.words.now a.lines.now c.build.new.cells c.build.new.words
    c.in-Err.refusal (built_as (goal.at.returns-in-Err c).After-build (Err c.in-Err.refusal) c.in-Err.is)

pub returns-in-Ok-list : goal.returns-in-Ok-list
returns-in-Ok-list c = listed_as (goal.at.returns-in-Ok-list c).After-list (Ok c.in-Ok-list.count) c.in-Ok-list.is

pub returns-in-Err-list : goal.returns-in-Err-list
returns-in-Err-list c =
    let a = c.args in
    let w = c.in-Ok.written in
    list_refused a.types a.first_repeat a.bound a.start a.top a.given (length a.work.now) a.records.now a.cells.now a.words.now a.lines.now c.build.new.cells c.build.new.words w.cells w.words c.in-Err-list.refusal c.list.new.lines
    ∙ listed_as (goal.at.returns-in-Err-list c).After-list (Err c.in-Err-list.refusal) c.in-Err-list.is

pub overflow_mul-built : goal.overflow_mul-built
overflow_mul-built c = omega (arith, (fits_here (goal.at.overflow_mul-built c).In-Ok).0)

pub slice_bounds-built-end-2 : goal.slice_bounds-built-end-2
slice_bounds-built-end-2 c =
    let k = (goal.at.slice_bounds-built-end-2 c).In-Ok in
    sym (length-take-le (cell_width * k.in-Ok.written.cells) k.build.new.cells (fits_here k).0)

pub slice_bounds-parts-end-2 : goal.slice_bounds-parts-end-2
slice_bounds-parts-end-2 c =
    let k = (goal.at.slice_bounds-parts-end-2 c).In-Ok in
    sym (length-take-le k.in-Ok.written.words k.build.new.words (fits_here k).1)

-- `part::part_check` meets its contract: each return is one branch of the definition. Assumes nothing.
use Rattle.std.proofs.Common.{length, ◌≡◌, ℕ, ◌/◌, ◌%◌, ◌≤◌, List}
use Rattle.std.proofs.lemmas.Result.{err_from_is_err_and}
use borrow.Author.Tests.{le-ltb, eq-eqb}
use mathlib.Core.Path.{ap, ◌∙◌}
use Rattle.words.specs.Outcome.{Outcome}
use Rattle.part.specs.Part.{faults_from, part_check}
use Rattle.part.specs.Rebased.{rebased}
use Rattle.part.proofs.Rebased.{rebased_none}
use Rattle.part.proofs.part_check.Goals as goal

-- once 1 and 16 are passed, the outcome is that of the records
walked : (w : List ℕ) (types : ℕ) → types ≤ 65536 → length w % 4 ≡ 0 → (o : Outcome) → o ≡ faults_from (rebased 0 0 w) types 0 (length w / 4) → o ≡ part_check w types
unfolding part_check
walked w types few whole o e =
    simp (le-ltb 65536 types few, eq-eqb _ _ whole)
    (e ∙ ap (λ (v : List ℕ). faults_from v types 0 (length w / 4)) (rebased_none w whole))

pub returns-in_err-check_cut : goal.returns-in_err-check_cut
returns-in_err-check_cut c =
    let p = err_from_is_err_and c.from_residual.result c.from_residual.ensures.1 in
    rw (p.1, p.2) (walked c.args.words.now c.args.types c.if-types-gt65536.false c.if-words-ne0.false _ c.in_err-check_cut.ensures)

pub returns : goal.returns
returns c = walked c.args.words.now c.args.types c.if-types-gt65536.false c.if-words-ne0.false _ c.in_ok-check_cut.ensures

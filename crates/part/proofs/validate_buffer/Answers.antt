-- `part::validate_buffer` meets its contract. The invariant: the array holds the ends of the open records, the check of the records
-- from i on gives the same outcome as the check of all, and so do the counts. Assumes nothing.
use Rattle.std.proofs.Common.{arith, length, ◌≡◌, ℕ, ◌*◌, ◌/◌, [], ◌∷◌}
use Rattle.std.proofs.lemmas.Result.{IfOk-at_ok}
use mathlib.Core.Path.{sym, ◌∙◌, refl, ap}
use Rattle.words.specs.Outcome.{accepted, refused}
use Rattle.words.specs.Refusal.{packed_number}
use Rattle.words.proofs.Refusals.{some_packed_number}
use Rattle.part.specs.Part.{fault, faults_from}
use Rattle.part.specs.Rebased.{rebased}
use Rattle.part.specs.Open.{Passed}
use Rattle.part.specs.Answer.{number_or_none}
use Rattle.part.proofs.Faults.{from_fault, from_clear, from_end}
use Rattle.part.proofs.OneRecord.{same_length}
use Rattle.part.proofs.OpenEnds.{stack_none}
use Rattle.part.proofs.Counts.{counted_none, counted_next, counted_greatest, counted_deepest}
use Rattle.part.proofs.validate_buffer.Goals as goal

-- the counts, each by its equation
told : {a b c d e f : ℕ} → a ≡ b → c ≡ d → e ≡ f → accepted (a ∷ d ∷ f ∷ []) ≡ accepted (b ∷ c ∷ e ∷ [])
told p q r = rw (p, q, r)

pub loop-i-init : goal.loop-i-init
loop-i-init c =
    let v = rebased c.args.from 0 c.args.words.now in
    let same = same_length c.args.words.now c.args.from 0 c.requires.record_width_len in
    (refl, stack_none v c.args.ends.now (omega (arith, same, c.requires.record_width_in_bounds)), counted_none v, ap (faults_from v c.args.types 0) (omega arith))

pub returns-in-Err : goal.returns-in-Err
returns-in-Err c =
    let i = c.loop-i.i in
    let v = rebased c.args.from 0 c.args.words.now in
    let is : packed_number c.in-Err.fault ≡ fault v c.args.types i = ap number_or_none (sym c.in-Err.is) ∙ c.check_record.ensures.fault_is in
    sym (c.loop-i.invariant.3
    ∙ (from_fault v c.args.types i (length c.args.words.now / 4) c.loop-i-test.true (λ e. some_packed_number c.in-Err.fault (is ∙ e))
    ∙ ap (λ (n : ℕ). refused n (i * 4)) (sym is)))

pub loop-i-preserved : goal.loop-i-preserved
loop-i-preserved c =
    let i = c.loop-i.i in
    let v = rebased c.args.from 0 c.args.words.now in
    let clear : 0 ≡ fault v c.args.types i = ap number_or_none (sym c.in-Ok.is) ∙ c.check_record.ensures.fault_is in
    let p = IfOk-at_ok (Passed v i c.loop-i.ends c.check_record.new.ends c.loop-i.s) c.in-Ok.is c.check_record.ensures.passed in
    let same = same_length c.args.words.now c.args.from i c.requires.record_width_len in (
      omega (arith, c.loop-i.invariant.0, c.check_record.auto),
      p.stack,
      counted_next v i _ _ c.loop-i.invariant.2 _ _ (omega (arith, same, c.loop-i-test.true)) p.greatest_is p.deepest_is,
      c.loop-i.invariant.3 ∙ from_clear v c.args.types i (length c.args.words.now / 4) c.loop-i-test.true (sym clear),
    )

pub returns : goal.returns
returns c =
    let v = rebased c.args.from 0 c.args.words.now in
    let n = length c.args.words.now / 4 in
    let same : length v / 4 ≡ n = omega (arith, same_length c.args.words.now c.args.from 0 c.requires.record_width_len) in
    let greatest = counted_greatest v c.loop-i.i _ _ c.loop-i.invariant.2 (omega (arith, same, c.loop-i-test.false)) in
    let deepest = counted_deepest v c.loop-i.i _ _ c.loop-i.invariant.2 (omega (arith, same, c.loop-i-test.false)) in
    sym (c.loop-i.invariant.3 ∙ (from_end v c.args.types c.loop-i.i n c.loop-i-test.false ∙ told same greatest deepest))

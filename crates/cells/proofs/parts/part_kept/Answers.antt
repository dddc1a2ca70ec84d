-- `cells::parts::part_kept` meets its contract: each turn is one of the loop over lists. Assumes nothing.
use Rattle.std.proofs.Common.{arith, ◌≡◌, ℕ, ◌-◌}
use Rattle.std.proofs.lemmas.Result.{IfOk-at_ok}
use mathlib.Core.Path.{ap, sym, ◌∙◌}
use lib.Dec.{leb}
use Rattle.words.specs.Words.{end_of}
use Rattle.words.proofs.Refusals.{some_packed_number}
use Rattle.part.specs.Answer.{number_or_none}
use Rattle.part.specs.Part.{fault}
use Rattle.part.specs.Open.{Passed, Tested}
use Rattle.cells.specs.Parts.{past_parent}
use Rattle.cells.proofs.Scanning.{kept_ragged}
use Rattle.cells.proofs.PartLoop.{going_start, going_end, as_itself, stack_itself, faulty, past, early, going_next, read_again}
use Rattle.cells.proofs.parts.part_kept.Goals.{After-check_record, After-past_parent, In-Ok}
use Rattle.cells.proofs.parts.part_kept.Goals as goal

-- once record i is tested
tested : (k : After-check_record) → Tested k.args.part.now k.args.types k.loop-i.i k.loop-i.indices k.check_record.new.ends k.loop-i.s k.check_record.result
tested k = as_itself k.args.types k.args.part.now k.loop-i.i k.loop-i.indices k.check_record.new.ends k.loop-i.s k.check_record.result k.if-part-ne0.false k.check_record.ensures

-- it has no fault
module _ (k : In-Ok) where
  abbrev test₂ : Tested k.args.part.now k.args.types k.loop-i.i k.loop-i.indices k.check_record.new.ends k.loop-i.s k.check_record.result
  test₂ = tested (goal.at.In-Ok k).After-check_record

  clear : fault k.args.part.now k.args.types k.loop-i.i ≡ 0
  clear = sym (ap number_or_none (sym k.in-Ok.is) ∙ test₂.fault_is)

  passed : Passed k.args.part.now k.loop-i.i k.loop-i.indices k.check_record.new.ends k.loop-i.s k.in-Ok.next
  passed = IfOk-at_ok (Passed k.args.part.now k.loop-i.i k.loop-i.indices k.check_record.new.ends k.loop-i.s) k.in-Ok.is test₂.passed

-- whether the record's end is past its parent's, once that is read
past_at : (c : After-past_parent) → c.past_parent.result ≡ past_parent c.loop-i.ends (c.in-Ok.next.top - 1) (end_of c.args.part.now c.loop-i.i)
past_at c = c.past_parent.ensures ∙ ap (past_parent c.loop-i.ends (c.in-Ok.next.top - 1)) c.from-end.ensures

pub returns-then-part-ne0 : goal.returns-then-part-ne0
returns-then-part-ne0 c =
    kept_ragged c.args.types c.args.len c.args.part.now c.requires.types_bound c.if-part-ne0.true

pub loop-i-init : goal.loop-i-init
loop-i-init c =
    going_start c.args.types c.args.len c.args.part.now c.args.indices.now c.args.ends.now c.requires.types_bound c.if-part-ne0.false c.requires.room

pub check_record-requires-clause-stack : goal.check_record-requires-clause-stack
check_record-requires-clause-stack c = stack_itself c.args.part.now c.loop-i.i c.loop-i.s.top c.loop-i.indices c.if-part-ne0.false c.loop-i.invariant.stack

pub returns-in_default : goal.returns-in_default
returns-in_default c =
    let d = tested (goal.at.returns-in_default c).After-check_record in
    let is = ap number_or_none (sym c.in_default.is) ∙ d.fault_is in
    faulty c.args.types c.args.len c.args.part.now _ _ c.loop-i.s _ _ c.loop-i.invariant c.loop-i-test.true (λ e. some_packed_number c.in_default.field-0 (is ∙ e))

pub returns-then-past_parent : goal.returns-then-past_parent
returns-then-past_parent c =
    let d = goal.at.returns-then-past_parent c in
    past c.args.types c.args.len c.args.part.now _ _ c.loop-i.s _ _ c.loop-i.invariant c.loop-i-test.true _ c.in-Ok.next (clear d.In-Ok) (passed d.In-Ok)
    (sym (past_at d.After-past_parent) ∙ c.if-past_parent.true)

pub returns-then-start-earliest_start : goal.returns-then-start-earliest_start
returns-then-start-earliest_start c =
    let k = (goal.at.returns-then-start-earliest_start c).In-Ok in
    early c.args.types c.args.len c.args.part.now _ _ c.loop-i.s _ _ c.loop-i.invariant c.loop-i-test.true _ c.in-Ok.next (clear k) (passed k)
    (omega (arith, c.from-start.ensures, c.earliest_start.ensures, c.if-start-earliest_start.true))

pub loop-i-preserved : goal.loop-i-preserved
loop-i-preserved c =
    let d = goal.at.loop-i-preserved c in
    read_again c.args.types c.args.len c.args.part.now _ c.loop-i.ends _ _ _ c.loop-i.i _ c.from-start.ensures c.from-end.ensures
    (going_next c.args.types c.args.len c.args.part.now _ _ c.loop-i.s _ _ c.loop-i.invariant c.loop-i-test.true _ c.in-Ok.next (clear d.In-Ok) (passed d.In-Ok)
    (sym (past_at d.After-past_parent) ∙ c.if-past_parent.false) (omega (arith, c.from-start.ensures, c.earliest_start.ensures, c.if-start-earliest_start.false)) (omega (arith, c.requires.room.for_ends)))

pub returns : goal.returns
returns c =
    ap (λ (g : ℕ). leb g c.args.len) c.from.ensures
    ∙ going_end c.args.types c.args.len c.args.part.now _ _ c.loop-i.s _ _ c.loop-i.invariant c.loop-i-test.false c.if-part-ne0.false

-- `records::scan_records` meets its contract: the invariant is `Scanning` before each record, and each way through the loop is
-- one law of proofs/Scanning. Assumes nothing.
use Rattle.std.proofs.Common.{arith, length, ◌≡◌, ℕ, ◌+◌, ◌-◌, ◌/◌, Bool, true, false, List, [], None, Ok}
use mathlib.Core.Path.{refl, sym, ap, ◌∙◌}
use Rattle.words.specs.Outcome.{accepted}
use Rattle.words.proofs.Refusals.{some_list_number}
use Rattle.records.specs.Answer.{number_or_none}
use Rattle.records.specs.Forest.{empty}
use Rattle.records.specs.Check.{records_check, list_range_fault}
use Rattle.records.specs.Taking.{Says}
use Rattle.records.proofs.Scanning as C
use Rattle.records.proofs.scan_records.Goals.{After-span, In_default}
use Rattle.records.proofs.scan_records.Goals as goal

-- record i, which has no fault of its own
module _ (a : In_default) where
  here : C.Here a.args.types a.args.start a.args.records.now a.loop-i.levels a.loop-i.siblings (length a.args.records.now / 4) a.loop-i.i a.loop-i.height a.loop-i.ordered a.record_at-r.result
  here = record {
    scan = a.loop-i.invariant;
    less = a.loop-i-test.true;
    is = a.record_at-r.ensures;
    own = ap number_or_none (sym a.in_default.is) ∙ a.check_own.ensures;
    last = omega arith;
  }

-- what the scan says at the end of the list
says : (T S : ℕ) (ws : List ℕ) (ordered : Bool) → records_check T empty ws ≡ accepted [] → (ordered ≡ true → list_range_fault S ws ≡ None) → Says T S ws (Ok ordered)
says T S ws true clear h = (clear, h refl)
says T S ws false clear h = clear

-- a record with descendants
module _ (b : After-span) where
  inside : C.Inside b.record_at-r.result b.loop-i.i b.span.result (b.loop-i.i + 1 - b.span.result)
  inside = record { spans = b.span.ensures; more = b.if-r-eq-RECORD_SIZE.false; begins = refl }

  abbrev a : In_default
  a = (goal.at.After-span b).In_default

pub loop-i-init : goal.loop-i-init
loop-i-init c = C.scan_none _ _ _ _ _ _ (omega (arith, c.ranges.start)) (omega (arith, c.requires.record_width_len)) c.requires.levels_in_bounds c.requires.siblings_in_bounds

pub returns-in-Err : goal.returns-in-Err
returns-in-Err c =
    let is = ap number_or_none (sym c.in-Err.is) ∙ c.check_own.ensures in
    C.scan_own c.loop-i.invariant c.loop-i-test.true c.record_at-r.ensures is (some_list_number c.in-Err.fault)

pub loop-i-preserved-then-r-eq-RECORD_SIZE : goal.loop-i-preserved-then-r-eq-RECORD_SIZE
loop-i-preserved-then-r-eq-RECORD_SIZE c =
    C.scan_leaf (here (goal.at.loop-i-preserved-then-r-eq-RECORD_SIZE c).In_default) c.if-r-eq-RECORD_SIZE.true c.follows-ordered.ensures refl c.push.ensures.level_set c.push.ensures.sibling_set

pub overflow_sub-from : goal.overflow_sub-from
overflow_sub-from c =
    let p = (goal.at.overflow_sub-from c).After-span in
    let s = C.sized_at (here (a p)) (inside p) in
    omega (arith, s.few, s.some_span)

pub bounds-levels-from : goal.bounds-levels-from
bounds-levels-from c =
    let p = (goal.at.bounds-levels-from c).After-span in
    let s = here (a p) in
    omega (arith, C.begins_before s (inside p), s.scan.levels, s.less)

pub returns-then-not-begins : goal.returns-then-not-begins
returns-then-not-begins c =
    let p = (goal.at.returns-then-not-begins c).After-span in
    C.scan_crossing (here (a p)) (inside p) _ c.begins.ensures refl c.if-not-begins.true

pub overflow_sub-i : goal.overflow_sub-i
overflow_sub-i c =
    let p = (goal.at.overflow_sub-i c).After-span in
    omega (arith, C.begins_before (here (a p)) (inside p))

pub follows-requires : goal.follows-requires
follows-requires c =
    let p = (goal.at.follows-requires c).After-span in
    C.spelt_before (here (a p)) (inside p) _ c.begins.ensures c.if-not-begins.false

pub loop-i-preserved : goal.loop-i-preserved
loop-i-preserved c =
    let p = (goal.at.loop-i-preserved c).After-span in
    C.scan_parent (here (a p)) (inside p) _ c.begins.ensures c.if-not-begins.false c.record_at.ensures refl c.covers-held.ensures c.follows.ensures refl
    refl refl

pub returns : goal.returns
returns c = says _ _ _ c.loop-i.ordered (C.scan_clear c.loop-i.invariant c.loop-i-test.false) (C.scan_ordered c.loop-i.invariant c.loop-i-test.false)

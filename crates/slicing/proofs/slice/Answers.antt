-- `slicing::slice` meets its contract: each return is one case of the definition. Assumes nothing.
use Rattle.std.proofs.Common.{arith, rules, length, get_or, ◌≡◌, ℕ, ◌+◌, ◌-◌, ◌*◌, ◌/◌, ◌≤◌, ◌<◌, List, None}
use Rattle.std.proofs.lemmas.Result.{err_from_is_err_and}
use mathlib.Core.Path.{sym, ap, ◌∙◌}
use lib.Dec.{ltb}
use Rattle.words.specs.Outcome.{accepted, refused, number_of, place_of}
use Rattle.words.specs.Words.{start_of, run}
use Rattle.words.specs.Refusal.{packed_number, refused_by}
use Rattle.words.proofs.Firsts.{some_from}
use Rattle.words.proofs.Refusals.{told}
use Rattle.words.proofs.Runs.{run_length, run_word}
use Rattle.std.specs.declared.result.Result.TheVariants.{Ok, Err}
use Rattle.words.specs.declared.refusal.Refusal.TheVariants.{Packed}
use Rattle.part.specs.declared.BadRecord.{BadRecord}
use Rattle.part.specs.Part.{greatest_end, faults_from, part_check}
use Rattle.part.specs.Rebased.{rebased}
use Rattle.part.specs.Answer.{figures, outcome_of}
use Rattle.part.proofs.Faults.{refused_place, accepted_counts}
use Rattle.part.proofs.GreatestEnd.{greatest_above}
use Rattle.part.proofs.Rebased.{rebased_at, rebased_length}
use Rattle.slicing.specs.Rebasing.{Rebasable}
use Rattle.slicing.specs.Slice.{starts_below}
use Rattle.slicing.proofs.Cases.{by_check, reversed, past, uneven_start, uneven_stop, low, by_cut, accepts, accepts_none}
use Rattle.slicing.proofs.Cut.{rebasable, part_small}
use Rattle.slicing.proofs.slice.Goals.{Else-from-to, Else-to-ne0, In_err-figures, In_default, In_ok-figures, In-Some, After-check_cut-checked, In_ok-part_check}
use Rattle.slicing.proofs.slice.Goals as goal

-- the part passed the check
module _ (e : In_ok-part_check) where
  abbrev counts₁ : List ℕ
  counts₁ = figures e.in_ok-part_check.field-0

  ok_at : part_check e.args.words.now e.args.types ≡ accepted counts₁
  ok_at = sym e.in_ok-part_check.ensures

  -- a word has 16 bits
  word_at : (k : ℕ) → get_or e.args.words.now k 0 < 65536
  word_at k = omega (arith, e.type_inv.words k)

  small_at : length e.args.words.now < 65536
  small_at = part_small e.args.words.now e.args.types counts₁ ok_at word_at

-- both bounds are in order
module _ (f : Else-to-ne0) where
  abbrev part₂ : In_ok-part_check
  part₂ = (goal.at.Else-to-ne0 f).In_ok-part_check

  abbrev cut₂ : List ℕ
  cut₂ = run f.args.words.now f.args.from f.args.to

  -- the cut with its end indices counted from its start, and its check
  abbrev v₂ : List ℕ
  v₂ = rebased f.args.from 0 cut₂

  long_at : length cut₂ ≡ f.args.to - f.args.from
  long_at = run_length f.args.words.now f.args.from f.args.to f.if-to-from.false f.if-words-to.false

  -- offsets in the part fit 16 bits
  within_at : f.args.to < 65536
  within_at = omega (arith, small_at part₂, f.if-words-to.false)

-- a record starts below the base
lowest_at : (k : In-Some) → k.in-Some.i < length (cut₂ (goal.at.In-Some k).Else-to-ne0) / 4
lowest_at k =
    let cut = cut₂ (goal.at.In-Some k).Else-to-ne0 in
    omega (arith, some_from (λ (i : ℕ). ltb (start_of cut i) k.args.base) 0 (length cut / 4) k.in-Some.i (sym k.starts_below.ensures ∙ k.in-Some.is))

-- no record does
module _ (t : In_default) where
  abbrev bounds₄ : Else-to-ne0
  bounds₄ = (goal.at.In_default t).Else-to-ne0

  high_at : starts_below (cut₂ bounds₄) t.args.base ≡ None
  high_at = sym t.starts_below.ensures ∙ t.in_default.is

  rebasable_at : (room : ℕ) → t.args.to - t.args.from ≤ room → Rebasable (cut₂ bounds₄) t.args.from t.args.base room
  rebasable_at room l =
      let p = part₂ bounds₄ in
      rebasable t.args.words.now t.args.types t.args.from t.args.to (counts₁ p) (ok_at p) t.if-to-from.false t.if-words-to.false t.if-from-ne0.false t.args.base room high_at l

-- the cut is refused: the place is one of the cut's
module _ (k : After-check_cut-checked) (bad : BadRecord) (is : k.check_cut-checked.result ≡ Err bad) where
  abbrev bounds₅ : Else-to-ne0
  bounds₅ = (goal.at.After-check_cut-checked k).Else-to-ne0

  bad_at : faults_from (v₂ bounds₅) k.args.types 0 (length (cut₂ bounds₅) / 4) ≡ refused (packed_number bad.fault) bad.at
  bad_at = sym k.check_cut-checked.ensures ∙ ap outcome_of is

  small_bad : k.args.from + bad.at < 65536
  small_bad = omega (arith, refused_place (v₂ bounds₅) k.args.types 0 (length (cut₂ bounds₅) / 4) (packed_number bad.fault) bad.at bad_at, long_at bounds₅, within_at bounds₅, k.if-to-from.false)

-- the cut passed its check
module _ (u : In_ok-figures) where
  abbrev bounds₆ : Else-to-ne0
  bounds₆ = (goal.at.In_ok-figures u).Else-to-ne0

  abbrev greatest₆ : ℕ
  greatest₆ = u.in_ok-figures.figures.greatest

  good_at : faults_from (v₂ bounds₆) u.args.types 0 (length (cut₂ bounds₆) / 4) ≡ accepted (figures u.in_ok-figures.figures)
  good_at = let q : u.check_cut-checked.result ≡ Ok u.in_ok-figures.figures = search rules in sym u.check_cut-checked.ensures ∙ ap outcome_of q

  greatest_at : greatest₆ ≡ greatest_end (v₂ bounds₆)
  greatest_at = let h = accepted_counts (v₂ bounds₆) u.args.types 0 (length (cut₂ bounds₆) / 4) (figures u.in_ok-figures.figures) good_at in cc

-- there is a record, and it starts at the base or after it
module _ (c : Else-from-to) where
  abbrev bounds₇ : Else-to-ne0
  bounds₇ = (goal.at.Else-from-to c).Else-to-ne0

  abbrev cut₇ : List ℕ
  cut₇ = cut₂ bounds₇

  some_record : 4 ≤ length cut₇
  some_record = omega (arith, c.if-from-to.false, c.if-to-from.false, c.if-from-ne0.false, c.if-to-ne0.false, long_at bounds₇)

  rebasable₇ : Rebasable cut₇ c.args.from c.args.base (length c.args.out.now)
  rebasable₇ = rebasable_at (goal.at.Else-from-to c).In_default (length c.args.out.now) (omega arith)

  starts₇ : c.args.base ≤ start_of cut₇ 0
  starts₇ = rebasable₇.starts 0 (omega (arith, some_record))

  base_small : c.args.base < 65536
  base_small =
      let first = run_word c.args.words.now c.args.from c.args.to c.if-to-from.false c.if-words-to.false 1 (omega (arith, some_record, long_at bounds₇)) in
      omega (arith, starts₇, first, word_at (part₂ bounds₇) (c.args.from + 1))

  -- the base is at or before the greatest end
  base_low : c.args.base ≤ c.in_ok-figures.figures.greatest
  base_low =
      let fits : 0 * 4 + 4 ≤ length (v₂ bounds₇) = omega (arith, rebased_length c.args.from 0 cut₇, some_record) in
      let same = (rebased_at c.args.from 0 cut₇ 0 (omega (arith, some_record))).end in
      omega (arith, starts₇, rebasable₇.order 0 (omega (arith, some_record)), same, greatest_above (v₂ bounds₇) 0 fits, greatest_at (goal.at.Else-from-to c).In_ok-figures)

pub returns-in_err-part_check : goal.returns-in_err-part_check
returns-in_err-part_check c =
    let a = c.args in
    let p = err_from_is_err_and c.from_residual.result c.from_residual.ensures.1 in
    let r = c.in_err-part_check.field-0.0 in
    rw (p.1, p.2, told r) (by_check a.words.now a.types a.from a.to a.base a.out.now (number_of (refused_by r)) (place_of (refused_by r)) (sym c.in_err-part_check.ensures ∙ told r))

pub returns-then-to-from : goal.returns-then-to-from
returns-then-to-from c =
    let a = c.args in
    let e = (goal.at.returns-then-to-from c).In_ok-part_check in
    reversed a.words.now a.types a.from a.to a.base a.out.now (counts₁ e) (ok_at e) c.if-to-from.true

pub returns-then-words-to : goal.returns-then-words-to
returns-then-words-to c =
    let a = c.args in
    let e = (goal.at.returns-then-words-to c).In_ok-part_check in
    past a.words.now a.types a.from a.to a.base a.out.now (counts₁ e) (ok_at e) c.if-to-from.false c.if-words-to.true

pub returns-then-from-ne0 : goal.returns-then-from-ne0
returns-then-from-ne0 c =
    let a = c.args in
    let e = (goal.at.returns-then-from-ne0 c).In_ok-part_check in
    uneven_start a.words.now a.types a.from a.to a.base a.out.now (counts₁ e) (ok_at e) c.if-to-from.false c.if-words-to.false c.if-from-ne0.true

pub returns-then-to-ne0 : goal.returns-then-to-ne0
returns-then-to-ne0 c =
    let a = c.args in
    let e = (goal.at.returns-then-to-ne0 c).In_ok-part_check in
    uneven_stop a.words.now a.types a.from a.to a.base a.out.now (counts₁ e) (ok_at e) c.if-to-from.false c.if-words-to.false c.if-from-ne0.false c.if-to-ne0.true

pub overflow_mul-result : goal.overflow_mul-result
overflow_mul-result c =
    let d = goal.at.overflow_mul-result c in
    omega (arith, lowest_at d.In-Some, long_at d.Else-to-ne0, within_at d.Else-to-ne0)

pub overflow_add-result : goal.overflow_add-result
overflow_add-result c =
    let d = goal.at.overflow_add-result c in
    omega (arith, lowest_at d.In-Some, long_at d.Else-to-ne0, within_at d.Else-to-ne0, c.if-to-from.false)

pub returns-in-Some : goal.returns-in-Some
returns-in-Some c =
    let a = c.args in
    let e = (goal.at.returns-in-Some c).In_ok-part_check in
    low a.words.now a.types a.from a.to a.base a.out.now (counts₁ e) (ok_at e) c.if-to-from.false c.if-words-to.false c.if-from-ne0.false c.if-to-ne0.false
    c.in-Some.i (sym c.starts_below.ensures ∙ c.in-Some.is)

pub overflow_cast-from : goal.overflow_cast-from
overflow_cast-from c = omega (arith, within_at (goal.at.overflow_cast-from c).Else-to-ne0, c.if-to-from.false)

pub check_cut-checked-requires : goal.check_cut-checked-requires
check_cut-checked-requires c = omega (arith, long_at (goal.at.check_cut-checked-requires c).Else-to-ne0, c.if-from-ne0.false, c.if-to-ne0.false, c.if-to-from.false)

pub map_err-requires : goal.map_err-requires
map_err-requires c =
    let small = small_bad (goal.at.map_err-requires c).After-check_cut-checked in
    search (rules, small)

pub returns-in_err-figures : goal.returns-in_err-figures
returns-in_err-figures c =
    let a = c.args in
    let d = goal.at.returns-in_err-figures c in
    let e = d.In_ok-part_check in
    let q : (bad : BadRecord) × (c.check_cut-checked.result ≡ Err bad) × (c.in_err-figures.field-0.0 ≡ Packed bad.fault (a.from + bad.at)) = search rules in
    let p = err_from_is_err_and c.from_residual-in_err-figures.result c.from_residual-in_err-figures.ensures.1 in
    rw (p.1, p.2, q.2) (by_cut a.words.now a.types a.from a.to a.base a.out.now (counts₁ e) (ok_at e) c.if-to-from.false c.if-words-to.false c.if-from-ne0.false c.if-to-ne0.false
    (high_at d.In_default) (packed_number q.0.fault) q.0.at (bad_at d.After-check_cut-checked q.0 q.1))

pub returns-then-from-to : goal.returns-then-from-to
returns-then-from-to c =
    let a = c.args in
    let d = goal.at.returns-then-from-to c in
    let e = d.In_ok-part_check in
    accepts_none a.words.now a.types a.from a.to a.base a.out.now (counts₁ e) (ok_at e) c.if-to-from.false c.if-words-to.false c.if-from-ne0.false c.if-to-ne0.false
    (high_at d.In_default) (figures c.in_ok-figures.figures) (good_at d.In_ok-figures) (omega arith) c.if-from-to.true

pub overflow_cast-from-2 : goal.overflow_cast-from-2
overflow_cast-from-2 c = omega (arith, within_at (goal.at.overflow_cast-from-2 c).Else-to-ne0, c.if-to-from.false)

pub overflow_cast-base : goal.overflow_cast-base
overflow_cast-base c = omega (arith, base_small (goal.at.overflow_cast-base c).Else-from-to)

pub rebase-requires : goal.rebase-requires
rebase-requires c = rebasable₇ (goal.at.rebase-requires c).Else-from-to

pub overflow_cast-result : goal.overflow_cast-result
overflow_cast-result c = omega (arith, base_small (goal.at.overflow_cast-result c).Else-from-to)

pub overflow_sub-result-2 : goal.overflow_sub-result-2
overflow_sub-result-2 c = base_low (goal.at.overflow_sub-result-2 c).Else-from-to

pub returns : goal.returns
returns c =
    let a = c.args in
    let d = goal.at.returns c in
    let e = d.In_ok-part_check in
    accepts a.words.now a.types a.from a.to a.base a.out.now (counts₁ e) (ok_at e) c.if-to-from.false c.if-words-to.false c.if-from-ne0.false c.if-to-ne0.false
    (high_at d.In_default) (figures c.in_ok-figures.figures) (good_at d.In_ok-figures) (omega arith) c.in_ok-figures.figures.greatest c.rebase.new.out
    (greatest_at d.In_ok-figures) c.rebase.ensures

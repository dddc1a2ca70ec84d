-- `search::search` meets its contract: each return is one case of the definition. Assumes nothing.
use Rattle.std.proofs.Common.{length, true, ◌≡◌, ℕ, List, None, ℤ}
use Rattle.std.proofs.lemmas.Result.{err_from_is_err_and}
use mathlib.Core.Path.{sym, ap, ap₂, ◌∙◌}
use mir.Facts.{to_z-of_z}
use Rattle.words.specs.Outcome.{accepted, number_of, place_of}
use Rattle.words.specs.Refusal.{refused_by}
use Rattle.words.proofs.Refusals.{told}
use Rattle.part.specs.Answer.{figures}
use Rattle.part.specs.Part.{part_check}
use Rattle.search.specs.Way.{Linked}
use Rattle.search.specs.Search.{meets, beyond, child, match_counts}
use Rattle.search.proofs.Cases.{linked, by_check, reversed, past, uneven_start, uneven_stop, never_met, too_far, searched}
use Rattle.search.proofs.search.Goals.{Else-not-way_meets, Else-to-ne0, In_ok-part_check}
use Rattle.search.proofs.search.Goals as goal

-- the part passed the check
module _ (e : In_ok-part_check) where
  abbrev counts₁ : List ℕ
  counts₁ = figures e.in_ok-part_check.field-0

  ok_at : part_check e.args.words.now e.args.types ≡ accepted counts₁
  ok_at = sym e.in_ok-part_check.ensures

-- and so did the bounds
linked_at : (f : Else-to-ne0) → Linked f.args.words.now f.args.from f.args.to
linked_at f =
    let e = (goal.at.Else-to-ne0 f).In_ok-part_check in
    linked f.args.words.now f.args.types f.args.from f.args.to (counts₁ e) (ok_at e) f.if-to-from.false f.if-words-to.false f.if-from-ne0.false

-- the second bound is met
met_at : (c : Else-not-way_meets) → meets c.args.words.now (length c.args.words.now) c.args.from c.args.to ≡ true
met_at c = sym c.way_meets.ensures ∙ c.if-not-way_meets.false

pub returns-in_err-part_check : goal.returns-in_err-part_check
returns-in_err-part_check c =
    let a = c.args in
    let p = err_from_is_err_and c.from_residual.result c.from_residual.ensures.1 in
    let r = c.in_err-part_check.field-0.0 in
    rw (p.1, p.2, told r) (sym (by_check a.words.now a.types a.from a.to a.direction a.position a.base a.side (number_of (refused_by r)) (place_of (refused_by r)) (sym c.in_err-part_check.ensures ∙ told r)))

pub returns-then-to-from : goal.returns-then-to-from
returns-then-to-from c =
    let a = c.args in
    let e = (goal.at.returns-then-to-from c).In_ok-part_check in
    sym (reversed a.words.now a.types a.from a.to a.direction a.position a.base a.side (counts₁ e) (ok_at e) c.if-to-from.true)

pub returns-then-words-to : goal.returns-then-words-to
returns-then-words-to c =
    let a = c.args in
    let e = (goal.at.returns-then-words-to c).In_ok-part_check in
    sym (past a.words.now a.types a.from a.to a.direction a.position a.base a.side (counts₁ e) (ok_at e) c.if-to-from.false c.if-words-to.true)

pub returns-then-from-ne0 : goal.returns-then-from-ne0
returns-then-from-ne0 c =
    let a = c.args in
    let e = (goal.at.returns-then-from-ne0 c).In_ok-part_check in
    sym (uneven_start a.words.now a.types a.from a.to a.direction a.position a.base a.side (counts₁ e) (ok_at e) c.if-to-from.false c.if-words-to.false c.if-from-ne0.true)

pub returns-then-to-ne0 : goal.returns-then-to-ne0
returns-then-to-ne0 c =
    let a = c.args in
    let e = (goal.at.returns-then-to-ne0 c).In_ok-part_check in
    sym (uneven_stop a.words.now a.types a.from a.to a.direction a.position a.base a.side (counts₁ e) (ok_at e) c.if-to-from.false c.if-words-to.false c.if-from-ne0.false c.if-to-ne0.true)

pub way_meets-requires : goal.way_meets-requires
way_meets-requires c = linked_at (goal.at.way_meets-requires c).Else-to-ne0

pub returns-then-not-way_meets : goal.returns-then-not-way_meets
returns-then-not-way_meets c =
    let a = c.args in
    let e = (goal.at.returns-then-not-way_meets c).In_ok-part_check in
    sym (never_met a.words.now a.types a.from a.to a.direction a.position a.base a.side (counts₁ e) (ok_at e) c.if-to-from.false c.if-words-to.false c.if-from-ne0.false c.if-to-ne0.false
    (sym c.way_meets.ensures ∙ c.if-not-way_meets.true))

pub way_beyond-requires : goal.way_beyond-requires
way_beyond-requires c = linked_at (goal.at.way_beyond-requires c).Else-to-ne0

pub returns-in-Some : goal.returns-in-Some
returns-in-Some c =
    let a = c.args in
    let d = goal.at.returns-in-Some c in
    let e = d.In_ok-part_check in
    sym (too_far a.words.now a.types a.from a.to a.direction a.position a.base a.side (counts₁ e) (ok_at e) c.if-to-from.false c.if-words-to.false c.if-from-ne0.false c.if-to-ne0.false
    c.in-Some.at (met_at d.Else-not-way_meets) (sym c.way_beyond.ensures ∙ c.in-Some.is))

pub find_buffer_child-requires : goal.find_buffer_child-requires
find_buffer_child-requires c = linked_at (goal.at.find_buffer_child-requires c).Else-to-ne0

pub returns : goal.returns
returns c =
    let a = c.args in
    let d = goal.at.returns c in
    let e = d.In_ok-part_check in
    let clear : beyond a.words.now a.from a.to a.base ≡ None = sym c.way_beyond.ensures ∙ c.in_default.is in
    let found = ap₂ (λ (d z : ℤ). child a.words.now a.from a.to d a.position a.base z) (sym (to_z-of_z c.ranges.direction)) (sym (to_z-of_z c.ranges.side)) ∙ sym c.find_buffer_child.ensures in
    sym (searched a.words.now a.types a.from a.to a.direction a.position a.base a.side (counts₁ e) (ok_at e) c.if-to-from.false c.if-words-to.false c.if-from-ne0.false c.if-to-ne0.false (met_at d.Else-not-way_meets) clear
    ∙ ap match_counts found)

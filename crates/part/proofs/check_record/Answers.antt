-- `part::check_record` meets its contract: the array of open ends decides 20, and as many stay open as records enclose the present one.
-- Assumes nothing.
use Rattle.std.proofs.Common.{arith, rules, get_or, length, set, max, ◌≡◌, ℕ, ◌+◌, ◌-◌, ◌*◌, ◌≤◌, ◌<◌, List}
use Rattle.std.proofs.lemmas.List.{length-take-le}
use Rattle.std.proofs.lemmas.Result.{err_from_is_err_and}
use mathlib.Core.Path.{refl, sym, ap, ◌∙◌}
use Rattle.words.specs.Words.{end_of}
use Rattle.words.specs.Refusal.{packed_number}
use Rattle.words.proofs.Refusals.{some_packed_number}
use Rattle.part.specs.Part.{end_index, own_fault, enclosing}
use Rattle.part.specs.Rebased.{rebased}
use Rattle.part.specs.Open.{Innermost, Stack}
use Rattle.part.proofs.Faults.{fault_own, fault_crossing, fault_none}
use Rattle.part.proofs.OneRecord.{end_same}
use Rattle.part.proofs.OpenEnds.{innermost_here, popped, room_open, room_next, stack_crossing, stack_clear, stack_push, stack_nesting}
use Rattle.part.proofs.check_record.Goals.{then-top-gt0+else-ends-top, else-top-gt0, After-end_index-end, After-still_open-top, Joined-top-gt0}
use Rattle.part.proofs.check_record.Goals as goal

-- once record i has no fault of its own, and its end index is read
room : (c : After-end_index-end) → c.args.s.top ≤ length c.args.ends.now
room c =
    room_open _ c.args.types _ _ c.requires.record_width_len c.requires.record_width_in_bounds c.in_ok-check_own.ensures c.end_index-end.ensures
    (search rules) c.requires.stack

-- once the ends that do not enclose it are dropped
module _ (c : After-still_open-top) where
  abbrev v : List ℕ
  v = rebased c.args.from 0 c.args.words.now

  innermost : Innermost c.args.ends.now c.args.s.top (c.args.i * 4) c.still_open-top.result
  innermost =
      innermost_here _ c.args.types _ _ c.requires.record_width_len c.requires.record_width_in_bounds c.in_ok-check_own.ensures c.end_index-end.ensures
      (search rules) c.requires.stack c.still_open-top.ensures

  opened : Stack v c.args.ends.now c.args.i c.still_open-top.result
  opened =
      popped _ c.args.types _ _ c.requires.record_width_len c.requires.record_width_in_bounds c.in_ok-check_own.ensures c.end_index-end.ensures
      (search rules) c.requires.stack c.still_open-top.ensures

  room_on : c.still_open-top.result < length c.args.ends.now
  room_on =
      room_next _ c.args.types _ _ c.requires.record_width_len c.requires.record_width_in_bounds c.in_ok-check_own.ensures c.end_index-end.ensures
      (search rules) c.requires.stack c.still_open-top.ensures

-- the innermost end that stays open, if there is one, is not below the record's
high : (c : Joined-top-gt0) → 0 < c.still_open-top.result → c.end_index-end.result ≤ get_or c.args.ends.now (c.still_open-top.result - 1) 0
high c pos = elim c.if-top-gt0.branch [ then-top-gt0+else-ends-top w ↦ omega arith | else-top-gt0 w ↦ omega arith ]

pub returns-in_err-check_own : goal.returns-in_err-check_own
returns-in_err-check_own c =
    let w = rebased c.args.from 0 c.args.words.now in
    let p = err_from_is_err_and c.from_residual.result c.from_residual.ensures.1 in
    let own : packed_number c.in_err-check_own.field-0.0 ≡ own_fault w c.args.types c.args.i = c.in_err-check_own.ensures in
    rw (p.1, p.2) (record { fault_is = own ∙ sym (fault_own w c.args.types c.args.i (λ e. some_packed_number c.in_err-check_own.field-0.0 (own ∙ e))); passed = tt })

pub slice_bounds-still_open-end : goal.slice_bounds-still_open-end
slice_bounds-still_open-end c = room (goal.at.slice_bounds-still_open-end c).After-end_index-end

pub slice_bounds-still_open-end-2 : goal.slice_bounds-still_open-end-2
slice_bounds-still_open-end-2 c = sym (length-take-le _ _ (room (goal.at.slice_bounds-still_open-end-2 c).After-end_index-end))

pub bounds-ends-top-2 : goal.bounds-ends-top-2
bounds-ends-top-2 c = room_on (goal.at.bounds-ends-top-2 c).After-still_open-top

pub returns-then-ends-top : goal.returns-then-ends-top
returns-then-ends-top c =
    let a = (goal.at.returns-then-ends-top c).After-still_open-top in
    let r = c.still_open-top.result in
    let pos = c.if-top-gt0.true in
    let is : c.end_index-end.result ≡ end_index (v a) c.args.i = c.end_index-end.ensures in
    let crossing = stack_crossing (v a) c.args.ends.now c.args.i r (end_index (v a) c.args.i) (opened a) pos ((innermost a).innermost pos) (rw is at c.if-ends-top.true) in
    record {
      fault_is = sym (fault_crossing (v a) c.args.types c.args.i (sym c.in_ok-check_own.ensures) crossing);
      passed = tt;
    }

pub returns : goal.returns
returns c =
    let d = goal.at.returns c in
    let a = d.After-still_open-top in
    let i = c.args.i in
    let ends = c.args.ends.now in
    let r = c.still_open-top.result in
    let own = sym c.in_ok-check_own.ensures in
    let is : c.end_index-end.result ≡ end_index (v a) i = c.end_index-end.ensures in
    let top : 0 < r → end_index (v a) i ≤ get_or ends (r - 1) 0 = λ pos. omega (arith, is, high d.Joined-top-gt0 pos) in
    let clear = stack_clear (v a) ends i r (end_index (v a) i) (opened a) top in
    let greatest : c.max.result ≡ max c.args.s.greatest (end_of c.args.words.now i) = c.max.ensures in
    let deepest : c.max-2.result ≡ max c.args.s.deepest (r + 1) = c.max-2.ensures in
    let nests : enclosing (v a) i (i * 4) ≡ r = stack_nesting (v a) ends i r (opened a) (innermost a).innermost in
    record {
      fault_is = sym (fault_none (v a) c.args.types i own clear);
      passed = record {
        still = r;
        innermost = innermost a;
        room = room_on a;
        top_is = refl;
        ends_are = ap (set ends r) is;
        greatest_is = greatest ∙ ap (max c.args.s.greatest) (sym (end_same c.args.words.now c.args.from i c.requires.record_width_in_bounds));
        deepest_is = deepest ∙ ap (λ (n : ℕ). max c.args.s.deepest (n + 1)) (sym nests);
        stack = stack_push (v a) ends i r c.end_index-end.result (opened a) (room_on a) (high d.Joined-top-gt0) is;
      };
    }

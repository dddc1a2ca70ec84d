-- `pack::copy_to_buffer` meets its contract: a node's descendants are copied from the back, and its own words below them. The
-- records that are left fall with each call.
use mathlib.Core.Path.{◌≡◌, sym, ◌∙◌}
use Prim.Native.Nat.{ℕ, ◌/◌, ◌<◌}
use native.Mathlib.Omega.{arith}
use lib.ListN.{length, take}
use lib.Seq.{length-take-le}
use Rattle.pack.specs.Copying.{span_start, Copies}
use Rattle.pack.proofs.Copy as L
use Rattle.pack.proofs.Parts as P
use Rattle.pack.proofs.+copy_to_buffer.Goals.{At-loop-q, In-loop-q}
use Rattle.pack.proofs.+copy_to_buffer.Goals as goal

-- an ordinary record, whose descendants are copied where the loop is
module _ {t : ℕ} (c : At-loop-q t) where
  inside : L.Inside c.args.first_repeat c.args.records.now c.args.start c.requires.lo c.requires.off c.requires.its c.args.part.now
  inside =
      L.go_inside c.args.first_repeat c.args.records.now c.args.start c.requires.lo c.requires.off c.requires.its c.args.part.now c.requires.whole c.requires.ready
      c.requires.some_record c.if-first_repeat-records.false

  copied : Copies c.args.first_repeat c.args.records.now c.args.start (span_start c.args.records.now (length c.args.records.now) / 4) inside.offs inside.kids
      c.args.part.now (c.loop-q.q / 4) c.loop-q.k c.loop-q.part
  copied = c.loop-q.invariant.2 inside.offs inside.kids inside.ready

  part_length : length c.loop-q.part ≡ length c.args.part.now
  part_length = L.copies_length _ _ _ _ _ _ _ _ _ _ copied

  front : P.Front c.args.records.now (take c.loop-q.q c.args.records.now) c.loop-q.q
  front = P.front_take c.args.records.now c.loop-q.q (omega (arith, c.loop-q.invariant.1))

-- a descendant is left
module _ {t : ℕ} (c : In-loop-q t) where
  left_at : span_start c.args.records.now (length c.args.records.now) / 4 < c.loop-q.q / 4
  left_at =
      omega (arith, (inside (goal.at.In-loop-q t c).At-loop-q).begins, c.begins.ensures, c.loop-q-test.true, c.loop-q.invariant.0)

  step_at : L.Step c.args.first_repeat c.args.records.now c.loop-q.q
  step_at =
      let d = copied (goal.at.In-loop-q t c).At-loop-q in
      L.ready_step c.args.first_repeat c.args.records.now c.args.start _ _ d.left c.loop-q.q c.loop-q.k d.ready c.loop-q.invariant.0 left_at

pub returns-then-first_repeat-records : goal.returns-then-first_repeat-records
returns-then-first_repeat-records t c = λ lo off its r some. L.copies_repeat c.args.first_repeat c.args.records.now c.args.start lo off its c.args.part.now c.requires.whole r some c.if-first_repeat-records.true

pub begins-requires-clause-p_bound : goal.begins-requires-clause-p_bound
begins-requires-clause-p_bound t c = (inside (goal.at.begins-requires-clause-p_bound t c).At-loop-q).size

pub copy_to_buffer-k-requires : goal.copy_to_buffer-k-requires
copy_to_buffer-k-requires t c =
    let i = goal.at.copy_to_buffer-k-requires t c in
    let f = front i.At-loop-q in (
      omega (arith, f.size, c.loop-q.invariant.1, c.decreases),
      L.copyable_cut c.args.first_repeat c.args.records.now _ _ f c.args.start _ _ _ _ _ _ c.loop-q.invariant.0 (copied i.At-loop-q) (left_at i.In-loop-q) c.requires.short,
    )

pub skip_node-q-requires-clause-p_bound : goal.skip_node-q-requires-clause-p_bound
skip_node-q-requires-clause-p_bound t c = (step_at (goal.at.skip_node-q-requires-clause-p_bound t c).In-loop-q).size

pub loop-q-smaller : goal.loop-q-smaller
loop-q-smaller t c = omega (arith, c.skip_node-q.ensures, (step_at (goal.at.loop-q-smaller t c).In-loop-q).less)

pub loop-q-preserved : goal.loop-q-preserved
loop-q-preserved t c =
    let i = goal.at.loop-q-preserved t c in
    let z = step_at i.In-loop-q in
    let is = c.skip_node-q.ensures in (
      omega (arith, is, z.whole),
      omega (arith, is, z.less, c.loop-q.invariant.1),
      λ offs kids r.
          rw is
          (L.copies_again c.args.first_repeat c.args.records.now _ _ (front i.At-loop-q) c.args.start _ offs kids _ _ _ c.loop-q.invariant.0
          (c.loop-q.invariant.2 offs kids r) (left_at i.In-loop-q) _ _ c.copy_to_buffer-k.ensures),
    )

pub overflow_sub-to : goal.overflow_sub-to
overflow_sub-to t c =
    let a = (goal.at.overflow_sub-to t c).At-loop-q in
    omega (arith, (copied a).ready.place, (inside a).four)

pub copy_record-requires : goal.copy_record-requires
copy_record-requires t c =
    let a = (goal.at.copy_record-requires t c).At-loop-q in
    let h = inside a in
    let d = copied a in
    record {
      some_record = omega (arith, c.requires.some_record);
      starts = h.starts;
      ends = h.ends;
      room = omega (arith, d.ready.place, h.four, d.room, part_length a);
      short = omega (arith, part_length a, c.requires.short);
    }

pub returns : goal.returns
returns t c =
    λ lo off its r some.
    let h = L.go_inside c.args.first_repeat c.args.records.now c.args.start lo off its c.args.part.now c.requires.whole r some c.if-first_repeat-records.false in
    h.whole _ _ _ _ (c.loop-q.invariant.2 h.offs h.kids h.ready) (omega (arith, c.begins.ensures, c.loop-q-test.false))
    (c.copy_record.ensures ∙ rw (part_length (goal.at.returns t c).At-loop-q))

pub slice_bounds-copy_to_buffer-end-in-loop-q : goal.slice_bounds-copy_to_buffer-end-in-loop-q
slice_bounds-copy_to_buffer-end-in-loop-q t c =
    let a = (goal.at.slice_bounds-copy_to_buffer-end-in-loop-q t c).At-loop-q in
    omega (arith, (copied a).room, part_length a)

pub slice_bounds-copy_to_buffer-end-in-loop-q-2 : goal.slice_bounds-copy_to_buffer-end-in-loop-q-2
slice_bounds-copy_to_buffer-end-in-loop-q-2 t c =
    let a = (goal.at.slice_bounds-copy_to_buffer-end-in-loop-q-2 t c).At-loop-q in
    sym (length-take-le c.loop-q.k c.loop-q.part (omega (arith, (copied a).room, part_length a)))

-- `slicing::rebase` meets its contract. The invariant: the first i records stand rebased at the front of the output. Assumes nothing.
use Rattle.slicing.proofs.Rebasing.{done_none, done_length, done_next, done_all}
use Rattle.words.specs.Words.{start_of, end_of}
use lib.ListN.{length}
use Prim.Native.Nat.{ℕ, ◌+◌, ◌*◌, ◌/◌, ◌≤◌, ◌<◌}
use mathlib.Core.List.{List}
use mathlib.Core.Path.{◌≡◌}
use native.Mathlib.Omega.{arith}
use Rattle.slicing.proofs.rebase.Goals.{In-loop-i}
use Rattle.slicing.proofs.rebase.Goals as goal

-- at a turn: record i can be read, does not start below the base, and has room in the output
module _ (i : In-loop-i) where
  abbrev cut₁ : List ℕ
  cut₁ = i.args.cut.now

  abbrev k₁ : ℕ
  k₁ = i.loop-i.i

  turn_at : k₁ < length cut₁ / 4
  turn_at = i.loop-i-test.true

  start_at : i.args.base ≤ start_of cut₁ k₁
  start_at = i.requires.starts k₁ turn_at

  end_at : i.args.base ≤ end_of cut₁ k₁
  end_at = omega (arith, start_at, i.requires.order k₁ turn_at)

  room_at : k₁ * 4 + 4 ≤ length i.args.out.now
  room_at = omega (arith, turn_at, i.requires.fits)

  same_at : length i.loop-i.out ≡ length i.args.out.now
  same_at = done_length _ _ cut₁ _ _ k₁ i.loop-i.invariant (omega (arith, room_at))

pub loop-i-init : goal.loop-i-init
loop-i-init c =
    done_none c.args.from c.args.base c.args.cut.now c.args.out.now

pub overflow_sub-cut : goal.overflow_sub-cut
overflow_sub-cut c = start_at (goal.at.overflow_sub-cut c).In-loop-i

pub overflow_sub-cut-in-loop-i : goal.overflow_sub-cut-in-loop-i
overflow_sub-cut-in-loop-i c = end_at (goal.at.overflow_sub-cut-in-loop-i c).In-loop-i

pub overflow_sub-cut-in-loop-i-2 : goal.overflow_sub-cut-in-loop-i-2
overflow_sub-cut-in-loop-i-2 c =
    c.requires.after _ (turn_at (goal.at.overflow_sub-cut-in-loop-i-2 c).In-loop-i)

pub put_record-requires : goal.put_record-requires
put_record-requires c =
    omega (arith, room_at (goal.at.put_record-requires c).In-loop-i, same_at (goal.at.put_record-requires c).In-loop-i)

pub loop-i-preserved : goal.loop-i-preserved
loop-i-preserved c =
    let a = c.args in
    done_next a.from a.base a.cut.now a.out.now c.loop-i.out c.loop-i.i c.loop-i.invariant c.put_record.new.out (omega (arith, c.loop-i-test.true)) c.put_record.ensures

pub shape_of-out : goal.shape_of-out
shape_of-out c =
    let a = c.args in
    done_length a.from a.base a.cut.now a.out.now c.loop-i.out c.loop-i.i c.loop-i.invariant (omega (arith, c.requires.fits, c.loop-i.auto.i-end))

pub returns : goal.returns
returns c =
    let a = c.args in
    done_all a.from a.base a.cut.now a.out.now c.loop-i.out c.loop-i.i c.loop-i.invariant c.loop-i-test.false

-- `scan::find_buffer_size` meets its contract: each turn of the walk keeps what a walk up to there is, and each way out of it leaves the answer. Assumes nothing.
use mathlib.Core.Path.{sym}
use Prim.Native.Nat.{◌+◌, ◌-◌, ◌≤◌, ◌<◌}
use native.Mathlib.Omega.{arith}
use Rattle.records.proofs.OneRecord.{start_is, end_is, size_is}
use Rattle.scan.proofs.Turns.{Walking, Left, begun, past_mark, room, past_span, left_limit, left_early, left_settled}
use Rattle.scan.proofs.find_buffer_size.Goals.{After-span, Left-walk, else-walk-test, then-walk-test+then-loop-walk-test+then-walk-lo, then-walk-test+else-loop-walk-test+then-r-least, then-walk-test+else-loop-walk-test+else-r-least+then-settled}
use Rattle.scan.proofs.find_buffer_size.Goals as goal

-- past the span at the place
module _ (a : After-span) where
  enough : (a.args.lo + a.span.result ≤ a.loop-walk.walk.place) × (0 < a.span.result)
  enough = rw (a.span.ensures, size_is _ _ a.record_at-r.ensures) (room a.requires a.loop-walk.invariant.2 a.loop-walk.invariant.0 (sym a.loop-walk-test.ensures))

  past : Walking a.args.own a.args.records.now a.args.work.now a.args.lo a.args.at a.args.bound a.args.memo
      (record { place = a.loop-walk.walk.place - a.span.result; start = a.record_at-r.result.start; mark = a.loop-walk.walk.mark; edge = a.loop-walk.walk.edge })
  past =
      past_span a.requires a.loop-walk.invariant.2 a.loop-walk.invariant.0 (sym a.loop-walk-test.ensures) a.record_at-r.ensures a.span.ensures
      (omega (arith, end_is _ _ a.record_at.ensures, a.saturating_sub-least.ensures, a.if-r-least.false))

pub walk-init : goal.walk-init
walk-init c = begun c.requires c.resume-walk.ensures

pub loop-walk-preserved : goal.loop-walk-preserved
loop-walk-preserved c = (
  omega (arith, c.if-walk-lo.false),
  omega (arith, c.loop-walk.invariant.1),
  past_mark c.requires c.loop-walk.invariant.2 c.loop-walk.invariant.0 (sym c.loop-walk-test.ensures),
)

pub overflow_sub-walk-in-walk : goal.overflow_sub-walk-in-walk
overflow_sub-walk-in-walk c = omega (arith, (enough (goal.at.overflow_sub-walk-in-walk c).After-span).0)

pub settled-requires-clause-rising : goal.settled-requires-clause-rising
settled-requires-clause-rising c = (past (goal.at.settled-requires-clause-rising c).After-span).seen

pub walk-smaller : goal.walk-smaller
walk-smaller c = omega (arith, enough (goal.at.walk-smaller c).After-span, c.loop-walk.invariant.1)

pub walk-preserved : goal.walk-preserved
walk-preserved c = past (goal.at.walk-preserved c).After-span

-- each way out of the walk
left : (c : Left-walk) → Left c.args.own c.args.records.now c.args.work.now c.args.lo c.args.at c.args.bound c.args.memo c.walk-test.walk
left c =
    elim c.walk-test.branch [
      | else-walk-test t ↦ rw t.walk-is (left_limit c.requires c.walk.invariant t.walk-test.false)
      | then-walk-test+then-loop-walk-test+then-walk-lo t ↦
          rw t.walk-is
          (left_limit c.requires (past_mark c.requires t.loop-walk.invariant.2 t.loop-walk.invariant.0 (sym t.loop-walk-test.ensures)) t.if-walk-lo.true)
      | then-walk-test+else-loop-walk-test+then-r-least t ↦
          rw t.walk-is
          (left_early c.requires t.loop-walk.invariant.2 t.loop-walk.invariant.0 (sym t.loop-walk-test.ensures)
          (omega (arith, end_is _ _ c.record_at.ensures, c.saturating_sub-least.ensures, start_is _ _ t.record_at-r.ensures, t.if-r-least.true)))
      | then-walk-test+else-loop-walk-test+else-r-least+then-settled t ↦
          rw t.walk-is
          (left_settled c.requires
          (past_span c.requires t.loop-walk.invariant.2 t.loop-walk.invariant.0 (sym t.loop-walk-test.ensures) t.record_at-r.ensures t.span.ensures
          (omega (arith, end_is _ _ c.record_at.ensures, c.saturating_sub-least.ensures, t.if-r-least.false)))
          (sym t.if-settled.ensures))
    ]

pub choose-requires-clause-rising : goal.choose-requires-clause-rising
choose-requires-clause-rising c = (left (goal.at.choose-requires-clause-rising c).Left-walk).seen

pub returns : goal.returns
returns c = λ F i s e kids rest sc. rw c.choose.ensures ((left (goal.at.returns c).Left-walk).found F i s e kids rest sc)

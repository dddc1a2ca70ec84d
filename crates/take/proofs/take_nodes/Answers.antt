-- `take::take_nodes` meets its contract: each step goes on to the same end. Assumes nothing.
use mathlib.Core.Path.{sym, ◌∙◌}
use Rattle.take.proofs.Loop.{kept_asks, kept_step, kept_end}
use Rattle.take.proofs.take_nodes.Goals as goal

pub step-s-requires : goal.step-s-requires
step-s-requires c =
    kept_asks c.args.first_repeat c.args.bound c.args.records.now c.args.work.now c.args.from c.requires c.loop-work.work c.loop-work.s c.loop-work.invariant (sym c.finished.ensures ∙ c.loop-work-test.true)

pub loop-work-preserved : goal.loop-work-preserved
loop-work-preserved c =
    let unfinished = sym c.finished.ensures ∙ c.loop-work-test.true in
    let kept = kept_step c.args.first_repeat c.args.bound c.args.records.now c.args.work.now c.args.from in
    kept c.loop-work.work c.step-s.new.work c.loop-work.s c.step-s.result c.step-s.auto.work c.loop-work.invariant unfinished c.step-s.ensures

pub returns : goal.returns
returns c =
    kept_end c.args.first_repeat c.args.bound c.args.records.now c.args.work.now c.args.from c.loop-work.work c.loop-work.s c.loop-work.invariant (sym c.finished.ensures ∙ c.loop-work-test.false)

-- `flat::stage_flat` meets its contract: the held records from the place at hand on are staged. Assumes nothing.
use Rattle.flat.proofs.Staging.{Staging}
use Rattle.flat.proofs.stage_flat.Given as goal

abbrev pub invariant-loop-q : goal.invariant-loop-q
invariant-loop-q l = Staging l.records l.fn.work l.p l.to l.start l.low l.q l.left l.below l.work

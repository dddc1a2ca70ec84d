-- `take::take_nodes` meets its contract: each step goes on to the same end. Assumes nothing.
use Prim.Native.Nat.{◌+◌, ◌*◌}
use Rattle.take.proofs.Loop.{Kept}
use Rattle.take.proofs.take_nodes.Given as goal

abbrev pub invariant-loop-work : goal.invariant-loop-work
invariant-loop-work l = Kept l.first_repeat l.bound l.records l.initial.work l.initial.s l.work l.s

abbrev pub decreases-loop-work : goal.decreases-loop-work
decreases-loop-work l = 2 * l.s.p + l.s.depth

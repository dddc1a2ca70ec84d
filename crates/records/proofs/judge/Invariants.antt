-- `records::judge` meets its contract: the invariant is `Judging` where `left` records are still to be judged, from the laws of
-- proofs/Judging. Assumes nothing.
use Rattle.records.proofs.Judging as J
use Rattle.records.proofs.judge.Given as goal

abbrev pub invariant-loop-left : goal.invariant-loop-left
invariant-loop-left l = J.Judging l.records l.i l.k l.lo l.hi l.lowest l.p l.left l.low

abbrev pub decreases-loop-left : goal.decreases-loop-left
decreases-loop-left l = l.left

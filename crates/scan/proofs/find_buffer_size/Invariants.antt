-- `scan::find_buffer_size` meets its contract: each turn of the walk keeps what a walk up to there is, and each way out of it leaves the answer. Assumes nothing.
use Rattle.std.proofs.Common.{◌<◌, ◌≤◌}
use Rattle.scan.proofs.Turns.{Walking}
use Rattle.scan.proofs.find_buffer_size.Given as goal

abbrev pub invariant-walk : goal.invariant-walk
invariant-walk l = Walking l.own l.records l.work l.lo l.at l.bound l.fn.memo l.walk

abbrev pub decreases-walk : goal.decreases-walk
decreases-walk l = l.walk.place

abbrev pub invariant-loop-walk : goal.invariant-loop-walk
invariant-loop-walk l = (l.lo < l.walk.place) × (l.walk.place ≤ l.initial.walk.place) × Walking l.own l.records l.work l.lo l.at l.bound l.fn.memo l.walk

abbrev pub decreases-loop-walk : goal.decreases-loop-walk
decreases-loop-walk l = l.walk.place

-- `scan::count_repeats` meets its contract: the counts are written from the first place on, and nothing else. Assumes nothing.
use Rattle.scan.proofs.Counts.{Tally}
use Rattle.scan.proofs.count_repeats.Given as goal

abbrev pub invariant-loop-i : goal.invariant-loop-i
invariant-loop-i l = Tally l.first_repeat l.records l.fn.work l.work l.i l.count

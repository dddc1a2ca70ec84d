-- `records::check_ranges` meets its contract: the invariant is `LowestRecord` before each record, from the laws of proofs/LowestRecord.
-- Assumes nothing.
use Rattle.records.proofs.LowestRecord as L
use Rattle.records.proofs.check_ranges.Given as goal

abbrev pub invariant-loop-i : goal.invariant-loop-i
invariant-loop-i l = L.LowestRecord l.records l.n l.i l.low

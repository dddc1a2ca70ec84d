-- `records::scan_records` meets its contract: the invariant is `Scanning` before each record, and each way through the loop is
-- one law of proofs/Scanning. Assumes nothing.
use Prim.Native.Nat.{◌/◌}
use lib.ListN.{length}
use Rattle.records.proofs.Scanning as C
use Rattle.records.proofs.scan_records.Given as goal

abbrev pub invariant-loop-i : goal.invariant-loop-i
invariant-loop-i l = C.Scanning l.types l.start l.records l.levels l.siblings (length l.records / 4) l.i l.height l.ordered

-- `part::validate_buffer` meets its contract. The invariant: the array holds the ends of the open records, the check of the records
-- from i on gives the same outcome as the check of all, and so do the counts. Assumes nothing.
use lib.ListN.{length}
use Prim.Native.Nat.{◌-◌}
use mathlib.Core.Path.{◌≡◌}
use Rattle.part.specs.Part.{faults_from}
use Rattle.part.specs.Rebased.{rebased}
use Rattle.part.specs.Open.{Stack}
use Rattle.part.proofs.Counts.{Counted}
use Rattle.part.proofs.validate_buffer.Given as goal

abbrev pub invariant-loop-i : goal.invariant-loop-i
invariant-loop-i l = (length l.ends ≡ length l.initial.ends) × Stack (rebased l.from 0 l.words) l.ends l.i l.s.top × Counted (rebased l.from 0 l.words) l.i l.s.greatest l.s.deepest × (faults_from (rebased l.from 0 l.words) l.types 0 l.records ≡ faults_from (rebased l.from 0 l.words) l.types l.i (l.records - l.i))

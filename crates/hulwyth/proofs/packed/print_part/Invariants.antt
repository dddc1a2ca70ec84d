-- `hulwyth::packed::print_part` is safe and ends. The invariant: no more ends are held than records were taken. Assumes nothing.
use Rattle.std.proofs.Common.{◌≤◌}
use Rattle.hulwyth.proofs.packed.print_part.Given as goal

abbrev pub invariant-loop-i : goal.invariant-loop-i
invariant-loop-i l = l.held ≤ l.i

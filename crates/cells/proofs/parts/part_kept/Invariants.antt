-- `cells::parts::part_kept` meets its contract: each turn is one of the loop over lists. Assumes nothing.
use Rattle.cells.proofs.PartLoop.{Going}
use Rattle.cells.proofs.parts.part_kept.Given as goal

abbrev pub invariant-loop-i : goal.invariant-loop-i
invariant-loop-i l = Going l.types l.len l.part l.indices l.ends l.s l.low l.i

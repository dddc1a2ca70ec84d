-- `flat::flat_extent` meets its contract: the flat part up to the place at hand, one record more at a time. Assumes nothing.
use Rattle.flat.proofs.Extending.{Extending}
use Rattle.flat.proofs.flat_extent.Given as goal

abbrev pub invariant-loop-q : goal.invariant-loop-q
invariant-loop-q l = Extending l.records l.p l.lo l.bound l.q l.x

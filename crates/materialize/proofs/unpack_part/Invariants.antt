-- `materialize::unpack_part` meets its contract: the invariant: the records passed stand as trees before the siblings behind the part. Assumes nothing.
use Rattle.materialize.proofs.Unpacking.{Unpacking}
use Rattle.materialize.proofs.unpack_part.Given as goal

abbrev pub invariant-loop-i : goal.invariant-loop-i
invariant-loop-i l = Unpacking l.initial.roots l.roots l.initial.out l.out l.cell l.position l.sp l.part l.left l.i

-- `materialize::hand_over` meets its contract: the invariant: the trees taken so far stand as the record's children, with positions from its start. Assumes nothing.
use Rattle.materialize.proofs.Handing.{Going}
use Rattle.materialize.proofs.hand_over.Given as goal

abbrev pub invariant-loop-left : goal.invariant-loop-left
invariant-loop-left l = Going l.roots l.initial.out l.out l.limit l.start l.left

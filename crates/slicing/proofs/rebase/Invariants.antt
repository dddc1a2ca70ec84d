-- `slicing::rebase` meets its contract. The invariant: the first i records stand rebased at the front of the output. Assumes nothing.
use Rattle.slicing.proofs.Rebasing.{Done}
use Rattle.slicing.proofs.rebase.Given as goal

abbrev pub invariant-loop-i : goal.invariant-loop-i
invariant-loop-i l = Done l.from l.base l.cut l.initial.out l.out l.i

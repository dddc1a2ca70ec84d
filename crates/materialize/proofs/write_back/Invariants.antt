-- `materialize::write_back` meets its contract: the invariant: the cells passed, from the last one back, stand written. Assumes nothing.
use Rattle.materialize.proofs.Finishing.{Writing}
use Rattle.materialize.proofs.write_back.Given as goal

abbrev pub invariant-loop-i : goal.invariant-loop-i
invariant-loop-i l = Writing l.initial.roots l.roots l.marks l.initial.out l.out l.t.cells.now l.t.words.now l.i l.at.cell l.at.trees l.at.marks

-- `cells::parts::last_part` meets its contract. The invariant: no part stands from that cell on. Assumes nothing.
use Rattle.cells.proofs.Reading.{Bare}
use Rattle.cells.proofs.parts.last_part.Given as goal

abbrev pub invariant-loop-last : goal.invariant-loop-last
invariant-loop-last l = Bare l.cells l.last

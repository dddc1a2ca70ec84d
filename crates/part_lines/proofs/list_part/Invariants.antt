-- `part_lines::list_part` meets its contract. The invariant: the lines of the records before record i are written, and what is still to
-- be written goes by the end indices that are held; these are few enough for the depth of a line. Assumes nothing.
use Rattle.part_lines.proofs.Walk.{Walk}
use Rattle.part_lines.proofs.list_part.Given as goal

abbrev pub invariant-loop-i : goal.invariant-loop-i
invariant-loop-i l = Walk l.first_repeat l.start l.depth l.part l.initial.lines l.initial.ends l.lines l.ends l.i l.top l.to

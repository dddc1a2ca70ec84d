-- `listing::write_lines` meets its contract. The invariant: the lines of the cells before cell i are written, and what the cells still
-- to come need is noted. Assumes nothing.
use lib.ListN.{length}
use Rattle.listing.proofs.Writes.{Pass}
use Rattle.listing.proofs.write_lines.Given as goal

abbrev pub invariant-loop-i : goal.invariant-loop-i
invariant-loop-i l = Pass l.first_repeat l.start l.t.cells.now l.t.words.now l.fn.lines l.lines l.notes (length l.fn.notes) (length l.fn.ends) l.at l.i

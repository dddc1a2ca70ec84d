-- `part_lines::count_listed` meets its contract. The invariant: the count and the records from record i on that have a line are those of
-- all. Assumes nothing.
use mathlib.Core.Path.{◌≡◌}
use Prim.Native.Nat.{◌+◌, ◌*◌, ◌≤◌}
use lib.ListN.{drop}
use Rattle.part_lines.specs.Steps.{listed_in}
use Rattle.part_lines.proofs.count_listed.Given as goal

abbrev pub invariant-loop-i : goal.invariant-loop-i
invariant-loop-i l = (l.count ≤ l.i) × (l.count + listed_in l.first_repeat (drop (l.i * 4) l.words) ≡ listed_in l.first_repeat l.words)

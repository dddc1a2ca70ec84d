-- `balance::note_bases` meets its contract: the invariant: the cells passed have noted what they name. Assumes nothing.
use Rattle.balance.specs.Steps.{Given}
use Rattle.balance.proofs.Noting.{Noting}
use lib.ListN.{length}
use Prim.Native.Nat.{◌/◌}
use Rattle.tree.specs.Cells.{cell_width}
use Rattle.balance.proofs.note_bases.Given as goal

abbrev pub invariant-loop-i : goal.invariant-loop-i
invariant-loop-i l = (g : Given l.t.cells.now l.t.words.now (length l.t.cells.now / cell_width)) × Noting g l.initial.bases l.bases l.i

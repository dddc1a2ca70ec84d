-- `pack::copy_nodes` meets its contract: the nodes are copied one by one from the back, until the part is full. Assumes nothing.
use mathlib.Core.Path.{◌≡◌}
use Prim.Native.Nat.{◌/◌, ◌%◌, ◌≤◌}
use lib.ListN.{length}
use Rattle.tree.specs.Items.{Items}
use Rattle.pack.specs.Copying.{Copies, Fills}
use Rattle.pack.proofs.copy_nodes.Given as goal

abbrev pub invariant-loop-q : goal.invariant-loop-q
invariant-loop-q l = (l.q % 4 ≡ 0)
    × (l.q ≤ length l.records)
    × ((its : Items) → Fills l.first_repeat l.records l.start l.floor its l.initial.part → Copies l.first_repeat l.records l.start (l.floor / 4) 0 its l.initial.part (l.q / 4) l.k l.part)

abbrev pub decreases-loop-q : goal.decreases-loop-q
decreases-loop-q l = l.q

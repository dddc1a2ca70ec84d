use mathlib.Core.Path.{◌≡◌}
use Prim.Native.Nat.{ℕ, ◌-◌, ◌/◌, ◌%◌, ◌<◌}
use lib.ListN.{length}
use Rattle.tree.specs.Items.{Items}
use Rattle.pack.specs.Copying.{span_start, Ready, Copies}
use Rattle.pack.proofs.+copy_to_buffer.Given as goal

abbrev pub decreases-copy_to_buffer : goal.decreases-copy_to_buffer
decreases-copy_to_buffer l = length l.records.now

abbrev pub invariant-loop-q : goal.invariant-loop-q
invariant-loop-q l =
    (l.q % 4 ≡ 0)
    × (l.q < l.p)
    × ((offs : ℕ) (kids : Items) → Ready l.first_repeat l.records l.start (span_start l.records l.p / 4) offs kids ((l.p - 4) / 4) (length l.initial.part)
    → Copies l.first_repeat l.records l.start (span_start l.records l.p / 4) offs kids l.initial.part (l.q / 4) l.k l.part)

abbrev pub decreases-loop-q : goal.decreases-loop-q
decreases-loop-q l = l.q

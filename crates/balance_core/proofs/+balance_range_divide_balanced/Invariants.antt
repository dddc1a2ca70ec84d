-- `w` is what the work slice held before the row's groups were put to wait.
use mathlib.Core.List.{List}
use Prim.Native.Nat.{ℕ, ◌+◌, ◌*◌}
use Rattle.tree.specs.Trees.{Trees}
use Rattle.balance_core.specs.Pending.{Pushed}
use Rattle.balance_core.specs.Ready.{DivideReady}
use Rattle.balance_core.proofs.Dividing as L
use Rattle.balance_core.proofs.+balance_range_divide_balanced.Given as goal

abbrev pub decreases-balance_range : goal.decreases-balance_range
decreases-balance_range l = 2 * l.size + 1

abbrev pub decreases-divide_balanced : goal.decreases-divide_balanced
decreases-divide_balanced l = 2 * l.size

abbrev pub invariant-divide_balanced-loop-left : goal.invariant-divide_balanced-loop-left
invariant-divide_balanced-loop-left l =
    (w : List ℕ) (p : DivideReady w l.top l.stack l.node l.k l.balance_type.kind l.balance_type.id l.m l.size l.next) → Pushed w l.initial.work l.stack l.node l.k l.balance_type.kind l.balance_type.id l.m l.initial.sp
    → (gs : List Trees) × (ts : Trees) × L.Dividing p l.work l.made.top l.made.node l.left l.sp gs ts

abbrev pub decreases-divide_balanced-loop-left : goal.decreases-divide_balanced-loop-left
decreases-divide_balanced-loop-left l = l.left

-- `balance_core::push_groups` meets its contract: the groups put already, and those of the rest of the row. Assumes nothing.
use mathlib.Core.List.{List}
use Rattle.tree.specs.Trees.{Trees}
use Rattle.balance_core.specs.Pending.{PushReady}
use Rattle.balance_core.proofs.Pushes.{Pushing}
use Rattle.balance_core.proofs.push_groups.Given as goal

abbrev pub invariant-loop-left : goal.invariant-loop-left
invariant-loop-left l = (p : PushReady l.initial.work l.stack l.node l.k l.balance_type.kind l.balance_type.id l.m) → (rest : Trees) × (cur : List Trees) × Pushing p l.work l.sp l.at l.left rest cur

abbrev pub decreases-loop-left : goal.decreases-loop-left
decreases-loop-left l = l.left

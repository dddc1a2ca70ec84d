-- `balance_core::first_group` meets its contract: how the first group of a row grows. Assumes nothing.
use Rattle.balance_core.proofs.Growth.{Growing}
use Rattle.balance_core.specs.Rows.{Row}
use Rattle.tree.specs.Trees.{Trees}
use Prim.Native.Nat.{◌-◌}
use Rattle.balance_core.proofs.first_group.Given as goal

abbrev pub invariant-loop-g : goal.invariant-loop-g
invariant-loop-g l = (p : Row l.work l.node l.k l.balance_type.kind l.balance_type.id) → (first : Trees) × (rest : Trees) × Growing l.m p l.g.count l.g.size l.g.next l.g.end first rest

abbrev pub decreases-loop-g : goal.decreases-loop-g
decreases-loop-g l = l.k - l.g.count

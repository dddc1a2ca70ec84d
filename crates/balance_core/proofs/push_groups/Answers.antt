-- `balance_core::push_groups` meets its contract: the groups put already, and those of the rest of the row. Assumes nothing.
use mathlib.Core.List.{◌∷◌}
use native.Mathlib.Omega.{arith}
use Rattle.balance_core.specs.Rows.{Row}
use Rattle.balance_core.specs.Pending.{PushReady}
use Rattle.balance_core.proofs.Pushes.{pushing_start, pushing_next, pushing_end, row_left, count_le, four, inside_sp}
use Rattle.balance_core.proofs.push_groups.Goals.{At-loop-left}
use Rattle.balance_core.proofs.push_groups.Goals as goal

-- the rest of the row
module _ (a : At-loop-left) where
  abbrev row_at : PushReady a.args.work.now a.args.stack a.args.node a.args.k a.args.balance_type.kind a.args.balance_type.id a.args.m
      → Row a.loop-left.work a.loop-left.at a.loop-left.left a.args.balance_type.kind a.args.balance_type.id
  row_at p = row_left p (a.loop-left.invariant p).2

pub loop-left-init : goal.loop-left-init
loop-left-init c = λ p. (p.us, p.below, pushing_start p)

pub first_group-g-requires-clause-row : goal.first_group-g-requires-clause-row
first_group-g-requires-clause-row c = row_at (goal.at.first_group-g-requires-clause-row c).At-loop-left c.requires

pub push_group-sp-requires : goal.push_group-sp-requires
push_group-sp-requires c =
    let x = (c.loop-left.invariant c.requires).2 in
    let g = c.first_group-g.ensures (row_at (goal.at.push_group-sp-requires c).At-loop-left c.requires) in
    record { le_stack = four c.requires x g; stack_in_bounds = inside_sp c.requires x g }

pub overflow_sub-left : goal.overflow_sub-left
overflow_sub-left c =
    count_le c.requires (c.loop-left.invariant c.requires).2 (c.first_group-g.ensures (row_at (goal.at.overflow_sub-left c).At-loop-left c.requires))

pub loop-left-smaller : goal.loop-left-smaller
loop-left-smaller c =
    let g = c.first_group-g.ensures (row_at (goal.at.loop-left-smaller c).At-loop-left c.requires) in
    omega (arith, count_le c.requires (c.loop-left.invariant c.requires).2 g, g.some)

pub loop-left-preserved : goal.loop-left-preserved
loop-left-preserved c = λ p.
    let x = c.loop-left.invariant p in
    let g = c.first_group-g.ensures (row_at (goal.at.loop-left-preserved c).At-loop-left p) in
    (g.rest, g.first ∷ x.1, pushing_next p x.2 g c.push_group-sp.result c.push_group-sp.ensures.result_value c.push_group-sp.ensures.work_after)

pub returns : goal.returns
returns c =
    record {
      kept = (c.loop-left.invariant c.requires).2.kept;
      above = λ p. let g = (c.loop-left.invariant p).2 in omega (arith, g.room);
      waits = λ p. pushing_end p (c.loop-left.invariant p).2 c.loop-left-test.false;
    }

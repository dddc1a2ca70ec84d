-- `balance_core::divide_balanced` and `balance_core::balance_range`, which call each other, meet their contracts; the balanced size
-- falls from a row to each group of several.
use mathlib.Core.Path.{refl, ◌∙◌}
use mathlib.Core.List.{List, [], ◌∷◌}
use Prim.Native.Nat.{ℕ, ◌+◌}
use lib.ListN.{get_or}
use native.Mathlib.Omega.{arith}
use Rattle.tree.specs.Trees.{Trees, kids_of, ◌⊕◌}
use Rattle.tree.specs.Balance.{groups, balance}
use Rattle.balance_core.specs.Pending.{stacked}
use Rattle.balance_core.proofs.Dividing as L
use Rattle.balance_core.proofs.Outer.{inner_ready, join_ready, balanced}
use Rattle.balance_core.proofs.+balance_range_divide_balanced.Goals.{divide_balanced-In-loop-left}
use Rattle.balance_core.proofs.+balance_range_divide_balanced.Goals as goal

-- where groups wait, the first of them
module _ {t : ℕ} (i : divide_balanced-In-loop-left t) where
  first_of : (g : Trees) × (below : List Trees)
      × L.Dividing i.requires i.loop-left.work i.loop-left.made.top i.loop-left.made.node i.loop-left.left i.loop-left.sp (g ∷ below)
      (i.loop-left.invariant i.args.work.now i.requires i.push_groups-sp.ensures).1
  first_of = L.dividing_some i.requires (i.loop-left.invariant i.args.work.now i.requires i.push_groups-sp.ensures).2 i.loop-left-test.true

pub balance_range-divide_balanced-made-requires : goal.balance_range-divide_balanced-made-requires
balance_range-divide_balanced-made-requires t c =
    (omega (arith, c.decreases), inner_ready c.share_of.ensures c.requires)

pub balance_range-join-requires : goal.balance_range-join-requires
balance_range-join-requires t c =
    join_ready c.share_of.ensures c.divide_balanced-made.ensures c.requires

pub balance_range-shape_of-work : goal.balance_range-shape_of-work
balance_range-shape_of-work t c = c.join.ensures.kept.size ∙ c.divide_balanced-made.ensures.kept.size

pub balance_range-returns : goal.balance_range-returns
balance_range-returns t c =
    balanced c.share_of.ensures c.divide_balanced-made.ensures c.requires c.join.ensures

pub divide_balanced-push_groups-sp-requires : goal.divide_balanced-push_groups-sp-requires
divide_balanced-push_groups-sp-requires t c = L.first_ready c.requires

pub divide_balanced-loop-left-init : goal.divide_balanced-loop-left-init
divide_balanced-loop-left-init t c = λ w p h.
    (stacked (groups p.type c.args.m p.us) [], p.rest, L.dividing_start p h)

pub divide_balanced-group_at-g-requires : goal.divide_balanced-group_at-g-requires
divide_balanced-group_at-g-requires t c =
    L.inside_sp c.requires (first_of (goal.at.divide_balanced-group_at-g-requires t c).In-loop-left).2

pub divide_balanced-overflow_add-sp : goal.divide_balanced-overflow_add-sp
divide_balanced-overflow_add-sp t c =
    omega (arith, L.fits_sp c.requires (first_of (goal.at.divide_balanced-overflow_add-sp t c).In-loop-left).2)

pub divide_balanced-bounds-work-g : goal.divide_balanced-bounds-work-g
divide_balanced-bounds-work-g t c =
    let d = (first_of (goal.at.divide_balanced-bounds-work-g t c).In-loop-left).2 in
    omega (arith, L.node_inside c.requires d c.group_at-g.ensures)

pub divide_balanced-tell-n-requires-clause-readable : goal.divide_balanced-tell-n-requires-clause-readable
divide_balanced-tell-n-requires-clause-readable t c =
    let d = (first_of (goal.at.divide_balanced-tell-n-requires-clause-readable t c).In-loop-left).2 in
    L.kids_read c.requires d c.group_at-g.ensures c.if-g-eq1.true c.if-m-g.true

pub divide_balanced-push_groups-sp-requires-then-m-g : goal.divide_balanced-push_groups-sp-requires-then-m-g
divide_balanced-push_groups-sp-requires-then-m-g t c =
    let d = (first_of (goal.at.divide_balanced-push_groups-sp-requires-then-m-g t c).In-loop-left).2 in
    L.kids_ready c.requires d c.group_at-g.ensures c.if-g-eq1.true c.if-m-g.true c.tell-n.ensures

pub divide_balanced-loop-left-preserved-then-m-g : goal.divide_balanced-loop-left-preserved-then-m-g
divide_balanced-loop-left-preserved-then-m-g t c = λ w p h.
    let x = L.dividing_some p (c.loop-left.invariant w p h).2 c.loop-left-test.true in (
      stacked (groups p.type c.args.m (kids_of x.0)) x.1,
      (c.loop-left.invariant w p h).1,
      L.dividing_inner p x.2 c.group_at-g.ensures c.if-g-eq1.true c.if-m-g.true c.tell-n.ensures
          c.push_groups-sp-then-m-g.ensures,
    )

pub divide_balanced-copy-made-requires : goal.divide_balanced-copy-made-requires
divide_balanced-copy-made-requires t c =
    let d = (first_of (goal.at.divide_balanced-copy-made-requires t c).In-loop-left).2 in
    L.copy_ready c.requires d c.group_at-g.ensures c.if-g-eq1.true c.if-m-g.false

pub divide_balanced-overflow_sub-left-then-g-eq1 : goal.divide_balanced-overflow_sub-left-then-g-eq1
divide_balanced-overflow_sub-left-then-g-eq1 t c =
    L.sum_le c.requires (first_of (goal.at.divide_balanced-overflow_sub-left-then-g-eq1 t c).In-loop-left).2 c.group_at-g.ensures

pub divide_balanced-loop-left-smaller-then-g-eq1 : goal.divide_balanced-loop-left-smaller-then-g-eq1
divide_balanced-loop-left-smaller-then-g-eq1 t c =
    let d = (first_of (goal.at.divide_balanced-loop-left-smaller-then-g-eq1 t c).In-loop-left).2 in
    omega (arith, L.sum_le c.requires d c.group_at-g.ensures, L.sum_some c.requires d c.group_at-g.ensures)

pub divide_balanced-loop-left-preserved-then-g-eq1 : goal.divide_balanced-loop-left-preserved-then-g-eq1
divide_balanced-loop-left-preserved-then-g-eq1 t c = λ w p h.
    let x = L.dividing_some p (c.loop-left.invariant w p h).2 c.loop-left-test.true in (
      x.1,
      x.0 ⊕ (c.loop-left.invariant w p h).1,
      L.dividing_kept p x.2 c.group_at-g.ensures c.if-g-eq1.true c.if-m-g.false c.copy-made.ensures,
    )

pub divide_balanced-bounds-work-g-in-loop-left : goal.divide_balanced-bounds-work-g-in-loop-left
divide_balanced-bounds-work-g-in-loop-left t c =
    let d = (first_of (goal.at.divide_balanced-bounds-work-g-in-loop-left t c).In-loop-left).2 in
    omega (arith, L.node_inside c.requires d c.group_at-g.ensures)

pub divide_balanced-balance_range-made-requires : goal.divide_balanced-balance_range-made-requires
divide_balanced-balance_range-made-requires t c =
    let d = (first_of (goal.at.divide_balanced-balance_range-made-requires t c).In-loop-left).2 in (
      omega (arith, c.decreases, L.sum_small c.requires d c.group_at-g.ensures c.if-g-eq1.false),
      L.many_ready c.requires d c.group_at-g.ensures c.if-g-eq1.false,
    )

pub divide_balanced-overflow_sub-left-in-loop-left : goal.divide_balanced-overflow_sub-left-in-loop-left
divide_balanced-overflow_sub-left-in-loop-left t c =
    L.sum_le c.requires (first_of (goal.at.divide_balanced-overflow_sub-left-in-loop-left t c).In-loop-left).2 c.group_at-g.ensures

pub divide_balanced-loop-left-smaller : goal.divide_balanced-loop-left-smaller
divide_balanced-loop-left-smaller t c =
    let d = (first_of (goal.at.divide_balanced-loop-left-smaller t c).In-loop-left).2 in
    omega (arith, L.sum_le c.requires d c.group_at-g.ensures, L.sum_some c.requires d c.group_at-g.ensures)

pub divide_balanced-loop-left-preserved : goal.divide_balanced-loop-left-preserved
divide_balanced-loop-left-preserved t c = λ w p h.
    let x = L.dividing_some p (c.loop-left.invariant w p h).2 c.loop-left-test.true in (
      x.1,
      balance p.type p.type (get_or c.loop-left.work (c.group_at-g.result.node + 2) 0) c.saturating_sub-length.result x.0 ⊕ (c.loop-left.invariant w p h).1,
      L.dividing_many p x.2 c.group_at-g.ensures c.if-g-eq1.false refl c.saturating_sub-length.ensures
          c.balance_range-made.ensures,
    )

pub divide_balanced-shape_of-work : goal.divide_balanced-shape_of-work
divide_balanced-shape_of-work t c =
    (c.loop-left.invariant c.args.work.now c.requires c.push_groups-sp.ensures).2.kept.size

pub divide_balanced-returns : goal.divide_balanced-returns
divide_balanced-returns t c =
    let w = c.args.work.now in
    L.divided_all c.requires (c.loop-left.invariant w c.requires c.push_groups-sp.ensures).2 c.loop-left-test.false
    (λ p. L.dividing_end p (c.loop-left.invariant w p c.push_groups-sp.ensures).2 c.loop-left-test.false)

-- `flat::take_flat` meets its contract: what is gathered so far, and the records still to come. Assumes nothing.
use mathlib.Core.Path.{sym}
use native.Mathlib.Omega.{arith}
use Rattle.records.proofs.OneRecord.{id_is, end_is}
use Rattle.flat.proofs.Flattening.{Taking, taking_start, inside, fits, place, room_pass, groups_node, loose_node, pass_at, node_ready, node_at, taken}
use Rattle.flat.proofs.take_flat.Goals.{At-loop-at}
use Rattle.flat.proofs.take_flat.Goals as goal

-- what is gathered where the loop stands
abbrev taking : (a : At-loop-at) → Taking a.requires a.loop-at.work a.loop-at.at a.loop-at.below a.loop-at.h.top a.loop-at.h.groups a.loop-at.h.loose a.loop-at.h.edge
taking a = a.loop-at.invariant a.requires

pub loop-at-init : goal.loop-at-init
loop-at-init c = λ q. taking_start q

pub record_at-r-requires : goal.record_at-r-requires
record_at-r-requires c = place (taking (goal.at.record_at-r-requires c).At-loop-at) c.loop-at-test.true

pub pass_over-h-requires : goal.pass_over-h-requires
pass_over-h-requires c =
    let t = taking (goal.at.pass_over-h-requires c).At-loop-at in
    record {
      node_width_in_bounds = omega (arith, room_pass t c.loop-at-test.true, inside t);
      node_width_bound = omega (arith, room_pass t c.loop-at-test.true, fits t);
      readable = groups_node t c.loop-at-test.true;
      readable_2 = loose_node t c.loop-at-test.true;
    }

-- a record of the own id
pub loop-at-preserved-then-is_own : goal.loop-at-preserved-then-is_own
loop-at-preserved-then-is_own c = λ q.
    pass_at (c.loop-at.invariant q) c.loop-at-test.true (id_is _ _ c.record_at-r.ensures) (end_is _ _ c.record_at-r.ensures) (sym c.if-is_own.ensures) c.pass_over-h.ensures

pub take_flat_node-node-requires : goal.take_flat_node-node-requires
take_flat_node-node-requires c = node_ready (taking (goal.at.take_flat_node-node-requires c).At-loop-at) c.loop-at-test.true

-- a flat part
pub loop-at-preserved : goal.loop-at-preserved
loop-at-preserved c = λ q.
    node_at (c.loop-at.invariant q) c.loop-at-test.true (id_is _ _ c.record_at-r.ensures) (sym c.if-is_own.ensures) c.take_flat_node-node.ensures

pub returns : goal.returns
returns c = taken (omega (arith, c.loop-at-test.false)) c.requires c.loop-at.invariant

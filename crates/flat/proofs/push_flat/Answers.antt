-- `flat::push_flat` meets its contract: a leaf or a part before the list. Assumes nothing.
use mathlib.Core.Path.{refl}
use Rattle.records.proofs.OneRecord.{id_is, start_is}
use Rattle.flat.proofs.Noding.{took_leaf, stage_ready, took_part}
use Rattle.flat.proofs.push_flat.Goals as goal

-- a leaf
pub returns-then-is_lone_long : goal.returns-then-is_lone_long
returns-then-is_lone_long c =
    let q = c.requires in
    took_leaf q.node_ready q.extends q.le_count (start_is _ _ c.record_at-first.ensures) c.saturating_sub-length.ensures c.is_lone_long.ensures c.if-is_lone_long.true
    (id_is _ _ c.record_at-first.ensures) c.push_tree-loose.ensures

pub stage_flat-low-requires : goal.stage_flat-low-requires
stage_flat-low-requires c =
    let q = c.requires in
    stage_ready q.node_ready q.extends q.le_count (start_is _ _ c.record_at-first.ensures) c.saturating_sub-length.ensures c.is_lone_long.ensures c.if-is_lone_long.false

-- a part
pub returns : goal.returns
returns c =
    let q = c.requires in
    took_part q.node_ready q.extends q.le_count (start_is _ _ c.record_at-first.ensures) c.saturating_sub-length.ensures c.is_lone_long.ensures c.if-is_lone_long.false
    c.stage_flat-low.ensures refl c.push_part-loose.ensures

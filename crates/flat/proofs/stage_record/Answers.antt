-- `flat::stage_record` meets its contract: four words, the last one first. Assumes nothing.
use Rattle.records.proofs.OneRecord.{id_is, start_is, end_is}
use Rattle.flat.proofs.Staging.{staged_record}
use Rattle.flat.proofs.stage_record.Goals as goal

pub returns : goal.returns
returns c =
    staged_record (start_is _ _ c.record_at-r.ensures) c.saturating_sub-from.ensures (end_is _ _ c.record_at-r.ensures) c.saturating_sub-to.ensures
    (id_is _ _ c.record_at-r.ensures) c.stage-third.ensures c.stage-second.ensures c.stage-first.ensures c.stage.ensures

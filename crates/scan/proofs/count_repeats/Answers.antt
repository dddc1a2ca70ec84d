-- `scan::count_repeats` meets its contract: the counts are written from the first place on, and nothing else. Assumes nothing.
use native.Mathlib.Omega.{arith}
use Rattle.records.proofs.OneRecord.{id_is}
use Rattle.scan.proofs.Counts.{tally_none, tally_small, tally_next}
use Rattle.scan.proofs.count_repeats.Goals as goal

pub loop-i-init : goal.loop-i-init
loop-i-init c = tally_none _ _ _ (omega (arith, c.requires.record_width_in_bounds))

pub overflow_add-count : goal.overflow_add-count
overflow_add-count c =
    omega (arith, tally_small _ _ _ _ _ _ c.loop-i.invariant _ _ c.skipped-count.ensures, c.requires.records_len_bound)

pub loop-i-preserved : goal.loop-i-preserved
loop-i-preserved c =
    tally_next _ _ _ _ _ _ c.loop-i.invariant _ _ (id_is _ _ c.record_at.ensures) c.skipped-count.ensures
    (omega (arith, c.loop-i.invariant.so_far.size, c.requires.record_width_in_bounds))

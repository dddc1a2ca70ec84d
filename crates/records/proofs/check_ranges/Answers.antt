-- `records::check_ranges` meets its contract: the invariant is `LowestRecord` before each record, from the laws of proofs/LowestRecord.
-- Assumes nothing.
use native.Mathlib.Omega.{arith}
use Rattle.records.proofs.LowestRecord as L
use Rattle.records.proofs.check_ranges.Goals as goal

pub loop-i-init : goal.loop-i-init
loop-i-init c = L.lowest_none _ _ (omega (arith, c.requires.record_width_len)) c.requires.faultless

pub overflow_sub-span : goal.overflow_sub-span
overflow_sub-span c = (L.inside c.loop-i.invariant c.loop-i-test.true c.record_at-r.ensures c.span.ensures).some_span

pub judge-low-requires-clause-k_le_i : goal.judge-low-requires-clause-k_le_i
judge-low-requires-clause-k_le_i c = (L.inside c.loop-i.invariant c.loop-i-test.true c.record_at-r.ensures c.span.ensures).few

pub judge-low-requires-clause-k_value : goal.judge-low-requires-clause-k_value
judge-low-requires-clause-k_value c = L.filled c.loop-i.invariant c.loop-i-test.true c.record_at-r.ensures c.span.ensures

pub loop-i-preserved : goal.loop-i-preserved
loop-i-preserved c = L.lowest_next c.loop-i.invariant c.loop-i-test.true c.record_at-r.ensures c.span.ensures c.judge-low.ensures

pub judge-lowest-requires-clause-k_value : goal.judge-lowest-requires-clause-k_value
judge-lowest-requires-clause-k_value c = L.all_fill (L.lowest_end c.loop-i.invariant c.loop-i-test.false)

pub returns-then-lowest-n : goal.returns-then-lowest-n
returns-then-lowest-n c = L.lowest_refused (L.lowest_end c.loop-i.invariant c.loop-i-test.false) _ c.judge-lowest.ensures c.if-lowest-n.true

pub returns : goal.returns
returns c = L.lowest_accepted (L.lowest_end c.loop-i.invariant c.loop-i-test.false) _ c.judge-lowest.ensures c.if-lowest-n.false

-- `pack::take_run` meets its contract: a run that the scan answers is packed, else nothing is changed. Assumes nothing.
use native.Mathlib.Omega.{arith}
use Rattle.records.proofs.OneRecord.{end_is}
use Rattle.pack.proofs.Taking as L
use Rattle.pack.proofs.take_run.Goals as goal

pub pack_node-base-requires : goal.pack_node-base-requires
pack_node-base-requires c = let q = c.requires in L.takable_packable q c.in-Ok.run' (c.in-Ok.ensures c.args.first_repeat q.i q.s q.e q.kids q.rest q.scans)

pub overflow_sub-result : goal.overflow_sub-result
overflow_sub-result c = let q = c.requires in L.run_reach q c.in-Ok.run' (c.in-Ok.ensures c.args.first_repeat q.i q.s q.e q.kids q.rest q.scans)

pub overflow_sub-result-2 : goal.overflow_sub-result-2
overflow_sub-result-2 c =
    let q = c.requires in
    omega (arith, L.run_start q c.in-Ok.run' (c.in-Ok.ensures c.args.first_repeat q.i q.s q.e q.kids q.rest q.scans), (end_is _ _ c.record_at-r.ensures))

pub returns : goal.returns
returns c =
    λ T from to i s e kids rest h f.
    L.takes_run h T from to f c.in-Ok.run' _ _ (c.in-Ok.ensures c.args.first_repeat i s e kids rest h) c.pack_node-base.ensures (end_is _ _ c.record_at-r.ensures)

-- `pack::pack_node` meets its contract: the run's words fill the part of the work slice below `low`. Assumes nothing.
use Rattle.pack.proofs.Pack.{packable_fillable, packable_filled}
use Rattle.pack.proofs.pack_node.Goals as goal

pub copy_nodes-requires : goal.copy_nodes-requires
copy_nodes-requires c =
    packable_fillable c.args.first_repeat c.args.records.now c.args.p c.args.run c.args.work.now c.args.low c.requires

pub returns : goal.returns
returns c =
    λ own its r.
    packable_filled c.args.first_repeat own c.args.records.now c.args.p c.args.run its c.args.work.now _ c.args.low c.requires r
    c.copy_nodes.ensures

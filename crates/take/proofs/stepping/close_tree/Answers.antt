-- `take::stepping::close_tree` meets its contract. Assumes nothing.
use Rattle.take.proofs.Closing.{close_asks, closed}
use Rattle.take.proofs.stepping.close_tree.Goals as goal

pub finish_node-made-requires : goal.finish_node-made-requires
finish_node-made-requires c =
    close_asks c.args.records.now c.args.work.now c.args.s c.requires c.pop_frame-f.result c.pop_frame-f.ensures

pub returns : goal.returns
returns c =
    closed c.args.records.now c.args.work.now c.finish_node-made.new.work c.args.s c.requires c.pop_frame-f.result c.pop_frame-f.ensures c.finish_node-made.result.top c.finish_node-made.result.node c.finish_node-made.ensures

-- `take::nodes::start_node` meets its contract. Assumes nothing.
use Rattle.take.proofs.Starting.{take_asks, part_asks, pending_asks, started_part, started_tree}
use Rattle.take.proofs.nodes.start_node.Goals as goal

pub take_run-requires : goal.take_run-requires
take_run-requires c = take_asks c.requires

pub built_part-requires : goal.built_part-requires
built_part-requires c = part_asks c.requires c.in-Ok.part c.in-Ok.ensures

pub pending_node-requires-clause-record_width_bound : goal.pending_node-requires-clause-record_width_bound
pending_node-requires-clause-record_width_bound c = pending_asks c.requires

pub returns-in-Ok : goal.returns-in-Ok
returns-in-Ok c = λ q. started_part q c.in-Ok.part c.in-Ok.ensures _ _ c.built_part.ensures

pub returns-in-Err : goal.returns-in-Err
returns-in-Err c = λ q. rw c.pending_node.ensures (started_tree q c.in-Err.memo c.in-Err.ensures)

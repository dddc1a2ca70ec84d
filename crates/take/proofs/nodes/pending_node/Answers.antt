-- `take::nodes::pending_node` meets its contract. Assumes nothing.
use mathlib.Core.Path.{ap}
use native.Mathlib.Omega.{arith}
use Rattle.reader.specs.declared.Record.{Record}
use Rattle.records.proofs.OneRecord.{size_is}
use Rattle.take.proofs.Starting.{pending_is}
use Rattle.take.proofs.nodes.pending_node.Goals as goal

pub overflow_sub-node : goal.overflow_sub-node
overflow_sub-node c =
    let e = size_is _ _ (ap (λ (x : Record). x.own) c.last_record.ensures) in
    omega (arith, c.requires.record_width_bound, e, c.span.ensures)

pub returns : goal.returns
returns c = pending_is c.args.records.now c.args.p c.args.memo (ap (λ (x : Record). x.own) c.last_record.ensures) c.span.ensures

-- `flat::take_flat_node` meets its contract: nothing where none is held, else what is pushed. Assumes nothing.
use Rattle.flat.proofs.Noding.{took_none}
use Rattle.flat.proofs.take_flat_node.Goals as goal

pub returns-then-x-eq0 : goal.returns-then-x-eq0
returns-then-x-eq0 c = took_none c.requires c.flat_extent-x.ensures c.if-x-eq0.true

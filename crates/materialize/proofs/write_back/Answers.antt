-- `materialize::write_back` meets its contract: the cells passed, from the last one back, stand written. Assumes nothing.
use Rattle.materialize.proofs.Finishing.{writing_start, writing_end}
use Rattle.materialize.proofs.write_back.Goals as goal

pub loop-i-init : goal.loop-i-init
loop-i-init c = writing_start c.requires

pub returns : goal.returns
returns c = writing_end c.loop-i.invariant c.loop-i-test.false

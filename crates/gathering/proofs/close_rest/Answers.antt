-- `gathering::close_rest` meets its contract: a group, or nothing where no child is left over. Assumes nothing.
use Rattle.gathering.proofs.Passing.{rest_close, rest_on}
use Rattle.gathering.proofs.close_rest.Goals as goal

pub returns-then-g-eq0 : goal.returns-then-g-eq0
returns-then-g-eq0 c = rest_on c.if-g-eq0.true

pub returns : goal.returns
returns c = rest_close c.if-g-eq0.false c.make_repeat_leaf.ensures

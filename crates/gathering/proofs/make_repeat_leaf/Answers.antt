-- `gathering::make_repeat_leaf` meets its contract: the loose children under a new node. Assumes nothing.
use Rattle.gathering.proofs.Closing.{closed}
use Rattle.gathering.proofs.make_repeat_leaf.Goals as goal

pub returns : goal.returns
returns c = closed c.saturating_sub-length.ensures c.push_tree-groups.ensures

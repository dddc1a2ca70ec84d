-- `gathering::balance_repeat` meets its contract: the groups' number and size, then balancing. Assumes nothing.
use Rattle.gathering.proofs.Finishing.{groups_node, some_row, groups_row, groups_ready, groups_balanced}
use Rattle.gathering.proofs.balance_repeat.Goals as goal

pub tell-k-requires-clause-readable : goal.tell-k-requires-clause-readable
tell-k-requires-clause-readable c = groups_node c.requires

pub row_size-size-requires : goal.row_size-size-requires
row_size-size-requires c =
    record { row = groups_row c.tell-k.ensures c.requires; le_k = some_row c.tell-k.ensures c.requires }

pub balance_range-requires : goal.balance_range-requires
balance_range-requires c =
    groups_ready c.tell-k.ensures c.row_size-size.ensures c.requires

pub returns : goal.returns
returns c =
    groups_balanced c.tell-k.ensures c.row_size-size.ensures c.saturating_sub.ensures c.balance_range.ensures

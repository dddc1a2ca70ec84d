-- `gathering::finish_node` meets its contract: a tree over its loose children, or its groups balanced. Assumes nothing.
use Rattle.gathering.proofs.Finishing.{finish_loose_node, finish_groups_node, finish_next, balance_ready, finished_groups}
use native.Mathlib.Omega.{arith}
use Rattle.gathering.proofs.finish_node.Goals as goal

pub push_tree-made-requires-clause-readable : goal.push_tree-made-requires-clause-readable
push_tree-made-requires-clause-readable c = finish_loose_node c.requires

pub push_tree-made-requires-clause-readable_2 : goal.push_tree-made-requires-clause-readable_2
push_tree-made-requires-clause-readable_2 c = finish_next c.requires

pub close_rest-h-requires-clause-readable : goal.close_rest-h-requires-clause-readable
close_rest-h-requires-clause-readable c = finish_groups_node c.requires

pub close_rest-h-requires-clause-readable_2 : goal.close_rest-h-requires-clause-readable_2
close_rest-h-requires-clause-readable_2 c = finish_loose_node c.requires

pub balance_repeat-requires : goal.balance_repeat-requires
balance_repeat-requires c =
    balance_ready (λ e. omega arith) c.close_rest-h.ensures c.requires

-- groups
pub returns : goal.returns
returns c =
    finished_groups (λ e. omega arith) c.close_rest-h.ensures c.requires c.balance_repeat.ensures

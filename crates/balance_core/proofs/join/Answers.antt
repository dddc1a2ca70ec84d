-- `balance_core::join` meets its contract: a new node over a list, or its one tree. Assumes nothing.
use Rattle.balance_core.proofs.Joins.{join_node, join_next, join_room, join_fits, join_copy, join_copied, join_pushed}
use native.Mathlib.Omega.{arith}
use Rattle.balance_core.proofs.join.Goals as goal

pub is_one-requires : goal.is_one-requires
is_one-requires c = join_node c.requires

pub copy-requires : goal.copy-requires
copy-requires c =
    join_copy c.args.p.start c.args.p.length c.is_one.ensures c.if-is_one.true c.requires

pub shape_of-work-then-is_one : goal.shape_of-work-then-is_one
shape_of-work-then-is_one c = c.copy.ensures.kept.size

-- the list is that tree
pub returns-then-is_one : goal.returns-then-is_one
returns-then-is_one c =
    join_copied c.args.p.start c.args.p.length c.is_one.ensures c.if-is_one.true c.copy.ensures

pub push_tree-made-requires : goal.push_tree-made-requires
push_tree-made-requires c = record { node_width_bound = join_room c.requires; readable = join_node c.requires; readable_2 = join_next c.requires }

pub overflow_add-result : goal.overflow_add-result
overflow_add-result c = omega (arith, join_fits c.requires)

pub shape_of-work : goal.shape_of-work
shape_of-work c = c.push_tree-made.ensures.kept.size

-- a new node
pub returns : goal.returns
returns c =
    join_pushed c.args.p.start c.args.p.length c.is_one.ensures c.if-is_one.false c.push_tree-made.ensures

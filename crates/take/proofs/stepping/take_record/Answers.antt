-- `take::stepping::take_record` meets its contract, each case. Assumes nothing.
use Rattle.take.proofs.Loop.{part_fits, took_part, deep_asks, took_deep, open_asks, took_open}
use Rattle.take.proofs.stepping.take_record.Goals as goal

pub with_part-requires-clause-p_bound : goal.with_part-requires-clause-p_bound
with_part-requires-clause-p_bound c = (part_fits c.requires c.in-Built.node c.in-Built.ensures).1

pub take_deep-requires : goal.take_deep-requires
take_deep-requires c = deep_asks c.requires c.in-Pending.next c.in-Pending.ensures c.if-s-gt-MOST_OPEN.true

pub returns-then-s-gt-MOST_OPEN : goal.returns-then-s-gt-MOST_OPEN
returns-then-s-gt-MOST_OPEN c = took_deep c.requires c.in-Pending.next c.in-Pending.ensures c.if-s-gt-MOST_OPEN.true c.take_deep.ensures

pub open_tree-requires : goal.open_tree-requires
open_tree-requires c = open_asks c.requires c.in-Pending.next c.in-Pending.ensures c.if-s-gt-MOST_OPEN.false

pub returns-in-Built : goal.returns-in-Built
returns-in-Built c = took_part c.requires c.in-Built.node c.in-Built.ensures c.with_part.ensures

pub returns-else-s-gt-MOST_OPEN : goal.returns-else-s-gt-MOST_OPEN
returns-else-s-gt-MOST_OPEN c = took_open c.requires c.in-Pending.next c.in-Pending.ensures c.if-s-gt-MOST_OPEN.false c.open_tree.ensures

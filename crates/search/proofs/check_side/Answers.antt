-- `search::check_side` meets its contract: each return is one branch of the definition. Assumes nothing.
use Rattle.search.proofs.Sides.{of_bits, not_bits}
use lib.IntN.{pos, negsuc}
use borrow.Author.Tests.{le-leb, lt-leb, lt-ltb, le-ltb}
use Rattle.search.specs.Side.{on_side}
use Rattle.search.proofs.check_side.Goals as goal

pub returns-in-minus2 : goal.returns-in-minus2
unfolding on_side
returns-in-minus2 c = rw (of_bits 254 c.args.side c.ranges.side c.in-minus2.in-minus2-own.keys1)

pub returns-then-to-position : goal.returns-then-to-position
unfolding on_side
returns-then-to-position c = rw (of_bits 255 c.args.side c.ranges.side c.in-minus1.in-minus1-own.keys2, le-leb _ _ c.if-to-position.true)

pub returns-else-to-position : goal.returns-else-to-position
unfolding on_side
returns-else-to-position c = rw (of_bits 255 c.args.side c.ranges.side c.in-minus1.in-minus1-own.keys2, lt-leb _ _ c.if-to-position.false)

pub returns-then-from-position : goal.returns-then-from-position
unfolding on_side
returns-then-from-position c = rw (of_bits 0 c.args.side c.ranges.side c.in-0.in-0-own.keys3, lt-ltb _ _ c.if-from-position.true)

pub returns-else-from-position : goal.returns-else-from-position
unfolding on_side
returns-else-from-position c = rw (of_bits 0 c.args.side c.ranges.side c.in-0.in-0-own.keys3, le-ltb _ _ c.if-from-position.false)

pub returns-then-from-position-2 : goal.returns-then-from-position-2
unfolding on_side
returns-then-from-position-2 c = rw (of_bits 1 c.args.side c.ranges.side c.in-1.in-1-own.keys4, le-leb _ _ c.if-from-position-2.true)

pub returns-else-from-position-2 : goal.returns-else-from-position-2
unfolding on_side
returns-else-from-position-2 c = rw (of_bits 1 c.args.side c.ranges.side c.in-1.in-1-own.keys4, lt-leb _ _ c.if-from-position-2.false)

pub returns-in-2 : goal.returns-in-2
unfolding on_side
returns-in-2 c = rw (of_bits 2 c.args.side c.ranges.side c.in-2.in-2-own.keys5)

pub returns-in-4 : goal.returns-in-4
unfolding on_side
returns-in-4 c = rw (of_bits 4 c.args.side c.ranges.side c.in-4.in-4-own.keys6)

pub returns-in_default : goal.returns-in_default
unfolding on_side
returns-in_default c = rw (not_bits (negsuc 1) c.args.side c.in_default.in_default-own.rest.0.0.0.0.0.1, not_bits (negsuc 0) c.args.side c.in_default.in_default-own.rest.0.0.0.0.1, not_bits (pos 0) c.args.side c.in_default.in_default-own.rest.0.0.0.1, not_bits (pos 1) c.args.side c.in_default.in_default-own.rest.0.0.1, not_bits (pos 2) c.args.side c.in_default.in_default-own.rest.0.1, not_bits (pos 4) c.args.side c.in_default.in_default-own.rest.1)

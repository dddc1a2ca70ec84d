-- `gathering::pass_over` meets its contract: a group where the end and the bound come to at most the last group end. Assumes nothing.
use Rattle.gathering.proofs.Passing.{passed_close, passed_on}
use native.Mathlib.Omega.{arith}
use Rattle.gathering.proofs.pass_over.Goals as goal

pub returns-then-from : goal.returns-then-from
returns-then-from c = passed_close (omega arith) c.make_repeat_leaf.ensures

pub returns : goal.returns
returns c = passed_on (omega arith)

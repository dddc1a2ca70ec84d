-- `text::numbers` is safe and ends. The invariant: no more numbers are counted than there is room for. Assumes nothing.
use Rattle.std.proofs.Common.{◌≤◌, length}
use Rattle.text.proofs.numbers.Given as goal

abbrev pub invariant-loop-word : goal.invariant-loop-word
invariant-loop-word l = l.count ≤ length l.out

-- `cells::linking::chain_lengths` meets its contract. The invariant: the lengths from cell c on stand in their places. Assumes nothing.
use Rattle.cells.proofs.Reading.{Tail}
use Rattle.cells.proofs.linking.chain_lengths.Given as goal

abbrev pub invariant-loop-c : goal.invariant-loop-c
invariant-loop-c l = Tail l.cells l.c l.lengths

-- `search::way_meets` meets its contract. The invariant: the way that is left ends, from the place reached, where the whole way does. Assumes nothing.
use Rattle.std.proofs.Common.{◌≡◌}
use Rattle.search.specs.Search.{way_to}
use Rattle.search.proofs.Walk.{Readable, way_end}
use Rattle.search.proofs.way_meets.Given as goal

abbrev pub invariant-loop-at : goal.invariant-loop-at
invariant-loop-at l =
    let rest = way_to l.at-iterator.words.now l.at-iterator.at l.at-iterator.to in
    (goal.iterator-loop-at).can_next l.at-iterator
    × (goal.iterator-loop-at).is_finite l.at-iterator
    × Readable l.words rest
    × (way_end l.words l.from (way_to l.words l.from l.to) ≡ way_end l.words l.end rest)

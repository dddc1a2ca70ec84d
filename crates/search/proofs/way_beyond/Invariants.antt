-- `search::way_beyond` meets its contract. The invariant: the first hit on the way that is left is the first on the whole way. Assumes nothing.
use Rattle.std.proofs.Common.{◌≡◌}
use Rattle.words.specs.First.{first_in}
use Rattle.search.specs.Search.{way_to, too_far}
use Rattle.search.proofs.Walk.{Readable}
use Rattle.search.proofs.way_beyond.Given as goal

abbrev pub invariant-loop-at : goal.invariant-loop-at
invariant-loop-at l =
    let rest = way_to l.at-iterator.words.now l.at-iterator.at l.at-iterator.to in
    (goal.iterator-loop-at).can_next l.at-iterator
    × (goal.iterator-loop-at).is_finite l.at-iterator
    × Readable l.words rest
    × (first_in (too_far l.words l.base) (way_to l.words l.from l.to) ≡ first_in (too_far l.words l.base) rest)

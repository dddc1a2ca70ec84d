-- `search::find_buffer_child` meets its contract. The invariant: the choice along the way that is left, with what was found so far as its default, is
-- the choice along the whole way. Assumes nothing.
use Rattle.std.proofs.Common.{◌≡◌}
use Rattle.std.specs.Prelude.{None}
use lib.Signed.{lt_z}
use lib.IntN.{pos}
use Rattle.search.specs.Search.{way_to, choose, matching}
use Rattle.search.proofs.Walk.{Readable}
use Rattle.search.proofs.find_buffer_child.Given as goal

abbrev pub invariant-loop-at : goal.invariant-loop-at
invariant-loop-at l =
    let rest = way_to l.at-iterator.words.now l.at-iterator.at l.at-iterator.to in
    let test = matching l.words l.position l.base l.side in
    let forward = lt_z (pos 0) l.direction in
    (goal.iterator-loop-at).can_next l.at-iterator
    × (goal.iterator-loop-at).is_finite l.at-iterator
    × Readable l.words rest
    × (choose test forward None (way_to l.words l.from l.to) ≡ choose test forward l.found rest)

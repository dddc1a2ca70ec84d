-- `search::way_meets` meets its contract. The invariant: the way that is left ends, from the place reached, where the whole way does. Assumes nothing.
use Rattle.std.proofs.Common.{ℕ, eqb, sym, ap, ◌∙◌}
use Rattle.search.proofs.Walk.{way_end, meets_ends, starts}
use Rattle.search.proofs.way_meets.Goals as goal

pub loop-at-init : goal.loop-at-init
loop-at-init c =
    let a = c.args in
    let s = starts a.words a.from a.to c.into_iter-at-iterator.result c.requires (c.into_iter-at-iterator.ensures.into_iter_gives ∙ c.new-at-items.ensures) in
    (s.0, tt, s.1, ap (way_end a.words.now a.from) s.2)

pub returns : goal.returns
returns c =
    let a = c.args in
    sym (meets_ends a.words.now a.from a.to ∙ ap (λ (e : ℕ). eqb e a.to) (c.loop-at.invariant.3 ∙ ap (way_end a.words.now c.loop-at.end) c.in-None.ensures.steps.0))

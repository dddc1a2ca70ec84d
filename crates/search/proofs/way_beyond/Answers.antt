-- `search::way_beyond` meets its contract. The invariant: the first hit on the way that is left is the first on the whole way. Assumes nothing.
use Rattle.std.proofs.Common.{◌≡◌, ℕ, Bool, true, false, List, ◌∷◌, sym, ap, ◌∙◌}
use borrow.Author.Tests.{lt-ltb, le-ltb}
use Rattle.words.specs.First.{first_in}
use Rattle.words.proofs.Firsts.{in_none, in_hit, in_miss}
use Rattle.search.specs.Search.{way_to, too_far, beyond}
use Rattle.search.proofs.Walk.{Readable, starts}
use Rattle.search.proofs.way_beyond.Goals.{In-Some}
use Rattle.search.proofs.way_beyond.Goals as goal

-- at a record of the way: it and the rest
module _ (c : In-Some) where
  abbrev test₁ : ℕ → Bool
  test₁ = too_far c.args.words.now c.args.base

  abbrev rest₁ : List ℕ
  rest₁ = way_to c.next.new.self.words.now c.next.new.self.at c.next.new.self.to

  here : first_in test₁ (way_to c.args.words.now c.args.from c.args.to) ≡ first_in test₁ (c.in-Some.at ∷ rest₁)
  here = c.loop-at.invariant.3 ∙ ap (first_in test₁) c.in-Some.ensures.steps

  readable_rest : Readable c.args.words.now rest₁
  readable_rest = (rw c.in-Some.ensures.steps at c.loop-at.invariant.2).1

pub loop-at-init : goal.loop-at-init
loop-at-init c =
    let a = c.args in
    let s = starts a.words a.from a.to c.into_iter-at-iterator.result c.requires (c.into_iter-at-iterator.ensures.into_iter_gives ∙ c.new-at-items.ensures) in
    (s.0, tt, s.1, ap (first_in (too_far a.words.now a.base)) s.2)

pub returns-then-base64-from-gt4294967295 : goal.returns-then-base64-from-gt4294967295
unfolding beyond
returns-then-base64-from-gt4294967295 c =
    let i = (goal.at.returns-then-base64-from-gt4294967295 c).In-Some in
    let far : test₁ i c.in-Some.at ≡ true = lt-ltb _ _ (rw (c.from-base64.ensures, c.from.ensures) at c.if-base64-from-gt4294967295.true) in
    sym (here i ∙ in_hit (test₁ i) c.in-Some.at (rest₁ i) far)

pub loop-at-preserved : goal.loop-at-preserved
loop-at-preserved c =
    let i = (goal.at.loop-at-preserved c).In-Some in
    let near : test₁ i c.in-Some.at ≡ false = le-ltb _ _ (rw (c.from-base64.ensures, c.from.ensures) at c.if-base64-from-gt4294967295.false) in
    (c.in-Some.ensures.goes.keeps, tt, readable_rest i, here i ∙ in_miss (test₁ i) c.in-Some.at (rest₁ i) near)

pub returns : goal.returns
unfolding beyond
returns c =
    let test = too_far c.args.words.now c.args.base in
    sym (c.loop-at.invariant.3 ∙ ap (first_in test) c.in-None.ensures.steps.0 ∙ in_none test)

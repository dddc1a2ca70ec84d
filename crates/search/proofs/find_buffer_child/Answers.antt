-- `search::find_buffer_child` meets its contract. The invariant: the choice along the way that is left, with what was found so far as its default, is
-- the choice along the whole way. Assumes nothing.
use Rattle.std.proofs.Common.{rules, false, ◌≡◌, ℕ, Bool, List, ◌∷◌, pos, to_z, of_z, w8, sym, ap, ◌∙◌}
use lib.Signed.{lt_z}
use mir.Facts.{to_z-of_z}
use Rattle.std.specs.Prelude.{None}
use Rattle.search.specs.Search.{way_to, choose, matching, child}
use Rattle.search.proofs.Walk.{Readable, starts, choose_none, choose_later, choose_miss}
use Rattle.search.proofs.find_buffer_child.Goals.{Start, In-Some}
use Rattle.search.proofs.find_buffer_child.Goals as goal

-- a signed parameter is its bits in the invariant, and its value again in the contract
module _ (s : Start) where
  abbrev forward₁ : Bool
  forward₁ = lt_z (pos 0) (to_z w8 (of_z w8 s.args.direction))

  abbrev test₁ : ℕ → Bool
  test₁ = matching s.args.words.now s.args.position s.args.base (to_z w8 (of_z w8 s.args.side))

  direction_at : to_z w8 (of_z w8 s.args.direction) ≡ s.args.direction
  direction_at = to_z-of_z s.ranges.direction

  side_at : to_z w8 (of_z w8 s.args.side) ≡ s.args.side
  side_at = to_z-of_z s.ranges.side

  child_at : child s.args.words.now s.args.from s.args.to s.args.direction s.args.position s.args.base s.args.side ≡ choose test₁ forward₁ None (way_to s.args.words.now s.args.from s.args.to)
  unfolding child
  child_at = rw (direction_at, side_at)

-- at a record of the way: it and the rest
module _ (c : In-Some) where
  abbrev start₁ : Start
  start₁ = (goal.at.In-Some c).Start

  abbrev rest₁ : List ℕ
  rest₁ = way_to c.next.new.self.words.now c.next.new.self.at c.next.new.self.to

  here : choose (test₁ start₁) (forward₁ start₁) None (way_to c.args.words.now c.args.from c.args.to) ≡ choose (test₁ start₁) (forward₁ start₁) c.loop-at.found (c.in-Some.at ∷ rest₁)
  here = c.loop-at.invariant.3 ∙ ap (choose (test₁ start₁) (forward₁ start₁) c.loop-at.found) c.in-Some.ensures.steps

  readable_rest : Readable c.args.words.now rest₁
  readable_rest = (rw c.in-Some.ensures.steps at c.loop-at.invariant.2).1

pub loop-at-init : goal.loop-at-init
loop-at-init c =
    let a = c.args in
    let s = starts a.words a.from a.to c.into_iter-at-iterator.result c.requires (c.into_iter-at-iterator.ensures.into_iter_gives ∙ c.new-at-items.ensures) in
    let t = (goal.at.loop-at-init c).Start in
    (s.0, tt, s.1, ap (choose (test₁ t) (forward₁ t) None) s.2)

pub loop-at-preserved-then-matches : goal.loop-at-preserved-then-matches
loop-at-preserved-then-matches c =
    let i = (goal.at.loop-at-preserved-then-matches c).In-Some in
    let s = start₁ i in
    let back : forward₁ s ≡ false = search rules in
    (c.in-Some.ensures.goes.keeps, tt, readable_rest i, here i ∙ choose_later (test₁ s) (forward₁ s) c.loop-at.found c.in-Some.at (rest₁ i) (sym c.matches.ensures ∙ c.if-matches.true) back)

pub loop-at-preserved : goal.loop-at-preserved
loop-at-preserved c =
    let i = (goal.at.loop-at-preserved c).In-Some in
    let s = start₁ i in
    (c.in-Some.ensures.goes.keeps, tt, readable_rest i, here i ∙ choose_miss (test₁ s) (forward₁ s) c.loop-at.found c.in-Some.at (rest₁ i) (sym c.matches.ensures ∙ c.if-matches.false))

pub returns : goal.returns
returns c =
    let s = (goal.at.returns c).Start in
    sym (child_at s ∙ c.loop-at.invariant.3 ∙ ap (choose (test₁ s) (forward₁ s) c.loop-at.found) c.in-None.ensures.steps.0 ∙ choose_none (test₁ s) (forward₁ s) c.loop-at.found)

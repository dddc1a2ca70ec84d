-- Laws of the way that following end indices takes: its first record and the rest, where it ends, and that its records can be read.
-- Assumes nothing.
use mathlib.Core.Path.{◌≡◌, refl, sym, ap, ◌∙◌}
use mathlib.Core.List.{List, [], ◌∷◌}
use mathlib.Core.Bool.{Bool, true, false}
use native.Mathlib.Decide.{dec_lt}
use Prim.Native.Nat.{ℕ, zero, suc, ◌+◌, ◌-◌, ◌%◌, ◌≤◌, ◌<◌}
use native.Mathlib.Omega.{arith}
use borrow.Author.Tests.{lt-ltb, le-ltb}
use lib.Dec.{eqb}
use lib.ListN.{length, get_or}
use Rattle.std.specs.Prelude.{Option, Some, ⊤}
use Rattle.search.specs.Search.{meets, way, way_to, choose}
use Rattle.search.specs.Way.{Linked}
use Rattle.search.specs.declared.Way.{Way}
use denote.Ref.{Bor}

pub way_step : (w : List ℕ) (f at to : ℕ) → at < to → way w (suc f) at to ≡ at ∷ way w f (get_or w (at + 3) 0) to
unfolding way
way_step w f at to l = rw (lt-ltb _ _ l)

way_stop : (w : List ℕ) (f at to : ℕ) → to ≤ at → way w f at to ≡ []
unfolding way
way_stop w zero at to l = refl
way_stop w (suc f) at to l = rw (le-ltb _ _ l)

-- where the last record of a list leads, or the place before the list
abbrev pub way_end : List ℕ → ℕ → List ℕ → ℕ
way_end w at [] = at
way_end w at (a ∷ l) = way_end w (get_or w (a + 3) 0) l

-- the second bound is met where the way ends there
meets_end : (w : List ℕ) (f at to : ℕ) → meets w f at to ≡ eqb (way_end w at (way w f at to)) to
unfolding meets way
meets_end w zero at to = refl
meets_end w (suc f) at to = go (dec_lt at to) (meets_end w f (get_or w (at + 3) 0) to)
  where
    go : Dec (at < to) → meets w f (get_or w (at + 3) 0) to ≡ eqb (way_end w (get_or w (at + 3) 0) (way w f (get_or w (at + 3) 0) to)) to → meets w (suc f) at to ≡ eqb (way_end w at (way w (suc f) at to)) to
    go (yes l) h = rw (lt-ltb _ _ l) h
    go (no n) h = rw (le-ltb at to (omega arith))

pub meets_ends : (w : List ℕ) (from to : ℕ) → meets w (length w) from to ≡ eqb (way_end w from (way_to w from to)) to
meets_ends w from to = meets_end w (length w) from to

-- each record of a list can be read
abbrev pub Readable : List ℕ → List ℕ → Type 0
Readable w [] = ⊤
Readable w (a ∷ l) = (a + 4 ≤ length w) × Readable w l

-- `f` steps reach from `at` to the second bound
pub record Ahead (w : List ℕ) (to at f : ℕ) : Type 0 where
  pub whole : at % 4 ≡ 0
  pub inside : at ≤ length w
  pub enough : to ≤ at + f

module _ (w : List ℕ) (from to : ℕ) (linked : Linked w from to) where
  read : (at : ℕ) → at < to → at % 4 ≡ 0 → at + 4 ≤ length w
  read at l m = omega (arith, m, linked.whole, linked.stop)

  -- one record further
  ahead_next : (at f : ℕ) → at < to → Ahead w to at (suc f) → Ahead w to (get_or w (at + 3) 0) f
  ahead_next at f l a = record {
    whole = linked.record_end at a.whole (omega (arith, linked.stop));
    inside = linked.inside at a.whole (omega (arith, linked.stop));
    enough = omega (arith, linked.later at a.whole (omega (arith, linked.stop)), a.enough);
  }

  -- steps enough are as good as one more
  way_enough : (f at : ℕ) → Ahead w to at f → way w f at to ≡ way w (suc f) at to
  way_enough zero at a = way_stop w zero at to (omega (arith, a.enough)) ∙ sym (way_stop w 1 at to (omega (arith, a.enough)))
  way_enough (suc f) at a = go (dec_lt at to) (way_enough f (get_or w (at + 3) 0))
    where
      go : Dec (at < to) → (Ahead w to (get_or w (at + 3) 0) f → way w f (get_or w (at + 3) 0) to ≡ way w (suc f) (get_or w (at + 3) 0) to) → way w (suc f) at to ≡ way w (suc (suc f)) at to
      go (yes l) h = way_step w f at to l ∙ ap (λ (r : List ℕ). at ∷ r) (h (ahead_next at f l a)) ∙ sym (way_step w (suc f) at to l)
      go (no n) h = way_stop w (suc f) at to (omega arith) ∙ sym (way_stop w (suc (suc f)) at to (omega arith))

  readable : (f at : ℕ) → at % 4 ≡ 0 → Readable w (way w f at to)
  unfolding way
  readable zero at m = tt
  readable (suc f) at m = go (dec_lt at to) (readable f (get_or w (at + 3) 0))
    where
      go : Dec (at < to) → (get_or w (at + 3) 0 % 4 ≡ 0 → Readable w (way w f (get_or w (at + 3) 0) to)) → Readable w (way w (suc f) at to)
      go (yes l) h = rw (lt-ltb _ _ l) (read at l m, h (linked.record_end at m (omega (arith, linked.stop))))
      go (no n) h = rw (le-ltb at to (omega arith)) tt

  -- each record on the way can be read
  pub way_readable : Readable w (way_to w from to)
  way_readable = readable (length w) from linked.start

  pub way_none : to ≤ from → way_to w from to ≡ []
  way_none l = way_stop w (length w) from to l

  -- the first record on the way, and the place after it
  module _ (next : ℕ) (l : from < to) (e : next ≡ get_or w (from + 3) 0) where
    pub way_more : way_to w from to ≡ from ∷ way_to w next to
    way_more =
        let n : length w ≡ suc (length w - 1) = omega (arith, read from l linked.start) in
        let ahead = ahead_next from (length w - 1) l (record { whole = linked.start; inside = linked.within; enough = omega (arith, linked.stop) }) in
        let enough = way_enough (length w - 1) (get_or w (from + 3) 0) ahead in
        let same = ap (λ (k : ℕ). way w k (get_or w (from + 3) 0) to) n in
        rw e (ap (λ (k : ℕ). way w k from to) n ∙ way_step w (length w - 1) from to l ∙ ap (λ (r : List ℕ). from ∷ r) (enough ∙ sym same))

    pub way_shorter : length (way_to w next to) < length (way_to w from to)
    way_shorter = rw way_more (omega arith)

    pub linked_next : Linked w next to
    linked_next = rw e (record {
      start = linked.record_end from linked.start (omega (arith, linked.stop));
      within = linked.inside from linked.start (omega (arith, linked.stop));
      stop = linked.stop;
      whole = linked.whole;
      later = linked.later;
      inside = linked.inside;
      record_end = linked.record_end;
    })

-- what a loop on the way begins with
pub starts : (w : Bor (List ℕ)) (from to : ℕ) (s : Way) → Linked w.now from to → s ≡ record { words = w; at = from; to = to } → Linked s.words.now s.at s.to × Readable w.now (way_to s.words.now s.at s.to) × (way_to w.now from to ≡ way_to s.words.now s.at s.to)
starts w from to s linked e = rw e (linked, way_readable w.now from to linked, refl)

-- the choice, at one element more
module _ (test : ℕ → Bool) (forward : Bool) (d : Option ℕ) where
  pub choose_none : choose test forward d [] ≡ d
  unfolding choose
  choose_none = refl

  module _ (a : ℕ) (l : List ℕ) where
    pub choose_first : test a ≡ true → forward ≡ true → choose test forward d (a ∷ l) ≡ Some a
    unfolding choose
    choose_first h f = rw (h, f)

    pub choose_later : test a ≡ true → forward ≡ false → choose test forward d (a ∷ l) ≡ choose test forward (Some a) l
    unfolding choose
    choose_later h f = rw (h, f) (ap (λ (b : Bool). choose test b (Some a) l) f)

    pub choose_miss : test a ≡ false → choose test forward d (a ∷ l) ≡ choose test forward d l
    unfolding choose
    choose_miss h = rw h

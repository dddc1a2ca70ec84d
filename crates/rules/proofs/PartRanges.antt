-- The one pass over a part's records accepts exactly the parts that keep the rules as document 01 words them: ranges by parents and
-- preceding siblings. By induction on the records still to read, with the numbers of those around. Assumes nothing.
use mathlib.Core.Path.{◌≡◌, refl, sym, ap, subst, ◌∙◌}
use mathlib.Core.Bool.{Bool, true, false, ◌&&◌}
use mathlib.Core.List.{List, [], ◌∷◌}
use Prim.Native.Nat.{ℕ, zero, suc, ◌+◌, ◌*◌, ◌/◌, ◌≤◌, ◌<◌}
use native.Mathlib.Omega.{arith}
use native.Mathlib.Nat.{le_refl}
use native.Mathlib.Decide.{ℕ_discrete}
use borrow.Author.Tests.{le-leb, lt-leb, leb-true, leb-false}
use lib.Dec.{leb}
use lib.ListN.{length, drop, length-drop}
use Rattle.words.specs.Words.{start_of, end_of, last_of}
use Rattle.words.proofs.Runs.{four_at}
use Rattle.part.specs.Part.{end_index, greatest_end, part_check}
use Rattle.part.proofs.Faults.{Passes, passes}
use Rattle.rules.specs.PartRules.{Inside, Parent, Preceding, PartKept}
use Rattle.rules.specs.PartLowest.{Around, still, earliest, ends_inside, ranges, is_accepted, part_kept}
use Rattle.rules.proofs.Tests.{both, none_left}
use Rattle.rules.proofs.PartRead.{accepted_is}

module _ (w : List ℕ) (T : ℕ) (p : Passes w T) where
  -- the records around, by their numbers
  abbrev arounds : List ℕ → List Around
  arounds [] = []
  arounds (j ∷ js) = record { stop = end_index w j; end = end_of w j } ∷ arounds js

  unfoldable left_of : (off : ℕ) → List ℕ → List ℕ
  left_of off [] = []
  left_of off (j ∷ js) = elim (leb (end_index w j) off) [ true ↦ left_of off js | false ↦ j ∷ js ]

  still_left : (off : ℕ) (js : List ℕ) → still off (arounds js) ≡ arounds (left_of off js)
  unfolding still left_of
  still_left off [] = refl
  still_left off (j ∷ js) = go (leb (end_index w j) off) (still_left off js)
    where
      go : (b : Bool) → still off (arounds js) ≡ arounds (left_of off js)
          → elim b [ true ↦ still off (arounds js) | false ↦ arounds (j ∷ js) ] ≡ arounds (elim b [ true ↦ left_of off js | false ↦ j ∷ js ])
      go true h = h
      go false h = refl

  abbrev Has : ℕ → List ℕ → Type 0
  Has k [] = ⊥
  Has k (j ∷ js) = (j ≡ k → ⊥) → Has k js

  -- records before i that end at its offset or later, and past it
  abbrev Each : (i : ℕ) → List ℕ → Type 0
  Each i [] = Unit {0}
  Each i (j ∷ js) = (j < i) × (i * 4 ≤ end_index w j) × Each i js

  abbrev Past : (i : ℕ) → List ℕ → Type 0
  Past i [] = Unit {0}
  Past i (j ∷ js) = (j < i) × (i * 4 < end_index w j) × Past i js

  abbrev Above : ℕ → List ℕ → Type 0
  Above j [] = Unit {0}
  Above j (k ∷ ks) = (k < j) × Above j ks

  abbrev Falling : List ℕ → Type 0
  Falling [] = Unit {0}
  Falling (j ∷ js) = Above j js × Falling js

  -- all records before i that end at its offset or later, the latest first
  record Stack (i : ℕ) (js : List ℕ) : Type 0 where
    all : (k : ℕ) → k < i → i * 4 ≤ end_index w k → Has k js
    each : Each i js
    falling : Falling js

  has_left : (off k : ℕ) (js : List ℕ) → off < end_index w k → Has k js → Has k (left_of off js)
  unfolding left_of
  has_left off k [] a h = h
  has_left off k (j ∷ js) a h = go (leb (end_index w j) off) refl (has_left off k js a)
    where
      go : (b : Bool) → leb (end_index w j) off ≡ b → (Has k js → Has k (left_of off js)) → Has k (elim b [ true ↦ left_of off js | false ↦ j ∷ js ])
      go true e r = r (h (λ s. let q : end_index w j ≡ end_index w k = ap (end_index w) s in omega (arith, leb-true (end_index w j) off e)))
      go false e r = h

  falling_left : (off : ℕ) (js : List ℕ) → Falling js → Falling (left_of off js)
  unfolding left_of
  falling_left off [] h = h
  falling_left off (j ∷ js) h = go (leb (end_index w j) off) (falling_left off js h.1)
    where
      go : (b : Bool) → Falling (left_of off js) → Falling (elim b [ true ↦ left_of off js | false ↦ j ∷ js ])
      go true r = r
      go false r = h

  -- under a record that goes on past i, those around it do so too
  past_older : (i j : ℕ) (js : List ℕ) → i * 4 < length w → j < i → i * 4 < end_index w j → Above j js → Each i js → Past i js
  past_older i j [] m a b u e = tt
  past_older i j (k ∷ js) m a b u e =
      (e.0, omega (arith, p.nested j k (omega arith) u.0 (omega (arith, e.1))), past_older i j js m a b u.1 e.2)

  past_left : (i : ℕ) (js : List ℕ) → i * 4 < length w → Each i js → Falling js → Past i (left_of (i * 4) js)
  unfolding left_of
  past_left i [] m e f = tt
  past_left i (j ∷ js) m e f = go (leb (end_index w j) (i * 4)) refl (past_left i js m e.2 f.1)
    where
      go : (b : Bool) → leb (end_index w j) (i * 4) ≡ b → Past i (left_of (i * 4) js) → Past i (elim b [ true ↦ left_of (i * 4) js | false ↦ j ∷ js ])
      go true q r = r
      go false q r = let a = leb-false (end_index w j) (i * 4) q in (e.0, a, past_older i j js m e.0 a f.0 e.2)

  past_above : (i : ℕ) (js : List ℕ) → Past i js → Above i js
  past_above i [] h = tt
  past_above i (j ∷ js) h = (h.0, past_above i js h.2)

  past_each : (i : ℕ) (js : List ℕ) → i * 4 < length w → Past i js → Each (i + 1) js
  past_each i [] m h = tt
  past_each i (j ∷ js) m h = (omega (arith, h.0), omega (arith, h.1, (p.sound j (omega (arith, h.0))).whole), past_each i js m h.2)

  stack_next : (i : ℕ) (js : List ℕ) → i * 4 < length w → Stack i js → Stack (i + 1) (i ∷ left_of (i * 4) js)
  stack_next i js m s =
      let past = past_left i js m s.each s.falling in
      record {
        all = λ k a b ne. older k a b (λ e. ne (sym e));
        each = (omega arith, omega (arith, (p.sound i m).after), past_each i (left_of (i * 4) js) m past);
        falling = (past_above i (left_of (i * 4) js) past, falling_left (i * 4) js s.falling);
      }
    where
      older : (k : ℕ) → k < i + 1 → (i + 1) * 4 ≤ end_index w k → (k ≡ i → ⊥) → Has k (left_of (i * 4) js)
      older k a b ne = has_left (i * 4) k js (omega arith) (s.all k (omega arith) (omega arith))

  -- the head of what is left is the parent
  has_below : (k b : ℕ) (js : List ℕ) → Above b js → Has k js → k < b
  has_below k b [] u h = absurd h
  has_below k b (j ∷ js) u h = go (ℕ_discrete j k) (has_below k b js u.1)
    where
      go : Dec (j ≡ k) → (Has k js → k < b) → k < b
      go (yes e) r = omega (arith, u.0)
      go (no e) r = r (h e)

  has_most : (k h : ℕ) (js : List ℕ) → Falling (h ∷ js) → Has k (h ∷ js) → k ≤ h
  has_most k h js f m = go (ℕ_discrete h k)
    where
      go : Dec (h ≡ k) → k ≤ h
      go (yes e) = omega arith
      go (no e) = let q = has_below k h js f.0 (m e) in omega arith

  head_parent : (i h : ℕ) (js hs : List ℕ) → i * 4 < length w → Stack i js → left_of (i * 4) js ≡ h ∷ hs → Parent w h i
  head_parent i h js hs m s e =
      let past : Past i (h ∷ hs) = subst (Past i) e (past_left i js m s.each s.falling) in
      let fall : Falling (h ∷ hs) = subst Falling e (falling_left (i * 4) js s.falling) in
      record {
        inside = (past.0, past.1);
        innermost = λ k u. has_most k h hs fall (subst (Has k) e (has_left (i * 4) k js u.1 (s.all k u.0 (omega (arith, u.1)))));
      }

  has_past : (i k : ℕ) (js : List ℕ) → Past i js → Has k js → i * 4 < end_index w k
  has_past i k [] h x = absurd x
  has_past i k (j ∷ js) h x = go (ℕ_discrete j k) (has_past i k js h.2)
    where
      go : Dec (j ≡ k) → (Has k js → i * 4 < end_index w k) → i * 4 < end_index w k
      go (yes e) r = subst (λ y. i * 4 < end_index w y) e h.1
      go (no e) r = r (x e)

  each_above : (i : ℕ) (js : List ℕ) → Each i js → Above i js
  each_above i [] h = tt
  each_above i (j ∷ js) h = (h.0, each_above i js h.2)

  left_all : (i h : ℕ) (hs : List ℕ) → i * 4 < end_index w h → left_of (i * 4) (h ∷ hs) ≡ h ∷ hs
  unfolding left_of
  left_all i h hs a = rw (lt-leb (end_index w h) (i * 4) a, left_of)

  -- lo is the start of the latest record, 0 before the first
  abbrev Low : ℕ → List ℕ → Type 0
  Low lo [] = lo ≡ 0
  Low lo (h ∷ hs) = lo ≡ start_of w h

  -- From the rules to the pass.
  module _ (kids : (i j : ℕ) → i * 4 < length w → Parent w j i → (start_of w j ≤ start_of w i) × (end_of w i ≤ end_of w j))
      (sibs : (i j : ℕ) → i * 4 < length w → Preceding w j i → end_of w j ≤ start_of w i) where
    in_parent : (i : ℕ) (js : List ℕ) → i * 4 < length w → Stack i js → ends_inside (end_of w i) (arounds (left_of (i * 4) js)) ≡ true
    unfolding ends_inside
    in_parent i js m s = go (left_of (i * 4) js) refl
      where
        go : (hs : List ℕ) → left_of (i * 4) js ≡ hs → ends_inside (end_of w i) (arounds hs) ≡ true
        go [] e = refl
        go (h ∷ hs) e = le-leb (end_of w i) (end_of w h) (kids i h m (head_parent i h js hs m s e)).1

    -- a record starts after its preceding sibling, or else after its parent's start, which is lo where none of js ends at i
    not_early : (i b lo : ℕ) (js : List ℕ) → i * 4 < length w → Above b js → ((k : ℕ) → k < b → i * 4 ≤ end_index w k → Has k js) → Each i js → Falling js
        → (Past i js → lo ≤ start_of w i) → earliest (i * 4) lo (arounds js) ≤ start_of w i
    unfolding earliest
    not_early i b lo [] m u all e f h = h tt
    not_early i b lo (j ∷ js) m u all e f h = go (leb (end_index w j) (i * 4)) refl (λ x. not_early i j (end_of w j) js m f.0 older e.2 f.1 x)
      where
        older : (k : ℕ) → k < j → i * 4 ≤ end_index w k → Has k js
        older k a q = all k (omega (arith, u.0)) q (λ s. omega arith)

        go : (x : Bool) → leb (end_index w j) (i * 4) ≡ x → ((Past i js → end_of w j ≤ start_of w i) → earliest (i * 4) (end_of w j) (arounds js) ≤ start_of w i)
            → elim x [ true ↦ earliest (i * 4) (end_of w j) (arounds js) | false ↦ lo ] ≤ start_of w i
        go true q r = r (λ st. sibs i j m (record { before = e.0; meets = meets; around = outer st }))
          where
            meets : end_index w j ≡ i * 4
            meets = omega (arith, e.1, leb-true (end_index w j) (i * 4) q)

            outer : Past i js → (k : ℕ) → Inside w j k → Inside w i k
            outer st k v =
                let n = p.nested j k (omega (arith, e.0)) v.0 v.1 in
                (omega (arith, v.0, e.0), has_past i k js st (older k v.0 (omega (arith, n, meets))))
        go false q r = h (e.0, leb-false (end_index w j) (i * 4) q, past_older i j js m e.0 (leb-false (end_index w j) (i * 4) q) f.0 e.2)

    -- lo is the start of the record before i
    not_early_at : (i lo : ℕ) (js : List ℕ) → i * 4 < length w → Stack i js → Low lo js → earliest (i * 4) lo (arounds js) ≤ start_of w i
    not_early_at i lo js m s low = not_early i i lo js m (each_above i js s.each) s.all s.each s.falling (first js refl low)
      where
        first : (hs : List ℕ) → js ≡ hs → Low lo hs → Past i hs → lo ≤ start_of w i
        first [] e q st = omega arith
        first (h ∷ hs) e q st =
            let left : left_of (i * 4) js ≡ h ∷ hs = ap (left_of (i * 4)) e ∙ left_all i h hs st.1 in
            let k = (kids i h m (head_parent i h js hs m s left)).0 in
            omega arith

    rules_ranges : (left i lo : ℕ) (js : List ℕ) → i + left ≡ length w / 4 → Stack i js → Low lo js → ranges (i * 4) lo (arounds js) (drop (i * 4) w) ≡ true
    unfolding ranges
    rules_ranges zero i lo js q s low = ap (ranges (i * 4) lo (arounds js)) (none_left (drop (i * 4) w) (omega (arith, length-drop (i * 4) w, p.whole)))
    rules_ranges (suc left) i lo js q s low =
        let m : i * 4 < length w = omega arith in
        let rest = left_of (i * 4) js in
        let next : (i + 1) * 4 ≡ i * 4 + 4 = omega arith in
        let again = rules_ranges left (i + 1) (start_of w i) (i ∷ rest) (omega arith) (stack_next i js m s) refl in
        let early : leb (earliest (i * 4) lo (arounds js)) (start_of w i) ≡ true = le-leb (earliest (i * 4) lo (arounds js)) (start_of w i) (not_early_at i lo js m s low) in
        let on : ranges (i * 4 + 4) (start_of w i) (arounds (i ∷ rest)) (drop ((i + 1) * 4) w) ≡ true =
        ap (λ y. ranges y (start_of w i) (arounds (i ∷ rest)) (drop ((i + 1) * 4) w)) (sym next) ∙ again in
        ap (ranges (i * 4) lo (arounds js)) (four_at w i (omega arith)) ∙ rw (still_left (i * 4) js, early, in_parent i js m s, on)

  -- From the pass to the rules: around a record the others start no later, and end no earlier.
  abbrev Wide : ℕ → List ℕ → Type 0
  Wide j [] = Unit {0}
  Wide j (k ∷ ks) = (start_of w k ≤ start_of w j) × (end_of w j ≤ end_of w k) × Wide j ks

  abbrev Ranged : List ℕ → Type 0
  Ranged [] = Unit {0}
  Ranged (j ∷ js) = (start_of w j ≤ end_of w j) × Wide j js × Ranged js

  -- what the rules ask of the ranges of record i
  abbrev Asked : ℕ → Type 0
  Asked i = record {
    children : (j : ℕ) → Parent w j i → (start_of w j ≤ start_of w i) × (end_of w i ≤ end_of w j);
    siblings : (j : ℕ) → Preceding w j i → end_of w j ≤ start_of w i;
  }

  ranged_left : (off : ℕ) (js : List ℕ) → Ranged js → Ranged (left_of off js)
  unfolding left_of
  ranged_left off [] h = h
  ranged_left off (j ∷ js) h = go (leb (end_index w j) off) (ranged_left off js h.2)
    where
      go : (b : Bool) → Ranged (left_of off js) → Ranged (elim b [ true ↦ left_of off js | false ↦ j ∷ js ])
      go true r = r
      go false r = h

  -- no record of js that ends at the offset ends after the earliest start
  ended : (off lo j : ℕ) (js : List ℕ) → Ranged js → (end_of w j ≤ lo) → Wide j js → end_of w j ≤ earliest off lo (arounds js)
  unfolding earliest
  ended off lo j [] r h v = h
  ended off lo j (k ∷ ks) r h v = go (leb (end_index w k) off) (ended off (end_of w k) j ks r.2 v.1 v.2)
    where
      go : (b : Bool) → end_of w j ≤ earliest off (end_of w k) (arounds ks) → end_of w j ≤ elim b [ true ↦ earliest off (end_of w k) (arounds ks) | false ↦ lo ]
      go true q = q
      go false q = h

  ended_in : (i lo j : ℕ) (js : List ℕ) → i * 4 < length w → Each i js → Falling js → Ranged js → Has j js → end_index w j ≤ i * 4 → end_of w j ≤ earliest (i * 4) lo (arounds js)
  unfolding earliest
  ended_in i lo j [] m e f r h s = absurd h
  ended_in i lo j (k ∷ ks) m e f r h s = go (leb (end_index w k) (i * 4)) refl (ℕ_discrete k j) (λ x. ended_in i (end_of w k) j ks m e.2 f.1 r.2 x s)
    where
      go : (b : Bool) → leb (end_index w k) (i * 4) ≡ b → Dec (k ≡ j) → (Has j ks → end_of w j ≤ earliest (i * 4) (end_of w k) (arounds ks))
          → end_of w j ≤ elim b [ true ↦ earliest (i * 4) (end_of w k) (arounds ks) | false ↦ lo ]
      go true q (yes z) x = subst (λ y. end_of w y ≤ earliest (i * 4) (end_of w k) (arounds ks)) z (ended (i * 4) (end_of w k) k ks r.2 (le_refl (end_of w k)) r.1)
      go true q (no z) x = x (h z)
      go false q (yes z) x = absurd (omega (arith, leb-false (end_index w k) (i * 4) q, ap (end_index w) z))
      go false q (no z) x =
          let a = leb-false (end_index w k) (i * 4) q in
          absurd (omega (arith, has_past i j ks (past_older i k ks m e.0 a f.0 e.2) (h z), s))

  -- the records around start at x or before it
  abbrev By : ℕ → List ℕ → Type 0
  By x [] = Unit {0}
  By x (j ∷ js) = (start_of w j ≤ x) × By x js

  by_more : (y j : ℕ) (js : List ℕ) → start_of w j ≤ y → Wide j js → By y js
  by_more y j [] h v = tt
  by_more y j (k ∷ ks) h v = (omega (arith, v.0), by_more y j ks h v.2)

  by_left : (off lo : ℕ) (js : List ℕ) → Ranged js → By lo js → By (earliest off lo (arounds js)) (left_of off js)
  unfolding earliest left_of
  by_left off lo [] r h = tt
  by_left off lo (j ∷ js) r h = go (leb (end_index w j) off) (by_left off (end_of w j) js r.2 (by_more (end_of w j) j js r.0 r.1))
    where
      go : (b : Bool) → By (earliest off (end_of w j) (arounds js)) (left_of off js)
          → By (elim b [ true ↦ earliest off (end_of w j) (arounds js) | false ↦ lo ]) (elim b [ true ↦ left_of off js | false ↦ j ∷ js ])
      go true q = q
      go false q = h

  low_by : (lo : ℕ) (js : List ℕ) → Ranged js → Low lo js → By lo js
  low_by lo [] r h = tt
  low_by lo (j ∷ js) r h = (omega arith, by_more lo j js (omega arith) r.1)

  -- a record after those around it
  wide_ends : (i h : ℕ) (js : List ℕ) → end_of w i ≤ end_of w h → Wide h js → By (start_of w i) js → Wide i js
  wide_ends i h [] e v b = tt
  wide_ends i h (k ∷ ks) e v b = (b.0, omega (arith, v.1), wide_ends i h ks e v.2 b.1)

  by_less : (x y : ℕ) (js : List ℕ) → x ≤ y → By x js → By y js
  by_less x y [] h b = tt
  by_less x y (j ∷ js) h b = (omega (arith, b.0), by_less x y js h b.1)

  wide_at : (i : ℕ) (js : List ℕ) → ends_inside (end_of w i) (arounds js) ≡ true → Ranged js → By (start_of w i) js → Wide i js
  unfolding ends_inside
  wide_at i [] h r b = tt
  wide_at i (j ∷ js) h r b = let e = leb-true (end_of w i) (end_of w j) h in (b.0, e, wide_ends i j js e r.1 b.1)

  has_wide : (i j : ℕ) (js : List ℕ) → Has j js → Wide i js → (start_of w j ≤ start_of w i) × (end_of w i ≤ end_of w j)
  has_wide i j [] h v = absurd h
  has_wide i j (k ∷ ks) h v = go (ℕ_discrete k j) (λ x. has_wide i j ks x v.2)
    where
      go : Dec (k ≡ j) → (Has j ks → (start_of w j ≤ start_of w i) × (end_of w i ≤ end_of w j)) → (start_of w j ≤ start_of w i) × (end_of w i ≤ end_of w j)
      go (yes e) r = subst (λ y. (start_of w y ≤ start_of w i) × (end_of w i ≤ end_of w y)) e (v.0, v.1)
      go (no e) r = r (h e)

  module _ (i lo : ℕ) (js : List ℕ) (m : i * 4 < length w) (s : Stack i js) (r : Ranged js) (low : Low lo js)
      (early : earliest (i * 4) lo (arounds js) ≤ start_of w i) (late : ends_inside (end_of w i) (arounds (left_of (i * 4) js)) ≡ true) where
    ranged_wide : Wide i (left_of (i * 4) js)
    ranged_wide =
        wide_at i (left_of (i * 4) js) late (ranged_left (i * 4) js r)
        (by_less (earliest (i * 4) lo (arounds js)) (start_of w i) (left_of (i * 4) js) early (by_left (i * 4) lo js r (low_by lo js r low)))

    asked : Asked i
    asked = record {
      children = λ j k. has_wide i j (left_of (i * 4) js) (has_left (i * 4) j js k.inside.1 (s.all j k.inside.0 (omega (arith, k.inside.1)))) ranged_wide;
      siblings = λ j k. omega (arith, early, ended_in i lo j js m s.each s.falling r (s.all j k.before (omega (arith, k.meets))) (omega (arith, k.meets)));
    }

    ranged_next : Ranged (i ∷ left_of (i * 4) js)
    ranged_next = ((p.sound i m).ordered, ranged_wide, ranged_left (i * 4) js r)

  ranges_rules : (left i lo : ℕ) (js : List ℕ) → i + left ≡ length w / 4 → Stack i js → Ranged js → Low lo js → ranges (i * 4) lo (arounds js) (drop (i * 4) w) ≡ true
      → (k : ℕ) → i ≤ k → k < i + left → Asked k
  unfolding ranges
  ranges_rules zero i lo js q s r low h k a b = absurd (omega arith)
  ranges_rules (suc left) i lo js q s r low h k a b =
      go (ℕ_discrete i k) (λ u v x y z. ranges_rules left (i + 1) (start_of w i) (i ∷ left_of (i * 4) js) (omega arith) u v refl x k y z)
    where
      m : i * 4 < length w
      m = omega arith

      next : i * 4 + 4 ≡ (i + 1) * 4
      next = omega arith

      here : (leb (earliest (i * 4) lo (arounds js)) (start_of w i)
          && (ends_inside (end_of w i) (still (i * 4) (arounds js))
          && ranges (i * 4 + 4) (start_of w i) (record { stop = last_of w i; end = end_of w i } ∷ still (i * 4) (arounds js)) (drop ((i + 1) * 4) w))) ≡ true
      here = ap (ranges (i * 4) lo (arounds js)) (sym (four_at w i (omega arith))) ∙ h

      early : earliest (i * 4) lo (arounds js) ≤ start_of w i
      early = leb-true (earliest (i * 4) lo (arounds js)) (start_of w i) (both (leb (earliest (i * 4) lo (arounds js)) (start_of w i)) _ here).0

      others : (ends_inside (end_of w i) (still (i * 4) (arounds js))
          && ranges (i * 4 + 4) (start_of w i) (record { stop = last_of w i; end = end_of w i } ∷ still (i * 4) (arounds js)) (drop ((i + 1) * 4) w)) ≡ true
      others = (both (leb (earliest (i * 4) lo (arounds js)) (start_of w i)) _ here).1

      late : ends_inside (end_of w i) (arounds (left_of (i * 4) js)) ≡ true
      late = subst (λ y. ends_inside (end_of w i) y ≡ true) (still_left (i * 4) js) (both (ends_inside (end_of w i) (still (i * 4) (arounds js))) _ others).0

      rest : ranges ((i + 1) * 4) (start_of w i) (arounds (i ∷ left_of (i * 4) js)) (drop ((i + 1) * 4) w) ≡ true
      rest =
          subst (λ y. ranges y (start_of w i) (arounds (i ∷ left_of (i * 4) js)) (drop ((i + 1) * 4) w) ≡ true) next
          (subst (λ y. ranges (i * 4 + 4) (start_of w i) (record { stop = last_of w i; end = end_of w i } ∷ y) (drop ((i + 1) * 4) w) ≡ true) (still_left (i * 4) js)
          (both (ends_inside (end_of w i) (still (i * 4) (arounds js))) _ others).1)

      go : Dec (i ≡ k)
          → (Stack (i + 1) (i ∷ left_of (i * 4) js) → Ranged (i ∷ left_of (i * 4) js)
          → ranges ((i + 1) * 4) (start_of w i) (arounds (i ∷ left_of (i * 4) js)) (drop ((i + 1) * 4) w) ≡ true → i + 1 ≤ k → k < i + 1 + left → Asked k) → Asked k
      go (yes e) x = subst Asked e (asked i lo js m s r low early late)
      go (no e) x = x (stack_next i js m s) (ranged_next i lo js m s r low early late) rest (omega arith) (omega arith)

  stack_none : Stack 0 []
  stack_none = record { all = λ k a. absurd (omega arith); each = tt; falling = tt }

  pub rules_pass : ((i j : ℕ) → i * 4 < length w → Parent w j i → (start_of w j ≤ start_of w i) × (end_of w i ≤ end_of w j))
      → ((i j : ℕ) → i * 4 < length w → Preceding w j i → end_of w j ≤ start_of w i) → ranges 0 0 [] w ≡ true
  rules_pass kids sibs = rules_ranges kids sibs (length w / 4) 0 0 [] (omega arith) stack_none refl

  pub pass_rules : ranges 0 0 [] w ≡ true → (i : ℕ) → i * 4 < length w → Asked i
  pass_rules h i m = ranges_rules (length w / 4) 0 0 [] (omega arith) stack_none tt refl h i (omega arith) (omega (arith, p.whole))

module _ (w : List ℕ) (T l : ℕ) where
  -- The one pass accepts a part exactly when it keeps the rules.
  pub part_rules : part_kept T l w ≡ true → PartKept w T l
  unfolding part_kept
  part_rules h =
      let (a, b) = both (is_accepted (part_check w T)) _ h in
      let (counts, ok) = accepted_is (part_check w T) a in
      let (c, d) = both (leb (greatest_end w) l) _ b in
      let each = pass_rules w T (passes w T counts ok) d in
      record {
        counts = counts;
        passes = ok;
        children = λ i j m. (each i m).children j;
        siblings = λ i j m. (each i m).siblings j;
        ends = leb-true (greatest_end w) l c;
      }

  pub rules_part : PartKept w T l → part_kept T l w ≡ true
  unfolding part_kept
  rules_part k = rw (k.passes, le-leb (greatest_end w) l k.ends, rules_pass w T (passes w T k.counts k.passes) k.children k.siblings)

-- The first-level siblings in the tables of the scan: what a look-up by the record at which a span begins finds, and what a sibling
-- more and a sibling over the last ones make of it. By induction on the siblings.
-- Assumes nothing.
use mathlib.Core.Path.{◌≡◌, refl, sym, ap, ◌∙◌}
use mathlib.Core.List.{List}
use mathlib.Core.Bool.{Bool, true, false, true≢false, ◌&&◌}
use Prim.Native.Nat.{ℕ, zero, suc, ◌+◌, ◌-◌, ◌*◌, ◌≤◌, ◌<◌}
use native.Mathlib.Decide.{ℕ_discrete}
use native.Mathlib.Omega.{arith}
use borrow.Author.Tests.{le-leb, lt-ltb, eq-eqb, leb-true, ltb-true, eqb-true}
use lib.Dec.{leb, ltb, eqb}
use lib.ListN.{length, get_or, set, length-set}
use lib.Seq.{get_or-set_same, get_or-set_other}
use Rattle.records.specs.Forest.{Forest, empty, add, count}
use Rattle.records.specs.Parse.{nearest, farther}
use Rattle.records.specs.Check.{fills}
use Rattle.records.specs.Taking.{Stacked, begins_at}
use Rattle.records.proofs.ParseLaws.{nearest_zero, farther_zero}
use Rattle.records.proofs.Spelling.{fills_zero}
use Rattle.records.proofs.Order.{front}

pub and_both : (a b : Bool) → (a && b) ≡ true → (a ≡ true) × (b ≡ true)
and_both true true h = (refl, refl)
and_both true false h = absurd (true≢false (sym h))
and_both false b h = absurd (true≢false (sym h))

-- equal tables hold equal siblings
pub stacked_as : {v v' w w' : List ℕ} {f f' : Forest} (h : ℕ) → v' ≡ v → w' ≡ w → f' ≡ f → Stacked v w f h → Stacked v' w' f' h
stacked_as h ev ew ef s = rw (ev, ew, ef) s

-- words behind those of the siblings do not matter
stacked_same : (v v' w w' : List ℕ) (f : Forest) (h : ℕ) → ((k : ℕ) → k < h * 2 → get_or w' k 0 ≡ get_or w k 0) → ((b : ℕ) → b < count f → get_or v' b 0 ≡ get_or v b 0)
    → Stacked v w f h → Stacked v' w' f h
unfolding count
stacked_same v v' w w' empty h x z s = s
stacked_same v v' w w' (add before i a e kids) h x z s =
    record {
      under = s.under;
      is = s.is;
      begins = x (s.under * 2) (omega (arith, s.is)) ∙ s.begins;
      starts = x (s.under * 2 + 1) (omega (arith, s.is)) ∙ s.starts;
      level = z (count before) (omega arith) ∙ s.level;
      earlier = stacked_same v v' w w' before s.under (λ k l. x k (omega (arith, s.is))) (λ b l. z b (omega arith)) s.earlier;
    }

-- the siblings from number k on hold the records from b on: what stands before them, and where they start
pub record Split (v w : List ℕ) (f : Forest) (b k : ℕ) : Type 0 where
  pub inside : b < count f
  pub fill : fills f (count f - b) ≡ true
  pub before : Stacked v w (farther f (count f - b)) k
  pub counted : count (farther f (count f - b)) ≡ b
  pub begins : get_or w (k * 2) 0 ≡ b
  pub level : get_or v b 0 ≡ k
  pub first : (d : ℕ) → get_or w (k * 2 + 1) 0 ≡ front d (nearest f (count f - b))

module _ (v w : List ℕ) (before : Forest) (i s e : ℕ) (kids : Forest) (h : ℕ) (st : Stacked v w (add before i s e kids) h) where
  -- the last sibling alone
  split_last : Split v w (add before i s e kids) (count before) st.under
  unfolding count fills farther nearest front
  split_last =
      let z : suc (count kids + count before) - count before ≡ suc (count kids) = omega arith in
      let y : count kids - count kids ≡ 0 = omega arith in
      record {
        inside = omega arith;
        fill = rw (z, le-leb (count kids) (count kids) (omega arith), y) (fills_zero before);
        before = rw (z, y, farther_zero before) st.earlier;
        counted = rw (z, y, farther_zero before);
        begins = st.begins;
        level = st.level;
        first = λ d. rw (z, y, nearest_zero before) st.starts;
      }

  -- the last sibling and some before it
  split_more : (b k : ℕ) → Split v w before b k → Split v w (add before i s e kids) b k
  unfolding count fills farther nearest front
  split_more b k r =
      let z : suc (count kids + count before) - b ≡ suc (count kids + (count before - b)) = omega (arith, r.inside) in
      let y : count kids + (count before - b) - count kids ≡ count before - b = omega arith in
      record {
        inside = omega (arith, r.inside);
        fill = rw (z, le-leb (count kids) (count kids + (count before - b)) (omega arith), y) r.fill;
        before = rw (z, y) r.before;
        counted = rw (z, y) r.counted;
        begins = r.begins;
        level = r.level;
        first = λ d. rw (z, y) (r.first s);
      }

-- sibling number k, whose span begins at record b
found : (v w : List ℕ) (f : Forest) (h : ℕ) → Stacked v w f h → (b k : ℕ) → k < h → get_or w (k * 2) 0 ≡ b → Split v w f b k
found v w empty h st b k l e = absurd (omega arith)
found v w (add before i s e₁ kids) h st b k l e = go (ℕ_discrete k st.under) (λ m. found v w before st.under st.earlier b k m e)
  where
    go : Dec (k ≡ st.under) → (k < st.under → Split v w before b k) → Split v w (add before i s e₁ kids) b k
    go (yes q) rest =
        let c : b ≡ count before = sym e ∙ (ap (λ (x : ℕ). get_or w (x * 2) 0) q ∙ st.begins) in
        rw (c, q) (split_last v w before i s e₁ kids h st)
    go (no q) rest = split_more v w before i s e₁ kids h st b k (rest (omega (arith, st.is)))

-- the sibling whose span begins k records before the end
abbrev Begun : (levels siblings : List ℕ) → ℕ → ℕ → Type 0
Begun v w h b = (x : ℕ) × (x < h) × (get_or v b 0 ≡ x) × (get_or w (x * 2) 0 ≡ b)

begun : (v w : List ℕ) (f : Forest) (h : ℕ) → Stacked v w f h → (k : ℕ) → 0 < k → k ≤ count f → fills f k ≡ true → Begun v w h (count f - k)
unfolding count fills
begun v w empty h st k pos few t = absurd (omega arith)
begun v w (add before i s e kids) h st zero pos few t = absurd (omega arith)
begun v w (add before i s e kids) h st (suc k) pos few t =
    go (leb (count kids) k) refl t (ℕ_discrete (k - count kids) 0) (λ p l u. begun v w before st.under st.earlier (k - count kids) p l u)
  where
    go : (t : Bool) → leb (count kids) k ≡ t → (t && fills before (k - count kids)) ≡ true → Dec (k - count kids ≡ 0)
        → (0 < k - count kids → k - count kids ≤ count before → fills before (k - count kids) ≡ true → Begun v w st.under (count before - (k - count kids)))
        → Begun v w h (suc (count kids + count before) - suc k)
    go false a u q rest = absurd (true≢false (sym u))
    go true a u (yes q) rest =
        let b : suc (count kids + count before) - suc k ≡ count before = omega (arith, leb-true (count kids) k a) in
        rw b (st.under, omega (arith, st.is), st.level, st.begins)
    go true a u (no q) rest =
        let b : suc (count kids + count before) - suc k ≡ count before - (k - count kids) = omega (arith, leb-true (count kids) k a) in
        let r = rest (omega arith) (omega arith) u in
        rw b (r.0, omega (arith, st.is, r.1), r.2, r.3)

-- the test whether a sibling's span begins at a record
module _ (w : List ℕ) (level from h : ℕ) where
  begins_true : begins_at w level from h ≡ true → (level < h) × (get_or w (level * 2) 0 ≡ from)
  unfolding begins_at
  begins_true t =
      let b = and_both (ltb level h) (eqb (get_or w (level * 2) 0) from) t in
      (ltb-true level h b.0, eqb-true _ _ b.1)

  pub begins_low : begins_at w level from h ≡ true → level < h
  begins_low t = (begins_true t).0

-- the look-up of a span of k records more than its own, which begins at record `from`
module _ (v w : List ℕ) (f : Forest) (h : ℕ) (st : Stacked v w f h) (from level : ℕ) where
  pub split_at : begins_at w level from h ≡ true → Split v w f from level
  split_at t = let b = begins_true w level from h t in found v w f h st from level b.0 b.1

  -- no siblings fill it
  pub none_at : (k : ℕ) → 0 < k → k ≤ count f → from ≡ count f - k → level ≡ get_or v from 0 → begins_at w level from h ≡ false → fills f k ≡ false
  unfolding begins_at
  none_at k pos few is e no-begin = go (fills f k) refl
    where
      go : (t : Bool) → fills f k ≡ t → fills f k ≡ false
      go false t = t
      go true t =
          let b : Begun v w h from = rw is (begun v w f h st k pos few t) in
          let x : level ≡ b.0 = e ∙ b.2 in
          let y : get_or w (level * 2) 0 ≡ from = rw x b.3 in
          absurd (true≢false (sym (rw (lt-ltb level h (omega (arith, x, b.1)), eq-eqb _ _ y)) ∙ no-begin))

-- one sibling more
module _ (v w : List ℕ) (f : Forest) (h : ℕ) (st : Stacked v w f h) (c : ℕ) (is : count f ≡ c) (inside : c < length v) (room : h * 2 + 1 < length w) (s : ℕ) where
  abbrev v₁ : List ℕ
  v₁ = set v c h

  abbrev w₁ : List ℕ
  w₁ = set w (h * 2) c

  abbrev w₂ : List ℕ
  w₂ = set w₁ (h * 2 + 1) s

  pub stacked_push : (i e : ℕ) → Stacked v₁ w₂ (add f i s e empty) (h + 1)
  stacked_push i e =
      record {
        under = h;
        is = omega arith;
        begins = get_or-set_other w₁ (h * 2 + 1) (h * 2) s 0 (λ q. omega arith) ∙ (get_or-set_same w (h * 2) c 0 (omega (arith, room)) ∙ sym is);
        starts = get_or-set_same w₁ (h * 2 + 1) s 0 (simp length-set room);
        level = rw is (get_or-set_same v c h 0 inside);
        earlier =
            stacked_same v v₁ w w₂ f h
            (λ k l. get_or-set_other w₁ (h * 2 + 1) k s 0 (λ q. omega arith) ∙ get_or-set_other w (h * 2) k c 0 (λ q. omega arith))
            (λ b l. get_or-set_other v c b h 0 (λ q. omega (arith, is))) st;
      }

-- a sibling over the last ones
pub stacked_grow : (v w : List ℕ) (f : Forest) (b k m : ℕ) → Split v w f b k → count f - b ≡ m → k * 2 + 1 < length w → (i s e : ℕ)
    → Stacked v (set w (k * 2 + 1) s) (add (farther f m) i s e (nearest f m)) (k + 1)
stacked_grow v w f b k m t is room i s e =
    let other : (j : ℕ) → (j ≡ k * 2 + 1 → ⊥) → get_or (set w (k * 2 + 1) s) j 0 ≡ get_or w j 0 = λ j a. get_or-set_other w (k * 2 + 1) j s 0 a in
    rw (← is)
    (record {
      under = k;
      is = omega arith;
      begins = other (k * 2) (λ q. omega arith) ∙ (t.begins ∙ sym t.counted);
      starts = get_or-set_same w (k * 2 + 1) s 0 room;
      level = rw t.counted t.level;
      earlier = stacked_same v v w (set w (k * 2 + 1) s) (farther f (count f - b)) k (λ j l. other j (λ q. omega arith)) (λ j l. refl) t.before;
    })

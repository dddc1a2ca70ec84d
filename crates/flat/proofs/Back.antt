-- Records from the last one back and those that a flat part holds: one record at a time, and in two pieces. Assumes nothing.
use mathlib.Core.Path.{◌≡◌, refl, ap, ◌∙◌}
use mathlib.Core.Bool.{Bool, true, false}
use mathlib.Core.List.{List, [], ◌∷◌}
use Prim.Native.Nat.{ℕ, zero, suc, ◌+◌, ◌-◌, ◌*◌, ◌≤◌, ◌<◌}
use native.Mathlib.Omega.{arith}
use native.Mathlib.Nat.{le_refl}
use borrow.Author.Tests.{le-leb, lt-leb}
use lib.Dec.{leb}
use lib.ListN.{length, get_or}
use Rattle.tree.specs.Items.{Items}
use Rattle.tree.specs.Flat.{Record, rec, hold, flattened, flat_words}
use Rattle.tree.proofs.FlatLaws.{Held, hold_held}
use Rattle.cursor.specs.Spells.{Spells}
use Rattle.cursor.proofs.Back.{back}
use Rattle.cursor.proofs.Spelled.{spells_count, spells_none}
use Rattle.flat.specs.Back.{record_at, from_back, held_in}
use Rattle.tree.specs.Well.{Short}
use Rattle.tree.specs.Ordered.{Sorted, floor}

-- a record above 4 words is dropped, another is held
pub hold_none : (i s e n : ℕ) (rs : List Record) → 4 < n → hold (rec i s e n) rs ≡ rs
unfolding hold
hold_none i s e n rs h = ap (λ (x : Bool). elim x as (λ y. List Record) [ true ↦ rec i s e n ∷ rs | false ↦ rs ]) (lt-leb n 4 h)

pub hold_one : (i s e n : ℕ) (rs : List Record) → n ≤ 4 → hold (rec i s e n) rs ≡ rec i s e n ∷ rs
unfolding hold
hold_one i s e n rs h = ap (λ (x : Bool). elim x as (λ y. List Record) [ true ↦ rec i s e n ∷ rs | false ↦ rs ]) (le-leb n 4 h)

pub hold_few : (i s e n : ℕ) (rs : List Record) → length (hold (rec i s e n) rs) ≤ suc (length rs)
unfolding hold
hold_few i s e n rs = go (leb n 4)
  where
    go : (x : Bool) → length {A = Record} (elim x as (λ y. List Record) [ true ↦ rec i s e n ∷ rs | false ↦ rs ]) ≤ suc (length rs)
    go true = omega arith
    go false = omega arith

module _ (w : List ℕ) where
  pub back_none : (lo : ℕ) → from_back w lo 0 ≡ []
  unfolding from_back
  back_none lo = refl

  pub back_one : (lo k : ℕ) → from_back w lo (suc k) ≡ record_at w (lo + k) ∷ from_back w lo k
  unfolding from_back
  back_one lo k = refl

  pub back_step : (lo at : ℕ) → lo < at → from_back w lo (at - lo) ≡ record_at w (at - 1) ∷ from_back w lo (at - 1 - lo)
  back_step lo at h =
      let e : at - lo ≡ suc (at - 1 - lo) = omega arith in
      let f : lo + (at - 1 - lo) ≡ at - 1 = omega arith in
      ap (λ (k : ℕ). from_back w lo k) e ∙ (back_one lo (at - 1 - lo) ∙ ap (λ (j : ℕ). record_at w j ∷ from_back w lo (at - 1 - lo)) f)

  pub held_none : (q : ℕ) → held_in w q 0 ≡ []
  unfolding held_in
  held_none q = refl

  pub held_one : (q k : ℕ) → held_in w q (suc k) ≡ hold (record_at w q) (held_in w (suc q) k)
  unfolding held_in
  held_one q k = refl

  pub held_step : (p at : ℕ) → 1 ≤ at → at ≤ p → held_in w (at - 1) (p - (at - 1)) ≡ hold (record_at w (at - 1)) (held_in w at (p - at))
  held_step p at h l =
      let e : p - (at - 1) ≡ suc (p - at) = omega arith in
      let f : suc (at - 1) ≡ at = omega arith in
      ap (λ (k : ℕ). held_in w (at - 1) k) e ∙ (held_one (at - 1) (p - at) ∙ ap (λ (j : ℕ). hold (record_at w (at - 1)) (held_in w j (p - at))) f)

  -- no more are held than there are records
  pub held_few : (k q : ℕ) → length (held_in w q k) ≤ k
  unfolding held_in
  held_few zero q = omega arith
  held_few (suc k) q =
      omega (arith, held_few k (suc q), hold_few (get_or w (q * 4) 0) (get_or w (q * 4 + 1) 0) (get_or w (q * 4 + 2) 0) (get_or w (q * 4 + 3) 0) (held_in w (suc q) k))

  hold_grown : (i s e n : ℕ) (rs : List Record) → length (hold (rec i s e n) rs) ≡ length (hold (rec i s e n) []) + length rs
  unfolding hold
  hold_grown i s e n rs = go (leb n 4)
    where
      go : (x : Bool) → length {A = Record} (elim x as (λ y. List Record) [ true ↦ rec i s e n ∷ rs | false ↦ rs ])
          ≡ length {A = Record} (elim x as (λ y. List Record) [ true ↦ rec i s e n ∷ [] | false ↦ [] ]) + length rs
      go true = omega arith
      go false = omega arith

  -- the held ones of two pieces, one after the other
  pub held_split : (k m q : ℕ) → length (held_in w q (k + m)) ≡ length (held_in w q k) + length (held_in w (q + k) m)
  unfolding held_in
  held_split zero m q =
      let e : q + 0 ≡ q = omega arith in
      let z : 0 + m ≡ m = omega arith in
      rw (e, z) (omega arith)
  held_split (suc k) m q =
      let e : q + suc k ≡ suc q + k = omega arith in
      let t : suc k + m ≡ suc (k + m) = omega arith in
      let i = get_or w (q * 4) 0 in
      let s = get_or w (q * 4 + 1) 0 in
      let f = get_or w (q * 4 + 2) 0 in
      let n = get_or w (q * 4 + 3) 0 in
      rw (e, t) (omega (arith, held_split k m (suc q), hold_grown i s f n (held_in w (suc q) (k + m)), hold_grown i s f n (held_in w (suc q) k)))

  short_hold : (p off i s e n : ℕ) (rs : List Record) → Short (flat_words p off (hold (rec i s e n) rs)) → Short (flat_words p (off + 4 * length (hold (rec i s e n) [])) rs)
  unfolding hold flat_words
  short_hold p off i s e n rs = go (leb n 4)
    where
      go : (x : Bool) → Short (flat_words p off (elim x as (λ y. List Record) [ true ↦ rec i s e n ∷ rs | false ↦ rs ]))
          → Short (flat_words p (off + 4 * length {A = Record} (elim x as (λ y. List Record) [ true ↦ rec i s e n ∷ [] | false ↦ [] ])) rs)
      go true h = h.1.1.1.1
      go false h = let z : off + 4 * 0 ≡ off = omega arith in rw z h

  pub short_split : (k m q p off : ℕ) → Short (flat_words p off (held_in w q (k + m))) → Short (flat_words p (off + 4 * length (held_in w q k)) (held_in w (q + k) m))
  unfolding held_in
  short_split zero m q p off h =
      let e : q + 0 ≡ q = omega arith in
      let z : off + 4 * 0 ≡ off = omega arith in
      let t : 0 + m ≡ m = omega arith in
      rw (e, z) (rw t at h)
  short_split (suc k) m q p off h =
      let e : q + suc k ≡ suc q + k = omega arith in
      let t : suc k + m ≡ suc (k + m) = omega arith in
      let i = get_or w (q * 4) 0 in
      let s = get_or w (q * 4 + 1) 0 in
      let f = get_or w (q * 4 + 2) 0 in
      let n = get_or w (q * 4 + 3) 0 in
      let r = short_split k m (suc q) p (off + 4 * length (hold (rec i s f n) [])) (short_hold p off i s f n (held_in w (suc q) (k + m)) (rw t at h)) in
      let z : off + 4 * length (hold (rec i s f n) (held_in w (suc q) k)) ≡ off + 4 * length (hold (rec i s f n) []) + 4 * length (held_in w (suc q) k) = omega (arith, hold_grown i s f n (held_in w (suc q) k)) in
      rw (e, z) r

  -- held records are in order where the records are
  pub sorted_held : (T low hi lo k m : ℕ) → Sorted T low hi (from_back w lo (k + m))
      → (hi' : ℕ) × Sorted T low hi' (from_back w lo m) × Held T hi' hi (held_in w (lo + m) k)
  unfolding from_back held_in
  sorted_held T low hi lo zero m h = let t : 0 + m ≡ m = omega arith in (hi, rw t at h, le_refl hi)
  sorted_held T low hi lo (suc k) m h =
      let e : suc k + m ≡ k + suc m = omega arith in
      let (hi₁, so, he) = sorted_held T low hi lo k (suc m) (rw (← e) h) in
      let f : lo + suc m ≡ suc (lo + m) = omega arith in
      let j = lo + m in (
        floor (get_or w (j * 4 + 3) 0) (get_or w (j * 4 + 1) 0) (get_or w (j * 4 + 2) 0),
        so.rest,
        hold_held T (get_or w (j * 4) 0) (get_or w (j * 4 + 1) 0) (get_or w (j * 4 + 2) 0) (get_or w (j * 4 + 3) 0) hi₁ hi (held_in w (suc j) k) so.known so.ordered so.ends (rw f at he),
      )

  -- the records of items
  pub items_back : (k lo p : ℕ) (its : Items) → p ≡ lo + k → Spells w lo p its → flattened its [] ≡ from_back w lo k
  unfolding flattened from_back
  items_back zero lo p its e h = rw (spells_none w lo p its h (omega arith))
  items_back (suc k) lo p its e h =
      let r = back w lo p its h (omega arith) in
      let f : p - 1 ≡ lo + k = omega arith in
      r.flat ∙ rw (f, items_back k lo (p - 1) r.left f r.spells)

  pub items_read : (lo p : ℕ) (its : Items) → Spells w lo p its → flattened its [] ≡ from_back w lo (p - lo)
  items_read lo p its h = items_back (p - lo) lo p its (omega (arith, spells_count w lo p its h)) h

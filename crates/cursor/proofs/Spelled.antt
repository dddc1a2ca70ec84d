-- Words and items: what the last record is, what stands before it, how many words are ordinary. Assumes nothing.
use mathlib.Core.Path.{◌≡◌, refl}
use mathlib.Core.Bool.{Bool, true, false, cond}
use mathlib.Core.List.{List}
use Rattle.std.specs.Prelude.{Option}
use Prim.Native.Nat.{ℕ, zero, suc, ◌+◌, ◌-◌, ◌*◌, ◌≤◌, ◌<◌}
use native.Mathlib.Omega.{arith}
use borrow.Author.Tests.{le-leb, lt-leb, ltb-true, ltb-false}
use lib.Dec.{leb, ltb}
use lib.ListN.{get_or}
use Rattle.tree.specs.Items.{Items, mark, span, repeats, records, first}
use Rattle.tree.proofs.Reading.{after}
use Rattle.tree.specs.Pack.{width, words}
use Rattle.cursor.specs.Spells.{Spells, Marked, Passed, Stands, Standing, skips}

pub marked_passed : (F : ℕ) (own : Option ℕ) (its : Items) → Marked F own its → Passed F its
marked_passed F own Items.nil m = tt
marked_passed F own (mark i s e n rest) m = record { repeat = m.repeat; rest = marked_passed F own rest m.rest }
marked_passed F own (span i s e kids rest) m =
    record { inner = marked_passed F (repeats F i) kids m.inner; rest = marked_passed F own rest m.rest }

pub skips_last : (F : ℕ) (w : List ℕ) (p : ℕ) → 0 < p → skips F w p ≡ skips F w (p - 1) + cond (leb F (get_or w ((p - 1) * 4) 0)) 4 0
unfolding skips
skips_last F w zero h = absurd (omega arith)
skips_last F w (suc p) h = let e : suc p - 1 ≡ p = omega arith in rw e

pub at_most_four : (b : Bool) → cond b 4 0 ≤ 4
at_most_four true = omega arith
at_most_four false = omega arith

skips_more : (F : ℕ) (w : List ℕ) (p k : ℕ) → (skips F w p ≤ skips F w (k + p)) × (skips F w (k + p) ≤ skips F w p + k * 4)
unfolding skips
skips_more F w p zero = let e : 0 + p ≡ p = omega arith in rw e (omega arith, omega arith)
skips_more F w p (suc k) =
    let e : suc k + p ≡ suc (k + p) = omega arith in
    let r = skips_more F w p k in
    let f = at_most_four (leb F (get_or w ((k + p) * 4) 0)) in
    rw e (omega (arith, r.0, r.1, f), omega (arith, r.0, r.1, f))

pub skips_up : (F : ℕ) (w : List ℕ) (p q : ℕ) → p ≤ q → (skips F w p ≤ skips F w q) × (skips F w q + p * 4 ≤ skips F w p + q * 4)
skips_up F w p q h =
    let e : (q - p) + p ≡ q = omega arith in
    let r = rw e at (skips_more F w p (q - p)) in
    (r.0, omega (arith, r.1))

-- a record adds its width to the ordinary words, or four to the skipped ones
width_skip : (F i : ℕ) → width F i + cond (leb F i) 4 0 ≡ 4
unfolding width
width_skip F i = go (ltb i F) refl
  where
    go : (x : Bool) → ltb i F ≡ x → elim x [ true ↦ 4 | false ↦ 0 ] + cond (leb F i) 4 0 ≡ 4
    go true e = rw (lt-leb F i (ltb-true i F e))
    go false e = rw (le-leb F i (ltb-false i F e))

pub spells_count : (w : List ℕ) (lo p : ℕ) (its : Items) → Spells w lo p its → lo + records its ≡ p
unfolding records
spells_count w lo p Items.nil h = omega arith
spells_count w lo p (mark i s e n rest) h = omega (arith, h.room, spells_count w lo (p - 1) rest h.rest)
spells_count w lo p (span i s e kids rest) h = omega (arith, h.room, spells_count w lo (p - suc (records kids)) rest h.rest)

-- the ordinary words of items, by counting
pub spells_skips : (F : ℕ) (w : List ℕ) (lo p : ℕ) (its : Items) → Spells w lo p its → Passed F its
    → words F its + skips F w p ≡ 4 * records its + skips F w lo
unfolding records words
spells_skips F w lo p Items.nil h m = rw h (omega arith)
spells_skips F w lo p (mark i s e n rest) h m =
    let r = spells_skips F w lo (p - 1) rest h.rest m.rest in
    let l = rw (h.id, le-leb F i m.repeat) at (skips_last F w p (omega (arith, h.room))) in
    omega (arith, r, l)
spells_skips F w lo p (span i s e kids rest) h m =
    let r = spells_skips F w lo (p - suc (records kids)) rest h.rest m.rest in
    let k = spells_skips F w (p - suc (records kids)) (p - 1) kids h.inner m.inner in
    let l = rw h.id at (skips_last F w p (omega (arith, h.room))) in
    omega (arith, r, k, l, width_skip F i)

-- No items are left at the limit, and some before it.
pub spells_none : (w : List ℕ) (lo p : ℕ) (its : Items) → Spells w lo p its → p ≤ lo → its ≡ Items.nil
spells_none w lo p Items.nil h l = refl
spells_none w lo p (mark i s e n rest) h l = absurd (omega (arith, h.room))
spells_none w lo p (span i s e kids rest) h l = absurd (omega (arith, h.room))

-- The first k items, and the others.
pub spells_first : (w : List ℕ) (lo p k : ℕ) (its : Items) → Spells w lo p its → Spells w (p - records (first k its)) p (first k its)
unfolding first records
spells_first w lo p zero its h = omega arith
spells_first w lo p (suc k) Items.nil h = omega arith
spells_first w lo p (suc k) (mark i s e n rest) h =
    let q : p - suc (records (first k rest)) ≡ (p - 1) - records (first k rest) = omega arith in
    let c = spells_count w lo (p - 1) rest h.rest in
    let l = spells_first w lo (p - 1) k rest h.rest in
    let d = spells_count w ((p - 1) - records (first k rest)) (p - 1) (first k rest) l in
    rw q (record { room = omega (arith, h.room); id = h.id; start = h.start; end = h.end; size = h.size; rest = l })
spells_first w lo p (suc k) (span i s e kids rest) h =
    let m = suc (records kids) in
    let q : p - suc (records kids + records (first k rest)) ≡ (p - m) - records (first k rest) = omega arith in
    let l = spells_first w lo (p - m) k rest h.rest in
    let d = spells_count w ((p - m) - records (first k rest)) (p - m) (first k rest) l in
    rw q (record { room = omega (arith, h.room); id = h.id; start = h.start; end = h.end; size = h.size; inner = h.inner; rest = l })

pub spells_after : (w : List ℕ) (lo p k : ℕ) (its : Items) → Spells w lo p its → Spells w lo (p - records (first k its)) (after k its)
unfolding first after records
spells_after w lo p zero its h = let q : p - 0 ≡ p = omega arith in rw q h
spells_after w lo p (suc k) Items.nil h = omega arith
spells_after w lo p (suc k) (mark i s e n rest) h =
    let q : p - suc (records (first k rest)) ≡ (p - 1) - records (first k rest) = omega arith in
    rw q (spells_after w lo (p - 1) k rest h.rest)
spells_after w lo p (suc k) (span i s e kids rest) h =
    let q : p - suc (records kids + records (first k rest)) ≡ (p - suc (records kids)) - records (first k rest) = omega arith in
    rw q (spells_after w lo (p - suc (records kids)) k rest h.rest)

pub passed_first : (F k : ℕ) (its : Items) → Passed F its → Passed F (first k its)
unfolding first
passed_first F zero its h = tt
passed_first F (suc k) Items.nil h = tt
passed_first F (suc k) (mark i s e n rest) h = record { repeat = h.repeat; rest = passed_first F k rest h.rest }
passed_first F (suc k) (span i s e kids rest) h = record { inner = h.inner; rest = passed_first F k rest h.rest }

pub marked_first : (F : ℕ) (own : Option ℕ) (k : ℕ) (its : Items) → Marked F own its → Marked F own (first k its)
unfolding first
marked_first F own zero its h = tt
marked_first F own (suc k) Items.nil h = tt
marked_first F own (suc k) (mark i s e n rest) h = record { alone = h.alone; repeat = h.repeat; rest = marked_first F own k rest h.rest }
marked_first F own (suc k) (span i s e kids rest) h = record { other = h.other; inner = h.inner; rest = marked_first F own k rest h.rest }

pub words_first : (F k : ℕ) (its : Items) → words F (first k its) ≤ words F its
unfolding first words
words_first F zero its = omega arith
words_first F (suc k) Items.nil = omega arith
words_first F (suc k) (mark i s e n rest) = words_first F k rest
words_first F (suc k) (span i s e kids rest) = omega (arith, words_first F k rest)

pub marked_after : (F : ℕ) (own : Option ℕ) (k : ℕ) (its : Items) → Marked F own its → Marked F own (after k its)
unfolding after
marked_after F own zero its h = h
marked_after F own (suc k) Items.nil h = tt
marked_after F own (suc k) (mark i s e n rest) h = marked_after F own k rest h.rest
marked_after F own (suc k) (span i s e kids rest) h = marked_after F own k rest h.rest

pub standing : (F : ℕ) (own : Option ℕ) (w : List ℕ) (lo p : ℕ) (its : Items) → Stands F own w lo p its → lo < p → Standing F own w lo p
standing F own w lo p its h l = record { its = its; stands = h; some_record = l }

-- Steps of a reader: past a record that counts alone, past a span, into a span, past the first k items.
module _ (F : ℕ) (own : Option ℕ) (w : List ℕ) (lo p : ℕ) where
  pub stands_past : (i s e n : ℕ) (rest : Items) → Stands F own w lo p (mark i s e n rest) → Stands F own w lo (p - 1) rest
  stands_past i s e n rest h = record { within = omega (arith, h.within); spells = h.spells.rest; marked = h.marked.rest }

  pub stands_beyond : (i s e : ℕ) (kids rest : Items) → Stands F own w lo p (span i s e kids rest) → Stands F own w lo (p - suc (records kids)) rest
  stands_beyond i s e kids rest h = record { within = omega (arith, h.within); spells = h.spells.rest; marked = h.marked.rest }

  pub stands_inside : (i s e : ℕ) (kids rest : Items) → Stands F own w lo p (span i s e kids rest) → Stands F (repeats F i) w (p - suc (records kids)) (p - 1) kids
  stands_inside i s e kids rest h = record { within = omega (arith, h.within); spells = h.spells.inner; marked = h.marked.inner }

  pub stands_first : (k : ℕ) (its : Items) → Stands F own w lo p its → Stands F own w (p - records (first k its)) p (first k its)
  stands_first k its h =
      record { within = h.within; spells = spells_first w lo p k its h.spells; marked = marked_first F own k its h.marked }

  pub stands_after : (k : ℕ) (its : Items) → Stands F own w lo p its → Stands F own w lo (p - records (first k its)) (after k its)
  stands_after k its h =
      record { within = omega (arith, h.within); spells = spells_after w lo p k its h.spells; marked = marked_after F own k its h.marked }

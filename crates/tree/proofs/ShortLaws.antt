-- Packed words have 16 bits: a run ends at most b after its part's start and has at most 65,532 words, a flat part at
-- most 16,383 records. Assumes nothing.
use mathlib.Core.Path.{◌≡◌, refl, sym, ap, subst, ◌∙◌}
use mathlib.Core.Bool.{Bool, true, false, ◌&&◌, ◌||◌, true≢false}
use mathlib.Core.List.{List, [], ◌∷◌, ◌++◌}
use Rattle.std.specs.Prelude.{Option, None, Some}
use Rattle.std.specs.Option.{option_map}
use Rattle.std.proofs.lemmas.Option.{none-some, same_Some}
use Prim.Native.Nat.{ℕ, zero, suc, ◌+◌, ◌-◌, ◌*◌, ◌≤◌, ◌<◌}
use native.Mathlib.Omega.{arith}
use lib.Dec.{T as So, ltb, leb, leb→le}
use borrow.Author.Tests.{leb-false, ltb-false}
use lib.ListN.{length}
use Rattle.records.proofs.ParseLaws.{and_right}
use Rattle.tree.specs.Items.{Items, mark, span, first, leftmost}
use Rattle.tree.specs.Pack.{early, long, width, words, stopped, scan, packs, run_from, entry, pack}
use Rattle.tree.specs.Flat.{full, Record, rec, flat_words, held_end, hold, limit, ends}
use Rattle.tree.proofs.FlatLaws.{floor-≤, Held}
use Rattle.tree.specs.Ordered.{From, floor, Fits, Room}
use Rattle.tree.specs.Well.{Short}

short-++ : (us ws : List ℕ) → Short us → Short ws → Short (us ++ ws)
short-++ [] ws a b = b
short-++ (u ∷ us) ws a b = (a.0, short-++ us ws a.1 b)

some_suc : (o : Option ℕ) (k : ℕ) → option_map suc o ≡ Some (suc k) → o ≡ Some k
some_suc None k e = absurd (none-some (suc k) e)
some_suc (Some j) k e =
    let q : suc j ≡ suc k = same_Some (suc j) (suc k) e in
    let r : j ≡ k = omega arith in
    ap Some r

stopped_zero : (own : Option ℕ) (k : ℕ) → stopped own ≡ Some (suc k) → ⊥
unfolding stopped
stopped_zero None k e = let q : 0 ≡ suc k = same_Some 0 (suc k) e in omega arith
stopped_zero (Some r) k e = none-some (suc k) e

-- a span that does not start too early
not_early : (s low : ℕ) → early s low ≡ false → low ≤ s
unfolding early
not_early s low p = ltb-false s low p

-- the walk stops before the limit
pub scan_limit : (own : Option ℕ) (low q : ℕ) (its : Items) (k : ℕ) → low ≤ q → scan own low its ≡ Some k → low ≤ leftmost q (first k its)
unfolding scan leftmost first
scan_limit own low q Items.nil zero h x = h
scan_limit own low q Items.nil (suc k) h x = h
scan_limit own low q (mark i s e n rest) zero h x = h
scan_limit own low q (mark i s e n rest) (suc k) h x = go (scan own low rest) refl x (λ y. scan_limit own low q rest k h y)
  where
    go : (o : Option ℕ) → scan own low rest ≡ o → ◌≡◌ {A = Option ℕ} (elim o [ None ↦ Some 0 | Some j ↦ Some (suc j) ]) (Some (suc k))
        → (scan own low rest ≡ Some k → low ≤ leftmost q (first k rest)) → low ≤ leftmost q (first k rest)
    go None p r ih = let z : 0 ≡ suc k = same_Some 0 (suc k) r in absurd (omega arith)
    go (Some j) p r ih = ih (p ∙ some_suc (Some j) k r)
scan_limit own low q (span i s e kids rest) zero h x = h
scan_limit own low q (span i s e kids rest) (suc k) h x = go (early s low) refl x (λ l y. scan_limit own low s rest k l y)
  where
    go : (z : Bool) → early s low ≡ z → ◌≡◌ {A = Option ℕ} (elim z [ true ↦ stopped own | false ↦ option_map suc (scan own low rest) ]) (Some (suc k))
        → (low ≤ s → scan own low rest ≡ Some k → low ≤ leftmost s (first k rest)) → low ≤ leftmost s (first k rest)
    go true p r ih = absurd (stopped_zero own k r)
    go false p r ih = ih (not_early s low p) (some_suc (scan own low rest) k r)

-- what a run that packs satisfies
pub record Packs (F b : ℕ) (i s e : ℕ) (kids rest : Items) (k : ℕ) : Type 0 where
  pub near : e ≤ leftmost s (first k rest) + b
  pub fits : words F (span i s e kids (first k rest)) ≤ 65532

packs_fits : (F : ℕ) (its : Items) → So (packs F its) → words F its ≤ 65532
unfolding packs
packs_fits F its h = leb→le (words F its) 65532 (and_right (long its) (leb (words F its) 65532) h)

pub run_packs : (F b : ℕ) (own : Option ℕ) (i s e : ℕ) (kids rest : Items) (k : ℕ) → run_from F b own i s e kids rest ≡ Some k → Packs F b i s e kids rest k
unfolding run_from
run_packs F b own i s e kids rest k =
    go (leb (e - s) b) refl (scan own (e - b) rest) refl
  where
    last : (j : ℕ) → scan own (e - b) rest ≡ Some j → e - s ≤ b → (x : Bool) → packs F (span i s e kids (first j rest)) ≡ x
        → ◌≡◌ {A = Option ℕ} (elim x [ true ↦ Some j | false ↦ None ]) (Some k) → Packs F b i s e kids rest k
    last j q h true x r =
        let same : j ≡ k = same_Some j k r in
        let q' : scan own (e - b) rest ≡ Some k = q ∙ r in
        let fit = packs_fits F (span i s e kids (first j rest)) (subst So (sym x) tt) in
        record { near = omega (arith, scan_limit own (e - b) s rest k (omega arith) q'); fits = rw same at fit }
    last j q h false x r = absurd (none-some k r)

    go : (x : Bool) → leb (e - s) b ≡ x → (o : Option ℕ) → scan own (e - b) rest ≡ o
        → ◌≡◌ {A = Option ℕ} (elim x [
          | false ↦ None
          | true ↦ elim o [
            | None ↦ None
            | Some j ↦ elim (packs F (span i s e kids (first j rest))) [ true ↦ Some j | false ↦ None ]
          ]
        ]) (Some k)
        → Packs F b i s e kids rest k
    go false p o q r = absurd (none-some k r)
    go true p None q r = absurd (none-some k r)
    go true p (Some j) q r = last j q (leb→le (e - s) b (subst So (sym p) tt)) _ refl r

-- ids below T and ends at most hi
abbrev pub Under : (T hi : ℕ) → Items → Type 0
Under T hi Items.nil = Unit {0}
Under T hi (mark i s e n its) = Under T hi its
Under T hi (span i s e kids its) = (i < T) × (e ≤ hi) × Under T hi kids × Under T hi its

pub under_up : (T hi hi' : ℕ) (its : Items) → hi ≤ hi' → Under T hi its → Under T hi' its
under_up T hi hi' Items.nil h u = tt
under_up T hi hi' (mark i s e n rest) h u = under_up T hi hi' rest h u
under_up T hi hi' (span i s e kids rest) h u = (u.0, omega (arith, u.1), under_up T hi hi' kids h u.2, under_up T hi hi' rest h u.3)

pub fits_under : (F T lo hi : ℕ) (its : Items) → Fits F T lo hi its → Under T hi its
fits_under F T lo hi Items.nil f = tt
fits_under F T lo hi (mark i s e n rest) f = under_up T (floor n s e) hi rest (omega (arith, floor-≤ n s e f.ordered)) (fits_under F T lo (floor n s e) rest f.rest)
fits_under F T lo hi (span i s e kids rest) f =
    (f.known, f.ends, under_up T e hi kids f.ends (fits_under F T s e kids f.inner), under_up T s hi rest (omega arith) (fits_under F T lo s rest f.rest))

pub under_first : (T hi k : ℕ) (its : Items) → Under T hi its → Under T hi (first k its)
unfolding first
under_first T hi zero its u = tt
under_first T hi (suc k) Items.nil u = tt
under_first T hi (suc k) (mark i s e n rest) u = under_first T hi k rest u
under_first T hi (suc k) (span i s e kids rest) u = (u.0, u.1, u.2, under_first T hi k rest u.3)

short_entry : (F p off i s e n : ℕ) → i < 65536 → s ≤ e → e ≤ p + 65535 → off + (width F i + n) ≤ 65532 → Short (entry F p off i s e n)
unfolding entry width
short_entry F p off i s e n a b c = go (ltb i F)
  where
    go : (x : Bool) → off + (elim x [ true ↦ 4 | false ↦ 0 ] + n) ≤ 65532 → Short (elim x [ true ↦ i ∷ (s - p) ∷ (e - p) ∷ (off + 4 + n) ∷ [] | false ↦ [] ])
    go true h = (a, (omega arith, (omega arith, (omega arith, tt))))
    go false h = tt

pub short_pack : (F T p hi off : ℕ) (its : Items) → T ≤ 65536 → hi ≤ p + 65535 → From p its → Under T hi its → off + words F its ≤ 65532 → Short (pack F p off its)
unfolding pack words
short_pack F T p hi off Items.nil t h f u w = tt
short_pack F T p hi off (mark i s e n rest) t h f u w = short_pack F T p hi off rest t h f u w
short_pack F T p hi off (span i s e kids rest) t h f u w =
    let at = off + words F rest in
    short-++ (pack F p off rest) (entry F p at i s e (words F kids) ++ pack F p (at + width F i) kids)
    (short_pack F T p hi off rest t h f.3 u.3 (omega arith))
    (short-++ (entry F p at i s e (words F kids)) (pack F p (at + width F i) kids)
    (short_entry F p at i s e (words F kids) (omega (arith, u.0)) f.1 (omega (arith, u.1)) (omega arith))
    (short_pack F T p hi (at + width F i) kids t h f.2 u.2 (omega arith)))

held-≤ : (T lo hi : ℕ) (rs : List Record) → Held T lo hi rs → lo ≤ hi
held-≤ T lo hi [] a = a
held-≤ T lo hi (rec i s e n ∷ rs) a = omega (arith, a.starts, a.ordered, held-≤ T e hi rs a.rest)

-- flat parts
pub short_flat : (T p off lo hi : ℕ) (rs : List Record) → T ≤ 65536 → hi ≤ p + 65535 → off + 4 * length rs ≤ 65532 → Held T lo hi rs → Short (flat_words p off rs)
unfolding flat_words
short_flat T p off lo hi [] t h n a = tt
short_flat T p off lo hi (rec i s e m ∷ rs) t h n a =
    let below = held-≤ T e hi rs a.rest in
    (omega (arith, a.known), (omega (arith, a.ordered), (omega arith, (omega arith, short_flat T p (off + 4) e hi rs t h (omega arith) a.rest))))

pub room_none : (b stop : ℕ) → Room b [] stop
room_none b stop = record { spread = tt; few = omega arith }

or_false : (x y : Bool) → x || y ≡ false → (x ≡ false) × (y ≡ false)
or_false true y h = absurd (true≢false h)
or_false false y h = (refl, h)

-- the first record of a part
pub room_first : (b i s e n : ℕ) (stop : ℕ) → Room b (hold (rec i s e n) []) (limit b (rec i s e n) [] stop)
unfolding hold limit
room_first b i s e n stop = go (leb n 4)
  where
    go : (x : Bool) → Room b (elim x [ true ↦ rec i s e n ∷ [] | false ↦ [] ]) (elim x [ true ↦ e - b | false ↦ 0 ])
    go true = record { spread = refl; few = omega arith }
    go false = room_none b 0

room_more : (b i s e n : ℕ) (r : Record) (rs : List Record) (stop : ℕ) → (x : Bool) → length rs < 16382 → x && ltb s stop ≡ false → Room b (r ∷ rs) stop
    → Room b (elim x [ true ↦ rec i s e n ∷ r ∷ rs | false ↦ r ∷ rs ]) stop
unfolding held_end
room_more b i s e n r rs stop false f near a = a
room_more b i s e n (rec i' s' e' n') [] stop true f near a =
    let low = ltb-false s stop near in
    record { spread = (a.spread, omega (arith, a.spread)); few = omega arith }
room_more b i s e n (rec i' s' e' n') (r ∷ rs) stop true f near a =
    let low = ltb-false s stop near in
    record { spread = (a.spread.0, omega (arith, a.spread.0)); few = omega arith }

-- one more fits
not_full : (held : List Record) → full held ≡ false → length held < 16383
unfolding full
not_full held h = leb-false _ _ h

-- a further record, where the part does not end before it
pub room_hold : (b i s e n : ℕ) (held : List Record) (stop : ℕ) → ends (rec i s e n) held stop ≡ false → Room b held stop
    → Room b (hold (rec i s e n) held) (limit b (rec i s e n) held stop)
unfolding ends hold limit
room_hold b i s e n [] stop h a = room_first b i s e n stop
room_hold b i s e n (r ∷ rs) stop h a =
    let (few, near) = or_false (full (r ∷ rs)) (leb n 4 && ltb s stop) h in
    let low = not_full (r ∷ rs) few in
    room_more b i s e n r rs stop (leb n 4) (omega arith) near a

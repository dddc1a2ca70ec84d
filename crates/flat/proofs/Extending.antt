-- How far a flat part reaches, one record at a time. Assumes nothing.
use mathlib.Core.Path.{◌≡◌, refl, sym, ap, ◌∙◌}
use mathlib.Core.Bool.{Bool, true, false, cond, ◌&&◌, ◌||◌, not}
use mathlib.Core.List.{List, [], ◌∷◌}
use Rattle.std.specs.Prelude.{Option}
use Prim.Native.Nat.{ℕ, ◌+◌, ◌-◌, ◌*◌, ◌≤◌, ◌<◌}
use native.Mathlib.Omega.{arith}
use native.Mathlib.Decide.{ℕ_discrete}
use borrow.Author.Tests.{le-leb, lt-leb, le-ltb, lt-ltb, eq-eqb, ne_eqb}
use lib.Dec.{leb, ltb, eqb}
use lib.ListN.{length, get_or}
use Rattle.records.specs.OneRecord.{record_of}
use Rattle.records.specs.declared.Record.{Record as Read}
use Rattle.records.proofs.OneRecord.{start_is, end_is, size_is}
use Rattle.tree.specs.Items.{same}
use Rattle.tree.specs.Groups.{Gathered, gather, pass}
use Rattle.tree.specs.Flat.{Record, rec, hold, held_end, flat_part, limit, full, ends, flat}
use Rattle.tree.proofs.ShortLaws.{room_none, room_hold}
use Rattle.flat.specs.Back.{record_at, from_back, held_in, Extends}
use Rattle.flat.proofs.Back.{hold_none, hold_one, back_step, back_none, held_none, held_step}
use Rattle.tree.specs.Ordered.{Room}
use Rattle.flat.specs.declared.Extent.{Extent}

-- nothing held adds nothing
pub gather_none : (g : Gathered) → gather (flat_part []) g ≡ g
unfolding gather flat_part
gather_none g = refl

-- one record of the definition: the flat part at hand goes on with it, or the record is passed over, or begins another part
unfoldable turn : (b : ℕ) (own : Option ℕ) (i s e n : ℕ) (rs held : List Record) (stop : ℕ) (g : Gathered) (x y : Bool) → Gathered
turn b own i s e n rs held stop g true y = flat b own rs true (hold (rec i s e n) held) (limit b (rec i s e n) held stop) g
turn b own i s e n rs held stop g false true = flat b own rs false [] 0 (pass b i e (gather (flat_part held) g))
turn b own i s e n rs held stop g false false = flat b own rs true (hold (rec i s e n) []) (limit b (rec i s e n) [] 0) (gather (flat_part held) g)

flat_turn : (b : ℕ) (own : Option ℕ) (i s e n : ℕ) (rs held : List Record) (stop : ℕ) (g : Gathered) (inside : Bool)
    → flat b own (rec i s e n ∷ rs) inside held stop g ≡ turn b own i s e n rs held stop g (inside && not (ends (rec i s e n) held stop)) (same own i)
unfolding flat turn
flat_turn b own i s e n rs held stop g inside = go (inside && not (ends (rec i s e n) held stop)) (same own i)
  where
    go : (x y : Bool) → elim x as (λ z. Gathered) [
      | true ↦ flat b own rs true (hold (rec i s e n) held) (limit b (rec i s e n) held stop) g
      | false ↦ elim y as (λ z. Gathered) [
        | true ↦ flat b own rs false [] 0 (pass b i e (gather (flat_part held) g))
        | false ↦ flat b own rs true (hold (rec i s e n) []) (limit b (rec i s e n) [] 0) (gather (flat_part held) g)
      ]
    ] ≡ turn b own i s e n rs held stop g x y
    go true y = refl
    go false true = refl
    go false false = refl

-- the flat part at hand goes on with a record, or ends before it, or with the last record
pub flat_on : (b : ℕ) (own : Option ℕ) (i s e n : ℕ) (rs held : List Record) (stop : ℕ) (g : Gathered) → ends (rec i s e n) held stop ≡ false
    → flat b own (rec i s e n ∷ rs) true held stop g ≡ flat b own rs true (hold (rec i s e n) held) (limit b (rec i s e n) held stop) g
unfolding turn
flat_on b own i s e n rs held stop g h =
    flat_turn b own i s e n rs held stop g true ∙ ap (λ (x : Bool). turn b own i s e n rs held stop g (true && not x) (same own i)) h

turn_none : (b : ℕ) (own : Option ℕ) (i s e n : ℕ) (rs held : List Record) (stop : ℕ) (g : Gathered) (y : Bool)
    → turn b own i s e n rs held stop g false y ≡ turn b own i s e n rs [] 0 (gather (flat_part held) g) false y
unfolding turn
turn_none b own i s e n rs held stop g true = rw (gather_none (gather (flat_part held) g))
turn_none b own i s e n rs held stop g false = rw (gather_none (gather (flat_part held) g))

pub flat_ends : (b : ℕ) (own : Option ℕ) (i s e n : ℕ) (rs held : List Record) (stop : ℕ) (g : Gathered) → ends (rec i s e n) held stop ≡ true
    → flat b own (rec i s e n ∷ rs) true held stop g ≡ flat b own (rec i s e n ∷ rs) false [] 0 (gather (flat_part held) g)
flat_ends b own i s e n rs held stop g h =
    flat_turn b own i s e n rs held stop g true
    ∙ (ap (λ (x : Bool). turn b own i s e n rs held stop g (true && not x) (same own i)) h
    ∙ (turn_none b own i s e n rs held stop g (same own i) ∙ sym (flat_turn b own i s e n rs [] 0 (gather (flat_part held) g) false)))

pub flat_last : (b : ℕ) (own : Option ℕ) (held : List Record) (stop : ℕ) (g : Gathered)
    → flat b own [] true held stop g ≡ flat b own [] false [] 0 (gather (flat_part held) g)
unfolding flat
flat_last b own held stop g = sym (gather_none (gather (flat_part held) g))

-- before a flat part: a record of the own id is passed over, another begins a flat part
pub flat_passes : (b : ℕ) (own : Option ℕ) (i s e n : ℕ) (rs : List Record) (g : Gathered) → same own i ≡ true
    → flat b own (rec i s e n ∷ rs) false [] 0 g ≡ flat b own rs false [] 0 (pass b i e g)
unfolding turn
flat_passes b own i s e n rs g h =
    flat_turn b own i s e n rs [] 0 g false
    ∙ (ap (λ (y : Bool). turn b own i s e n rs [] 0 g false y) h ∙ ap (λ (g' : Gathered). flat b own rs false [] 0 (pass b i e g')) (gather_none g))

ends_not : (i s e n : ℕ) → ends (rec i s e n) [] 0 ≡ false
unfolding ends full
ends_not i s e n = go (leb n 4)
  where
    go : (x : Bool) → (leb 16383 0 || (x && ltb s 0)) ≡ false
    go true = rw (lt-leb 16383 0 (omega arith), le-ltb s 0 (omega arith))
    go false = rw (lt-leb 16383 0 (omega arith))

pub flat_begins : (b : ℕ) (own : Option ℕ) (i s e n : ℕ) (rs : List Record) (g : Gathered) → same own i ≡ false
    → flat b own (rec i s e n ∷ rs) false [] 0 g ≡ flat b own (rec i s e n ∷ rs) true [] 0 g
unfolding turn
flat_begins b own i s e n rs g h =
    flat_turn b own i s e n rs [] 0 g false
    ∙ (ap (λ (y : Bool). turn b own i s e n rs [] 0 g false y) h
    ∙ (ap (λ (g' : Gathered). flat b own rs true (hold (rec i s e n) []) (limit b (rec i s e n) [] 0) g') (gather_none g)
    ∙ sym (flat_on b own i s e n rs [] 0 g (ends_not i s e n))))

-- the limit goes by the end of the first one held
pub limit_is : (b i s e n : ℕ) (held : List Record) → limit b (rec i s e n) held (held_end 0 held - b) ≡ held_end 0 (hold (rec i s e n) held) - b
unfolding limit hold held_end
limit_is b i s e n [] = go (leb n 4)
  where
    go : (x : Bool) → elim x [ true ↦ e - b | false ↦ 0 ] ≡ held_end 0 (elim x as (λ y. List Record) [ true ↦ rec i s e n ∷ [] | false ↦ [] ]) - b
    go true = refl
    go false = omega arith
limit_is b i s e n (rec i' s' e' n' ∷ rs) = go (leb n 4)
  where
    go : (x : Bool) → held_end e' rs - b
        ≡ held_end 0 (elim x as (λ y. List Record) [ true ↦ rec i s e n ∷ rec i' s' e' n' ∷ rs | false ↦ rec i' s' e' n' ∷ rs ]) - b
    go true = refl
    go false = refl

ends_dropped : (i s e n stop : ℕ) (held : List Record) → length held < 16383 → 4 < n → ends (rec i s e n) held stop ≡ false
unfolding ends full
ends_dropped i s e n stop held a h = rw (lt-leb 16383 (length held) a, lt-leb n 4 h)

ends_held : (i s e n stop : ℕ) (held : List Record) → length held < 16383 → n ≤ 4 → stop ≤ s → ends (rec i s e n) held stop ≡ false
unfolding ends full
ends_held i s e n stop held a h l = rw (lt-leb 16383 (length held) a, le-leb n 4 h, le-ltb s stop l)

ends_full : (i s e n stop : ℕ) (held : List Record) → 16383 ≤ length held → ends (rec i s e n) held stop ≡ true
unfolding ends full
ends_full i s e n stop held a = rw (le-leb 16383 (length held) a)

ends_early : (i s e n stop : ℕ) (held : List Record) → n ≤ 4 → s < stop → ends (rec i s e n) held stop ≡ true
unfolding ends
ends_early i s e n stop held h l = rw (le-leb n 4 h, lt-ltb s stop l) (go (full held))
  where
    go : (x : Bool) → x || true ≡ true
    go true = refl
    go false = refl

-- where the first one held ends
end_held : (i s e n end count r : ℕ) (held : List Record) → end ≡ held_end 0 held → count ≡ length held → r ≡ cond (eqb count 0) e end
    → r ≡ held_end 0 (rec i s e n ∷ held)
unfolding held_end
end_held i s e n end count r [] h k q = q ∙ rw (eq-eqb count 0 k)
end_held i s e n end count r (rec i' s' e' n' ∷ rs) h k q = q ∙ rw (ne_eqb count 0 (λ z. omega arith)) h

module _ (w : List ℕ) (p lo b : ℕ) where
  abbrev pub held_at : ℕ → List Record
  held_at at = held_in w at (p - at)

  abbrev pub stop_at : ℕ → ℕ
  stop_at at = held_end 0 (held_at at) - b

  -- the flat part up to the place `at`
  pub record Extending (at : ℕ) (x : Extent) : Type 0 where
    pub reached : x.p ≡ at
    pub above : lo ≤ at
    pub below : at ≤ p
    pub counted : x.count ≡ length (held_at at)
    pub ended : x.end ≡ held_end 0 (held_at at)
    pub within : 1 ≤ x.count → x.first < p
    pub head : 1 ≤ x.count → (more : List Record) × (held_at at ≡ record_at w x.first ∷ more)
    pub room : Room b (held_at at) (stop_at at)
    pub flat_is : (own : Option ℕ) (g : Gathered) → flat b own (from_back w lo (p - lo)) true [] 0 g ≡ flat b own (from_back w lo (at - lo)) true (held_at at) (stop_at at) g

  none_held : held_at p ≡ []
  none_held = let e : p - p ≡ 0 = omega arith in ap (λ (k : ℕ). held_in w p k) e ∙ held_none w p

  no_stop : held_end 0 [] - b ≡ 0
  unfolding held_end
  no_stop = omega arith

  no_end : held_end 0 [] ≡ 0
  unfolding held_end
  no_end = refl

  pub extending_start : (first : ℕ) → lo ≤ p → Extending p (record { p = p; count = 0; first = first; end = 0 })
  extending_start first l = record {
    reached = refl;
    above = l;
    below = omega arith;
    counted = rw none_held;
    ended = rw none_held (sym no_end);
    within = λ h. absurd (omega arith);
    head = λ h. absurd (omega arith);
    room = rw none_held (room_none b (held_end 0 [] - b));
    flat_is = λ own g. rw (none_held, no_stop);
  }

-- the flat part at hand ends before the record behind which it has got
flat_ended : (w : List ℕ) (p lo b at : ℕ) (own : Option ℕ) (g : Gathered) → lo < at
    → ends (record_at w (at - 1)) (held_at w p lo b at) (stop_at w p lo b at) ≡ true
    → flat b own (from_back w lo (at - lo)) true (held_at w p lo b at) (stop_at w p lo b at) g
    ≡ flat b own (from_back w lo (at - lo)) false [] 0 (gather (flat_part (held_at w p lo b at)) g)
flat_ended w p lo b at own g l q =
    let held = held_at w p lo b at in
    let stop = stop_at w p lo b at in
    ap (λ (rs : List Record). flat b own rs true held stop g) (back_step w lo at l)
    ∙ (flat_ends b own (get_or w ((at - 1) * 4) 0) (get_or w ((at - 1) * 4 + 1) 0) (get_or w ((at - 1) * 4 + 2) 0) (get_or w ((at - 1) * 4 + 3) 0) (from_back w lo (at - 1 - lo)) held stop g q
    ∙ ap (λ (rs : List Record). flat b own rs false [] 0 (gather (flat_part held) g)) (sym (back_step w lo at l)))

-- as it does where it is full
pub full_flat : (w : List ℕ) (p lo b at : ℕ) (own : Option ℕ) (g : Gathered) → lo < at → 16383 ≤ length (held_at w p lo b at)
    → flat b own (from_back w lo (at - lo)) true (held_at w p lo b at) (stop_at w p lo b at) g
    ≡ flat b own (from_back w lo (at - lo)) false [] 0 (gather (flat_part (held_at w p lo b at)) g)
full_flat w p lo b at own g l f =
    flat_ended w p lo b at own g l
    (ends_full (get_or w ((at - 1) * 4) 0) (get_or w ((at - 1) * 4 + 1) 0) (get_or w ((at - 1) * 4 + 2) 0) (get_or w ((at - 1) * 4 + 3) 0) (stop_at w p lo b at) (held_at w p lo b at) f)

-- nothing is held at first
pub held_first : (w : List ℕ) (p at : ℕ) → p ≤ at → length (held_in w at (p - at)) ≡ 0
held_first w p at l =
    let e : p - at ≡ 0 = omega arith in
    rw (e, held_none w at) refl

module _ {w : List ℕ} {p lo b at : ℕ} {x : Extent} (h : Extending w p lo b at x) where
  abbrev held_here : ℕ → List Record
  held_here = held_at w p lo b

  abbrev stop_here : ℕ → ℕ
  stop_here = stop_at w p lo b

  -- the flat part ends here
  ended_at : (lo < p → at < p)
      → ((own : Option ℕ) (g : Gathered) → flat b own (from_back w lo (at - lo)) true (held_here at) (stop_here at) g
      ≡ flat b own (from_back w lo (at - lo)) false [] 0 (gather (flat_part (held_here at)) g))
      → Extends w p lo b x
  ended_at l q = record {
    above = omega (arith, h.above, h.reached);
    below = omega (arith, h.below, h.reached);
    further = λ k. omega (arith, l k, h.reached);
    counted = rw h.reached h.counted;
    ended = rw h.reached h.ended;
    within = h.within;
    head = rw h.reached h.head;
    room = rw h.reached h.room;
    flat_is = λ own g. rw h.reached (h.flat_is own g ∙ q own g);
  }

  module _ (some_record : lo < at) where
    abbrev i : ℕ
    i = get_or w ((at - 1) * 4) 0

    abbrev s : ℕ
    s = get_or w ((at - 1) * 4 + 1) 0

    abbrev e : ℕ
    e = get_or w ((at - 1) * 4 + 2) 0

    abbrev n : ℕ
    n = get_or w ((at - 1) * 4 + 3) 0

    step : held_here (at - 1) ≡ hold (record_at w (at - 1)) (held_here at)
    step = held_step w p at (omega arith) h.below

    stops : limit b (record_at w (at - 1)) (held_here at) (stop_here at) ≡ stop_here (at - 1)
    stops = limit_is b i s e n (held_here at) ∙ ap (λ (rs : List Record). held_end 0 rs - b) (sym step)

    room_on : ends (record_at w (at - 1)) (held_here at) (stop_here at) ≡ false → Room b (held_here (at - 1)) (stop_here (at - 1))
    room_on q = rw (← stops, step) (room_hold b i s e n (held_here at) (stop_here at) q h.room)

    flat_step : ends (record_at w (at - 1)) (held_here at) (stop_here at) ≡ false → (own : Option ℕ) (g : Gathered)
        → flat b own (from_back w lo (p - lo)) true [] 0 g ≡ flat b own (from_back w lo (at - 1 - lo)) true (held_here (at - 1)) (stop_here (at - 1)) g
    flat_step q own g =
        h.flat_is own g
        ∙ (ap (λ (rs : List Record). flat b own rs true (held_here at) (stop_here at) g) (back_step w lo at some_record)
        ∙ (flat_on b own i s e n (from_back w lo (at - 1 - lo)) (held_here at) (stop_here at) g q
        ∙ rw (stops, step)))

    pub extending_drop : x.count < 16383 → 4 < n → Extending w p lo b (at - 1) (record { p = at - 1; count = x.count; first = x.first; end = x.end })
    extending_drop f big =
        let same : held_here (at - 1) ≡ held_here at = step ∙ hold_none i s e n (held_here at) big in
        let q = ends_dropped i s e n (stop_here at) (held_here at) (omega (arith, h.counted)) big in
        record {
          reached = refl;
          above = omega arith;
          below = omega (arith, h.below);
          counted = h.counted ∙ ap (λ (rs : List Record). length rs) (sym same);
          ended = h.ended ∙ ap (λ (rs : List Record). held_end 0 rs) (sym same);
          within = h.within;
          head = λ k. let (more, z) = h.head k in (more, same ∙ z);
          room = room_on q;
          flat_is = flat_step q;
        }

    pub extending_hold : (r : Extent) → x.count < 16383 → n ≤ 4 → x.end ≤ s + b → r.p ≡ at - 1 → r.count ≡ x.count + 1 → r.first ≡ at - 1 → r.end ≡ cond (eqb x.count 0) e x.end
        → Extending w p lo b (at - 1) r
    extending_hold r f small near ep ec ef er =
        let more : held_here (at - 1) ≡ record_at w (at - 1) ∷ held_here at = step ∙ hold_one i s e n (held_here at) small in
        let q = ends_held i s e n (stop_here at) (held_here at) (omega (arith, h.counted)) small (omega (arith, h.ended)) in
        record {
          reached = ep;
          above = omega arith;
          below = omega (arith, h.below);
          counted = rw more (omega (arith, h.counted));
          ended = end_held i s e n x.end x.count r.end (held_here at) h.ended h.counted er ∙ ap (λ (rs : List Record). held_end 0 rs) (sym more);
          within = λ k. omega (arith, h.below);
          head = λ k. rw ef (held_here at, more);
          room = room_on q;
          flat_is = flat_step q;
        }

    extended : ends (record_at w (at - 1)) (held_here at) (stop_here at) ≡ true → at < p → Extends w p lo b x
    extended q l = ended_at (λ k. l) (λ own g. flat_ended w p lo b at own g some_record q)

    pub extended_early : n ≤ 4 → s + b < x.end → Extends w p lo b x
    extended_early small early = extended (ends_early i s e n (stop_here at) (held_here at) small (omega (arith, h.ended))) (go (ℕ_discrete at p))
      where
        go : Dec (at ≡ p) → at < p
        go (yes z) = let c : x.end ≡ 0 = h.ended ∙ rw (z, none_held w p lo b) (no_end w p lo b) in absurd (omega arith)
        go (no z) = omega (arith, h.below)

  -- the same by the record that the code has read
  module _ (some_record : lo < at) {r : Read} (is : r ≡ record_of w (at - 1)) where
    pub drop_at : x.count < 16383 → 4 < r.size → Extending w p lo b (at - 1) (record { p = at - 1; count = x.count; first = x.first; end = x.end })
    drop_at f big = extending_drop some_record f (omega (arith, size_is _ _ is))

    module _ {z : ℕ} (ez : z ≡ x.end - b) (small : r.size ≤ 4) where
      pub early_at : r.start < z → Extends w p lo b x
      early_at early = extended_early some_record (omega (arith, size_is _ _ is)) (omega (arith, start_is _ _ is, ez))

      pub hold_at : x.count < 16383 → z ≤ r.start
          → (x' : Extent) → x'.p ≡ at - 1 → x'.count ≡ x.count + 1 → x'.first ≡ at - 1 → x'.end ≡ cond (eqb x.count 0) r.end x.end
          → Extending w p lo b (at - 1) x'
      hold_at f near x' ep ec ef ee =
          extending_hold some_record x' f (omega (arith, size_is _ _ is)) (omega (arith, start_is _ _ is, ez)) ep ec ef
          (ee ∙ ap (λ (k : ℕ). cond (eqb x.count 0) k x.end) (end_is _ _ is))

  pub extended_done : at ≤ lo → Extends w p lo b x
  extended_done l =
      let z : at - lo ≡ 0 = omega arith in
      let none_left : from_back w lo (at - lo) ≡ [] = ap (λ (k : ℕ). from_back w lo k) z ∙ back_none w lo in
      ended_at (λ k. omega arith) (λ own g. rw none_left (flat_last b own (held_here at) (stop_here at) g))

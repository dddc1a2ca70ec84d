-- Walks over items: one item further, behind the first items, at a lower limit, and what the whole scan comes to. Assumes nothing.
use mathlib.Core.Path.{◌≡◌, refl, sym, ap, ◌∙◌}
use Rattle.std.specs.Prelude.{Option, None, Some}
use Rattle.std.specs.Option.{option_map}
use Prim.Native.Nat.{ℕ, zero, suc, ◌+◌, ◌-◌, ◌≤◌, ◌<◌}
use native.Mathlib.Omega.{arith}
use borrow.Author.Tests.{le-ltb, lt-ltb}
use Rattle.tree.specs.Items.{Items, mark, span, records, first, leftmost}
use Rattle.tree.specs.Pack.{stopped, early, scan}
use Rattle.tree.proofs.Reading.{after}
use Rattle.scan.specs.Walked.{Near, last_mark, Noted, Walked, Remembered}
use Rattle.scan.specs.declared.Memo.{Memo}

module _ (own : Option ℕ) (limit i s e : ℕ) (kids rest : Items) where
  pub scan_early : s < limit → scan own limit (span i s e kids rest) ≡ stopped own
  unfolding scan early
  scan_early h = rw (lt-ltb s limit h, scan)

  pub scan_span : limit ≤ s → scan own limit (span i s e kids rest) ≡ option_map suc (scan own limit rest)
  unfolding scan early
  scan_span h = rw (le-ltb s limit h, scan)

-- the run where k items are walked, `noted` the last run noted among them, and the scan of the others is known
abbrev pub joined : (k : ℕ) (noted others : Option ℕ) → Option ℕ
joined k noted None = noted
joined k noted (Some m) = Some (k + m)

-- What the scan of all items gives, from that of those not walked yet.
pub scan_walked : (own : Option ℕ) (limit k : ℕ) (its : Items) → Near limit k its → scan own limit its ≡ joined k (last_mark k its) (scan own limit (after k its))
unfolding scan last_mark after
scan_walked own limit zero its h = go (scan own limit its)
  where
    go : (o : Option ℕ) → o ≡ joined 0 None o
    go None = refl
    go (Some m) = let z : m ≡ 0 + m = omega arith in ap (λ (j : ℕ). Some j) z
scan_walked own limit (suc k) Items.nil h = absurd h
scan_walked own limit (suc k) (mark i s e n rest) h =
    ap (λ (o : Option ℕ). elim o as (λ x. Option ℕ) [ None ↦ Some 0 | Some j ↦ Some (suc j) ]) (scan_walked own limit k rest h)
    ∙ go (last_mark k rest) (scan own limit (after k rest))
  where
    go : (a o : Option ℕ)
        → elim (joined k a o) as (λ x. Option ℕ) [ None ↦ Some 0 | Some j ↦ Some (suc j) ]
        ≡ joined (suc k) (elim a as (λ x. Option ℕ) [ None ↦ Some 0 | Some j ↦ Some (suc j) ]) o
    go a None = refl
    go a (Some m) = let z : suc (k + m) ≡ suc k + m = omega arith in ap (λ (j : ℕ). Some j) z
scan_walked own limit (suc k) (span i s e kids rest) h =
    scan_span own limit i s e kids rest h.0
    ∙ (ap (option_map suc) (scan_walked own limit k rest h.1) ∙ go (last_mark k rest) (scan own limit (after k rest)))
  where
    go : (a o : Option ℕ) → option_map suc (joined k a o) ≡ joined (suc k) (option_map suc a) o
    go a None = refl
    go a (Some m) = let z : suc (k + m) ≡ suc k + m = omega arith in ap (λ (j : ℕ). Some j) z

-- One item further.
pub record Next (limit d k : ℕ) (its : Items) (noted : Option ℕ) (n start : ℕ) : Type 0 where
  pub near : Near limit (suc k) its
  pub last : last_mark (suc k) its ≡ noted
  pub more : records (first (suc k) its) ≡ records (first k its) + n
  pub starts : leftmost d (first (suc k) its) ≡ start

next_mark : (limit d k : ℕ) (its : Items) (i s e n : ℕ) (rest : Items) → after k its ≡ mark i s e n rest → Near limit k its
    → Next limit d k its (Some k) 1 (leftmost d (first k its))
unfolding last_mark after records first leftmost
next_mark limit d zero Items.nil i s e n rest h v = absurd cc
next_mark limit d zero (span _ _ _ _ _) i s e n rest h v = absurd cc
next_mark limit d zero (mark _ _ _ _ _) i s e n rest h v = record { near = tt; last = refl; more = refl; starts = refl }
next_mark limit d (suc k) Items.nil i s e n rest h v = absurd v
next_mark limit d (suc k) (mark i' s' e' n' its) i s e n rest h v =
    let r = next_mark limit d k its i s e n rest h v in
    record {
      near = r.near;
      last = ap (λ (o : Option ℕ). elim o as (λ x. Option ℕ) [ None ↦ Some 0 | Some j ↦ Some (suc j) ]) r.last;
      more = omega (arith, r.more);
      starts = r.starts;
    }
next_mark limit d (suc k) (span i' s' e' kids its) i s e n rest h v =
    let r = next_mark limit s' k its i s e n rest h v.1 in
    record { near = (v.0, r.near); last = ap (option_map suc) r.last; more = omega (arith, r.more); starts = r.starts }

next_span : (limit d k : ℕ) (its : Items) (i s e : ℕ) (kids rest : Items) → after k its ≡ span i s e kids rest → limit ≤ s → Near limit k its
    → Next limit d k its (last_mark k its) (suc (records kids)) s
unfolding last_mark after records first leftmost
next_span limit d zero Items.nil i s e kids rest h l v = absurd cc
next_span limit d zero (mark _ _ _ _ _) i s e kids rest h l v = absurd cc
next_span limit d zero (span i' s' e' kids' rest') i s e kids rest h l v =
    let a : s' ≡ s = cc in
    let b : kids' ≡ kids = cc in
    record { near = (omega arith, tt); last = refl; more = ap (λ (x : Items). suc (records x + 0)) b ∙ omega arith; starts = a }
next_span limit d (suc k) Items.nil i s e kids rest h l v = absurd v
next_span limit d (suc k) (mark i' s' e' n' its) i s e kids rest h l v =
    let r = next_span limit d k its i s e kids rest h l v in
    record {
      near = r.near;
      last = ap (λ (o : Option ℕ). elim o as (λ x. Option ℕ) [ None ↦ Some 0 | Some j ↦ Some (suc j) ]) r.last;
      more = omega (arith, r.more);
      starts = r.starts;
    }
next_span limit d (suc k) (span i' s' e' kids' its) i s e kids rest h l v =
    let r = next_span limit s' k its i s e kids rest h l v.1 in
    record { near = (v.0, r.near); last = ap (option_map suc) r.last; more = omega (arith, r.more); starts = r.starts }

module _ (at : ℕ) (its : Items) (limit : ℕ) (m : Memo) (v : Walked at its limit m) where
  -- over a mark: the run before it is noted
  pub walked_mark : (i s e n : ℕ) (rest : Items) → after v.k its ≡ mark i s e n rest → 0 < m.place
      → Walked at its limit (record { place = m.place - 1; start = m.start; mark = m.place; edge = m.start })
  walked_mark i s e n rest h pos =
      let r = next_mark limit v.d v.k its i s e n rest h v.near in
      record {
        k = suc v.k;
        d = v.d;
        near = r.near;
        reached = omega (arith, v.reached, r.more);
        starts = v.starts ∙ sym r.starts;
        noted = rw r.last (v.reached, v.starts);
      }

  -- over a span
  pub walked_span : (i s e : ℕ) (kids rest : Items) → after v.k its ≡ span i s e kids rest → limit ≤ s → suc (records kids) ≤ m.place
      → Walked at its limit (record { place = m.place - suc (records kids); start = s; mark = m.mark; edge = m.edge })
  walked_span i s e kids rest h l room =
      let r = next_span limit v.d v.k its i s e kids rest h l v.near in
      record {
        k = suc v.k;
        d = v.d;
        near = r.near;
        reached = omega (arith, v.reached, r.more);
        starts = sym r.starts;
        noted = rw r.last v.noted;
      }

-- A walk that has not begun.
pub walked_none : (at : ℕ) (its : Items) (limit : ℕ) → Walked at its limit (record { place = at; start = 0; mark = at; edge = 0 })
unfolding last_mark records first leftmost
walked_none at its limit = record { k = 0; d = 0; near = tt; reached = omega arith; starts = refl; noted = omega arith }

near_lower : (limit limit' k : ℕ) (its : Items) → limit' ≤ limit → Near limit k its → Near limit' k its
near_lower limit limit' zero its h v = tt
near_lower limit limit' (suc k) Items.nil h v = absurd v
near_lower limit limit' (suc k) (mark i s e n rest) h v = near_lower limit limit' k rest h v
near_lower limit limit' (suc k) (span i s e kids rest) h v = (omega (arith, v.0), near_lower limit limit' k rest h v.1)

pub walked_lower : (at : ℕ) (its : Items) (limit limit' : ℕ) (m : Memo) → limit' ≤ limit → Walked at its limit m → Walked at its limit' m
walked_lower at its limit limit' m h v =
    record { k = v.k; d = v.d; near = near_lower limit limit' v.k its h v.near; reached = v.reached; starts = v.starts; noted = v.noted }

-- What is remembered: nothing at first, the same at a lower limit, and behind the items that the walk passed.
pub remembered_fresh : (at : ℕ) (its : Items) (limit : ℕ) (memo : Memo) → at ≤ memo.place → Remembered at its limit memo
remembered_fresh at its limit memo h = λ l. absurd (omega arith)

pub remembered_lower : (at : ℕ) (its : Items) (limit limit' : ℕ) (memo : Memo) → limit' ≤ limit → Remembered at its limit memo → Remembered at its limit' memo
remembered_lower at its limit limit' memo h v =
    λ l. walked_lower at its limit limit' memo h (v l)

-- the run noted last, behind one item
noted_mark : (at d : ℕ) (i s e n : ℕ) (rest : Items) (o : Option ℕ) (m c : ℕ) → 0 < at
    → Noted at d (mark i s e n rest) (elim o [ None ↦ Some 0 | Some j ↦ Some (suc j) ]) m c → Noted (at - 1) d rest o m c
unfolding records first leftmost
noted_mark at d i s e n rest None m c pos h = omega (arith, h.0)
noted_mark at d i s e n rest (Some j) m c pos h = (omega (arith, h.0), h.1)

noted_span : (at d : ℕ) (i s e : ℕ) (kids rest : Items) (o : Option ℕ) (m c : ℕ) → suc (records kids) ≤ at
    → Noted at d (span i s e kids rest) (option_map suc o) m c → Noted (at - suc (records kids)) s rest o m c
unfolding records first leftmost
noted_span at d i s e kids rest None m c pos h = omega (arith, h)
noted_span at d i s e kids rest (Some j) m c pos h = (omega (arith, h.0), h.1)

pub remembered_past_mark : (at i s e n : ℕ) (rest : Items) (limit : ℕ) (memo : Memo) → 0 < at → Remembered at (mark i s e n rest) limit memo → Remembered (at - 1) rest limit memo
unfolding last_mark records first leftmost
remembered_past_mark at i s e n rest limit memo pos r = λ l. let v = r (omega arith) in go v.k v.d v.near v.reached v.starts v.noted l
  where
    go : (k d : ℕ) → Near limit k (mark i s e n rest) → memo.place + records (first k (mark i s e n rest)) ≡ at → memo.start ≡ leftmost d (first k (mark i s e n rest))
        → Noted at d (mark i s e n rest) (last_mark k (mark i s e n rest)) memo.mark memo.edge → memo.place < at - 1
        → Walked (at - 1) rest limit memo
    go zero d near reached starts noted l = absurd (omega arith)
    go (suc k) d near reached starts noted l =
        record { k = k; d = d; near = near; reached = omega arith; starts = starts; noted = noted_mark at d i s e n rest (last_mark k rest) memo.mark memo.edge pos noted }

pub remembered_past_span : (at i s e : ℕ) (kids rest : Items) (limit : ℕ) (memo : Memo) → suc (records kids) ≤ at
    → Remembered at (span i s e kids rest) limit memo → Remembered (at - suc (records kids)) rest limit memo
unfolding last_mark records first leftmost
remembered_past_span at i s e kids rest limit memo pos r = λ l. let v = r (omega arith) in go v.k v.d v.near v.reached v.starts v.noted l
  where
    go : (k d : ℕ) → Near limit k (span i s e kids rest) → memo.place + records (first k (span i s e kids rest)) ≡ at → memo.start ≡ leftmost d (first k (span i s e kids rest))
        → Noted at d (span i s e kids rest) (last_mark k (span i s e kids rest)) memo.mark memo.edge → memo.place < at - suc (records kids)
        → Walked (at - suc (records kids)) rest limit memo
    go zero d near reached starts noted l = absurd (omega arith)
    go (suc k) d near reached starts noted l =
        record { k = k; d = s; near = near.1; reached = omega arith; starts = starts; noted = noted_span at d i s e kids rest (last_mark k rest) memo.mark memo.edge pos noted }

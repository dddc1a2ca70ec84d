-- The array of open ends: what it holds when record i is reached, and what it says of a crossing.
-- Assumes nothing.
use mathlib.Core.Path.{◌≡◌, refl, sym, ◌∙◌}
use mathlib.Core.List.{List}
use mathlib.Core.Bool.{true, false, cond}
use Prim.Native.Nat.{ℕ, zero, suc, ◌+◌, ◌-◌, ◌*◌, ◌/◌, ◌%◌, ◌≤◌, ◌<◌, min}
use native.Mathlib.Decide.{dec_le, ℕ_discrete}
use native.Mathlib.Omega.{arith}
use native.Mathlib.Nat.{le_refl, le_trans}
use native.Mathlib.Numerals.{add-one}
use borrow.Author.Tests.{le-ltb, lt-ltb}
use lib.Dec.{ltb}
use Rattle.std.specs.Prelude.{take}
use Rattle.std.proofs.lemmas.List.{get_or-take, length-take-le}
use lib.ListN.{length, get_or, set, length-set}
use lib.Seq.{get_or-set_same, get_or-set_other}
use Rattle.part.specs.Part.{end_index, own_fault, crosses, enclosing}
use Rattle.part.specs.Rebased.{rebased}
use Rattle.part.specs.Open.{Innermost, above, Stack}
use Rattle.part.proofs.OneRecord.{same_length}
use Rattle.part.proofs.Faults.{own_sound, crosses_none, crosses_some}

-- ends that are not above an offset do not count, and where all are above it each counts
above_closed : (ends : List ℕ) (top r at : ℕ) → r ≤ top → ((k : ℕ) → r ≤ k → k < top → get_or ends k 0 ≤ at) → above ends top at ≡ above ends r at
unfolding above
above_closed ends zero r at l h = let e : r ≡ 0 = omega arith in rw e
above_closed ends (suc t) r at l h = go (dec_le r t) (λ m. above_closed ends t r at m (λ k a b. h k a (omega arith)))
  where
    go : Dec (r ≤ t) → (r ≤ t → above ends t at ≡ above ends r at) → cond (ltb at (get_or ends t 0)) 1 0 + above ends t at ≡ above ends r at
    go (yes m) rest = rw (le-ltb at (get_or ends t 0) (h t m (omega arith))) (omega (arith, rest m))
    go (no m) rest = let e : r ≡ suc t = omega arith in rw e

above_all : (ends : List ℕ) (t at : ℕ) → ((k : ℕ) → k < t → at < get_or ends k 0) → above ends t at ≡ t
unfolding above
above_all ends zero at h = refl
above_all ends (suc t) at h = rw (lt-ltb at (get_or ends t 0) (h t (omega arith))) (omega (arith, above_all ends t at (λ k l. h k (omega arith))))

-- an end put behind those that count
above_set : (ends : List ℕ) (t r e at : ℕ) → t ≤ r → above (set ends r e) t at ≡ above ends t at
unfolding above
above_set ends zero r e at l = refl
above_set ends (suc t) r e at l = rw (get_or-set_other ends r t e 0 (λ q. omega arith), above_set ends t r e at (omega arith))

above_push : (ends : List ℕ) (r e at : ℕ) → r < length ends → above (set ends r e) (r + 1) at ≡ cond (ltb at e) 1 0 + above ends r at
unfolding above
above_push ends r e at l = rw (add-one r, get_or-set_same ends r e 0 l, above_set ends r r e at (le_refl r))

enclosing_next : (w : List ℕ) (i at : ℕ) → enclosing w (i + 1) at ≡ cond (ltb at (end_index w i)) 1 0 + enclosing w i at
unfolding enclosing
enclosing_next w i at = rw (add-one i)

none_counted : (w ends : List ℕ) (at : ℕ) → enclosing w 0 at ≡ above ends 0 at
unfolding enclosing above
none_counted w ends at = refl

-- those of the first `top` ends that stay open, where these alone were looked at
pub innermost_of : (ends : List ℕ) (top at r : ℕ) → top ≤ length ends → Innermost (take top ends) (length (take top ends)) at r → Innermost ends top at r
innermost_of ends top at r l m = record {
  below = omega (arith, size, m.below);
  closed = λ k h k'. rw (← get_or-take top ends k 0 k') (m.closed k h (omega (arith, size)));
  innermost = λ h. rw (← get_or-take top ends (r - 1) 0 (omega (arith, size, m.below))) (m.innermost h);
}
  where
    size : length (take top ends) ≡ top
    size = length-take-le top ends l

pub stack_none : (w ends : List ℕ) → min (length w / 4) 16383 ≤ length ends → Stack w ends 0 0
stack_none w ends h = record {
  room = h;
  few = omega arith;
  sound = λ k l. absurd (omega arith);
  complete = λ j l. absurd (omega arith);
  falling = λ a b m l. absurd (omega arith);
  counted = λ at l. none_counted w ends at;
}

module _ (w ends : List ℕ) (i : ℕ) where
  pub stack_pop : (top r : ℕ) → Stack w ends i top → Innermost ends top (i * 4) r → Stack w ends i r
  stack_pop top r s m = record {
    room = s.room;
    few = omega arith;
    sound = λ k l. s.sound k (omega arith);
    complete = λ j l above. kept j above (s.complete j l above);
    falling = λ a b h l. s.falling a b h (omega arith);
    counted = λ at l. s.counted at l ∙ above_closed ends top r at m.below (λ k a b. le_trans (m.closed k a b) l);
  }
    where
      kept : (j : ℕ) → i * 4 < end_index w j → ((k : ℕ) × (k < top) × (get_or ends k 0 ≡ end_index w j)) → (k : ℕ) × (k < r) × (get_or ends k 0 ≡ end_index w j)
      kept j above f = go (dec_le r f.0)
        where
          go : Dec (r ≤ f.0) → (k : ℕ) × (k < r) × (get_or ends k 0 ≡ end_index w j)
          go (yes h) = absurd (omega (arith, m.closed f.0 h f.1, f.2))
          go (no h) = (f.0, omega arith, f.2)

  pub stack_crossing : (r e : ℕ) → Stack w ends i r → 0 < r → i * 4 < get_or ends (r - 1) 0 → get_or ends (r - 1) 0 < e → crosses w i (i * 4) e ≡ true
  stack_crossing r e s pos above below =
      let f = s.sound (r - 1) (omega arith) in
      crosses_some w i (i * 4) e f.0 f.1 (rw f.2 at above) (rw f.2 at below)

  pub stack_clear : (r e : ℕ) → Stack w ends i r → (0 < r → e ≤ get_or ends (r - 1) 0) → crosses w i (i * 4) e ≡ false
  stack_clear r e s top = crosses_none w i (i * 4) e (λ j l above. high j (s.complete j l above))
    where
      high : (j : ℕ) → ((k : ℕ) × (k < r) × (get_or ends k 0 ≡ end_index w j)) → e ≤ end_index w j
      high j f = omega (arith, top (omega arith), s.falling f.0 (r - 1) (omega arith) (omega arith), f.2)

  -- as many ends stay open as records enclose record i
  pub stack_nesting : (r : ℕ) → Stack w ends i r → (0 < r → i * 4 < get_or ends (r - 1) 0) → enclosing w i (i * 4) ≡ r
  stack_nesting r s top =
      s.counted (i * 4) (le_refl (i * 4))
      ∙ above_all ends r (i * 4) (λ k l. omega (arith, top (omega arith), s.falling k (r - 1) (omega arith) (omega arith)))

  pub stack_push : (r e : ℕ) → Stack w ends i r → r < length ends → (0 < r → e ≤ get_or ends (r - 1) 0) → e ≡ end_index w i → Stack w (set ends r e) (i + 1) (r + 1)
  stack_push r e s fits top is = record {
    room = rw length-set s.room;
    few = omega arith;
    sound = λ k l. sound' k l (ℕ_discrete k r);
    complete = λ j l above. complete' j l above (ℕ_discrete j i);
    falling = λ a b h l. falling' a b h l (ℕ_discrete b r) (ℕ_discrete a r);
    counted = λ at l. enclosing_next w i at ∙ rw (← is, above_push ends r e at fits, s.counted at (omega arith));
  }
    where
      same : get_or (set ends r e) r 0 ≡ e
      same = get_or-set_same ends r e 0 (omega arith)

      other : (k : ℕ) → (k ≡ r → ⊥) → get_or (set ends r e) k 0 ≡ get_or ends k 0
      other k h = get_or-set_other ends r k e 0 h

      sound' : (k : ℕ) → k < r + 1 → Dec (k ≡ r) → (j : ℕ) × (j < i + 1) × (get_or (set ends r e) k 0 ≡ end_index w j)
      sound' k l (yes p) = (i, omega arith, rw p (same ∙ is))
      sound' k l (no p) = let f = s.sound k (omega arith) in (f.0, omega arith, other k p ∙ f.2)

      complete' : (j : ℕ) → j < i + 1 → (i + 1) * 4 < end_index w j → Dec (j ≡ i) → (k : ℕ) × (k < r + 1) × (get_or (set ends r e) k 0 ≡ end_index w j)
      complete' j l above (yes p) = (r, omega arith, rw p (same ∙ is))
      complete' j l above (no p) =
          let f = s.complete j (omega arith) (omega arith) in
          (f.0, omega arith, other f.0 (λ q. omega arith) ∙ f.2)

      falling' : (a b : ℕ) → a ≤ b → b < r + 1 → Dec (b ≡ r) → Dec (a ≡ r) → get_or (set ends r e) b 0 ≤ get_or (set ends r e) a 0
      falling' a b h l (yes p) (yes q) = rw (p, q) (omega arith)
      falling' a b h l (yes p) (no q) = rw (p, same, other a q) (omega (arith, top (omega arith), s.falling a (r - 1) (omega arith) (omega arith)))
      falling' a b h l (no p) (yes q) = absurd (omega arith)
      falling' a b h l (no p) (no q) = rw (other b p, other a q) (s.falling a b h (omega arith))

-- Record i without a fault of its own, whose end index e was read: it is one of the first 16,383, since an end index has 16 bits.
module _ (words : List ℕ) (types from i : ℕ) (whole : length words % 4 ≡ 0) (l : i * 4 + 4 ≤ length words) (own : 0 ≡ own_fault (rebased from 0 words) types i) {e : ℕ}
    (is : e ≡ end_index (rebased from 0 words) i) (small : e < 65536) where
  abbrev v : List ℕ
  v = rebased from 0 words

  few : i < 16383
  few = let s = own_sound v types i (sym own) in omega (arith, s.after, is)

  module _ {ends : List ℕ} {top : ℕ} (s : Stack v ends i top) where
    pub room_open : top ≤ length ends
    room_open = omega (arith, few, s.room, s.few, same_length words from i whole)

    module _ {r : ℕ} (m : Innermost (take top ends) (length (take top ends)) (i * 4) r) where
      pub innermost_here : Innermost ends top (i * 4) r
      innermost_here = innermost_of ends top (i * 4) r room_open m

      pub popped : Stack v ends i r
      popped = stack_pop v ends i top r s innermost_here

      pub room_next : r < length ends
      room_next = omega (arith, popped.few, few, popped.room, same_length words from i whole)

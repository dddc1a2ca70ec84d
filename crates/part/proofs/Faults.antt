-- Laws of the part check: the fault of a record, one record more, and what an accepted part says of each record.
-- Assumes nothing.
use mathlib.Core.Path.{◌≡◌, refl, sym, ◌∙◌}
use mathlib.Core.List.{List}
use mathlib.Core.Bool.{true≢false, Bool, true, false, cond, not, ◌&&◌, ◌||◌, or-true}
use Prim.Native.Nat.{ℕ, zero, suc, ◌+◌, ◌-◌, ◌*◌, ◌/◌, ◌%◌, ◌≤◌, ◌<◌}
use native.Mathlib.Decide.{dec_le, dec_lt, ℕ_discrete}
use native.Mathlib.Omega.{arith}
use borrow.Author.Tests.{lt-leb, leb-false, le-ltb, lt-ltb, eq-eqb, ne_eqb, ltb-false, eqb-true, not-false}
use lib.Dec.{ltb, leb, eqb}
use lib.ListN.{length}
use Rattle.words.specs.Outcome.{accepted, refused}
use Rattle.words.specs.Words.{id_of, start_of, end_of}
use Rattle.words.proofs.Outcomes.{never, passed}
use Rattle.part.specs.Part.{end_index, own_fault, crosses, fault, part_counts, faults_from, part_check}

-- a chain of tests that ends in 0 took none of its branches
no_branch : (a b c d e : Bool) → ◌≡◌ {A = ℕ} (cond a 17 (cond b 18 (cond c 19 (cond d 19 (cond (not e) 19 0))))) 0 → (a ≡ false) × (b ≡ false) × (c ≡ false) × (d ≡ false) × (e ≡ true)
no_branch true b c d e h = absurd (omega arith)
no_branch false true c d e h = absurd (omega arith)
no_branch false false true d e h = absurd (omega arith)
no_branch false false false true e h = absurd (omega arith)
no_branch false false false false false h = absurd (omega arith)
no_branch false false false false true h = (refl, refl, refl, refl, refl)

-- a record with no fault of its own: 17 to 19 do not apply
pub record Sound (w : List ℕ) (types i : ℕ) : Type 0 where
  pub known : id_of w i < types
  pub ordered : start_of w i ≤ end_of w i
  pub after : i * 4 + 4 ≤ end_index w i
  pub within : end_index w i ≤ length w
  pub whole : end_index w i % 4 ≡ 0

pub own_sound : (w : List ℕ) (types i : ℕ) → own_fault w types i ≡ 0 → Sound w types i
unfolding own_fault
own_sound w types i h =
    let n = no_branch (leb types (id_of w i)) (ltb (end_of w i) (start_of w i))
    (ltb (end_index w i) (i * 4 + 4)) (ltb (length w) (end_index w i)) (eqb (end_index w i % 4) 0) h in
    record { known = leb-false _ _ n.0; ordered = ltb-false _ _ n.1; after = ltb-false _ _ n.2; within = ltb-false _ _ n.3; whole = eqb-true _ _ n.4 }

pub sound_own : (w : List ℕ) (types i : ℕ) → Sound w types i → own_fault w types i ≡ 0
unfolding own_fault
sound_own w types i s = rw (lt-leb _ _ s.known, le-ltb _ _ s.ordered, le-ltb _ _ s.after, le-ltb _ _ s.within, eq-eqb _ _ s.whole)

-- no enclosing record ends below e
pub crosses_none : (w : List ℕ) (n at e : ℕ) → ((j : ℕ) → j < n → at < end_index w j → e ≤ end_index w j) → crosses w n at e ≡ false
unfolding crosses
crosses_none w zero at e h = refl
crosses_none w (suc n) at e h = go (dec_lt at (end_index w n)) (crosses_none w n at e (λ j l. h j (omega arith)))
  where
    go : Dec (at < end_index w n) → crosses w n at e ≡ false → ((ltb at (end_index w n) && ltb (end_index w n) e) || crosses w n at e) ≡ false
    go (yes l) rest = rw (lt-ltb _ _ l, le-ltb _ _ (h n (omega arith) l)) rest
    go (no l) rest = rw (le-ltb at (end_index w n) (omega arith)) rest

-- one enclosing record ends below e
pub crosses_some : (w : List ℕ) (n at e j : ℕ) → j < n → at < end_index w j → end_index w j < e → crosses w n at e ≡ true
unfolding crosses
crosses_some w zero at e j l above below = absurd (omega arith)
crosses_some w (suc n) at e j l above below = go (ℕ_discrete j n) (λ m. crosses_some w n at e j m above below)
  where
    go : Dec (j ≡ n) → (j < n → crosses w n at e ≡ true) → ((ltb at (end_index w n) && ltb (end_index w n) e) || crosses w n at e) ≡ true
    go (yes p) rest = rw (← p, lt-ltb _ _ above, lt-ltb _ _ below)
    go (no p) rest = rw (rest (omega arith), or-true)

-- where no enclosing record ends below e, each ends at e or after it
pub crosses_all : (w : List ℕ) (n at e : ℕ) → crosses w n at e ≡ false → (j : ℕ) → j < n → at < end_index w j → e ≤ end_index w j
crosses_all w n at e h j l above = go (dec_le e (end_index w j))
  where
    go : Dec (e ≤ end_index w j) → e ≤ end_index w j
    go (yes m) = m
    go (no m) = absurd (true≢false (sym (crosses_some w n at e j l above (omega arith)) ∙ h))

-- the fault of a record, by its own and a crossing
pub fault_own : (w : List ℕ) (types i : ℕ) → (own_fault w types i ≡ 0 → ⊥) → fault w types i ≡ own_fault w types i
unfolding fault
fault_own w types i h = rw (ne_eqb _ _ h)

pub fault_crossing : (w : List ℕ) (types i : ℕ) → own_fault w types i ≡ 0 → crosses w i (i * 4) (end_index w i) ≡ true → fault w types i ≡ 20
unfolding fault
fault_crossing w types i h x = rw (eq-eqb _ _ h, x)

pub fault_none : (w : List ℕ) (types i : ℕ) → own_fault w types i ≡ 0 → crosses w i (i * 4) (end_index w i) ≡ false → fault w types i ≡ 0
unfolding fault
fault_none w types i h x = rw (eq-eqb _ _ h, x)

-- one record more: a fault ends the check, and no fault hands it on
pub from_fault : (w : List ℕ) (types i n : ℕ) → i < n → (fault w types i ≡ 0 → ⊥) → faults_from w types i (n - i) ≡ refused (fault w types i) (i * 4)
unfolding faults_from
from_fault w types i n l h =
    let e : n - i ≡ suc (n - (i + 1)) = omega arith in
    rw (e, ne_eqb _ _ h)

pub from_clear : (w : List ℕ) (types i n : ℕ) → i < n → fault w types i ≡ 0 → faults_from w types i (n - i) ≡ faults_from w types (i + 1) (n - (i + 1))
unfolding faults_from
from_clear w types i n l h =
    let e : n - i ≡ suc (n - (i + 1)) = omega arith in
    rw (e, eq-eqb _ _ h)

pub from_end : (w : List ℕ) (types i n : ℕ) → n ≤ i → faults_from w types i (n - i) ≡ accepted (part_counts w)
unfolding faults_from
from_end w types i n l =
    let e : n - i ≡ 0 = omega arith in
    rw e

-- what an accepted part says of each record
fault_parts : (w : List ℕ) (types i : ℕ) → fault w types i ≡ 0 → (own_fault w types i ≡ 0) × (crosses w i (i * 4) (end_index w i) ≡ false)
fault_parts w types i h = go (ℕ_discrete (own_fault w types i) 0)
  where
    clear : own_fault w types i ≡ 0 → (x : Bool) → crosses w i (i * 4) (end_index w i) ≡ x → crosses w i (i * 4) (end_index w i) ≡ false
    clear p true e = let z = fault_crossing w types i p e in absurd (omega arith)
    clear p false e = e

    go : Dec (own_fault w types i ≡ 0) → (own_fault w types i ≡ 0) × (crosses w i (i * 4) (end_index w i) ≡ false)
    go (yes p) = (p, clear p (crosses w i (i * 4) (end_index w i)) refl)
    go (no n) = absurd (n (sym (fault_own w types i n) ∙ h))

clear_from : (w : List ℕ) (types i left : ℕ) (counts : List ℕ) → faults_from w types i left ≡ accepted counts → (j : ℕ) → i ≤ j → j < i + left → fault w types j ≡ 0
unfolding faults_from
clear_from w types i zero counts h j l m = absurd (omega arith)
clear_from w types i (suc left) counts h j l m = go (ℕ_discrete (fault w types i) 0) (ℕ_discrete i j) (λ k. clear_from w types (i + 1) left counts k j)
  where
    go : Dec (fault w types i ≡ 0) → Dec (i ≡ j) → (faults_from w types (i + 1) left ≡ accepted counts → i + 1 ≤ j → j < i + 1 + left → fault w types j ≡ 0) → fault w types j ≡ 0
    go (yes p) (yes q) rest = rw (← q) p
    go (yes p) (no q) rest = rest (rw (eq-eqb _ _ p) at h) (omega arith) (omega arith)
    go (no n) q rest = absurd (never _ _ counts (rw (ne_eqb _ _ n) at h))

-- and what it takes for a part to be accepted
from_all : (w : List ℕ) (types i left : ℕ) → ((j : ℕ) → i ≤ j → j < i + left → fault w types j ≡ 0) → faults_from w types i left ≡ accepted (part_counts w)
unfolding faults_from
from_all w types i zero h = refl
from_all w types i (suc left) h = rw (eq-eqb _ _ (h i (omega arith) (omega arith))) (from_all w types (i + 1) left (λ j l m. h j (omega arith) (omega arith)))

-- a refusal names one of the records
pub refused_place : (w : List ℕ) (types i left number place : ℕ) → faults_from w types i left ≡ refused number place → place < (i + left) * 4
unfolding faults_from
refused_place w types i zero number place h = absurd (never number place (part_counts w) (sym h))
refused_place w types i (suc left) number place h = go (ℕ_discrete (fault w types i) 0) (refused_place w types (i + 1) left number place)
  where
    go : Dec (fault w types i ≡ 0) → (faults_from w types (i + 1) left ≡ refused number place → place < (i + 1 + left) * 4) → place < (i + suc left) * 4
    go (yes z) rest = omega (arith, rest (rw (eq-eqb (fault w types i) 0 z) at h))
    go (no n) rest =
        let e : refused (fault w types i) (i * 4) ≡ refused number place = rw (ne_eqb (fault w types i) 0 n) at h in
        let p : i * 4 ≡ place = cc in
        omega arith

-- what is accepted is told with the counts of the part
pub accepted_counts : (w : List ℕ) (types i left : ℕ) (counts : List ℕ) → faults_from w types i left ≡ accepted counts → accepted counts ≡ accepted (part_counts w)
accepted_counts w types i left counts h = sym h ∙ from_all w types i left (clear_from w types i left counts h)

-- What the part check asks: T is at most 65,536, the words are whole records, each is sound, and none ends past a record
-- that encloses it.
pub record Passes (w : List ℕ) (types : ℕ) : Type 0 where
  pub few_types : types ≤ 65536
  pub whole : length w % 4 ≡ 0
  pub sound : (i : ℕ) → i * 4 < length w → Sound w types i
  pub nested : (i j : ℕ) → i * 4 < length w → j < i → i * 4 < end_index w j → end_index w i ≤ end_index w j

pub passes : (w : List ℕ) (types : ℕ) (counts : List ℕ) → part_check w types ≡ accepted counts → Passes w types
unfolding part_check
passes w types counts h =
    let a = passed (ltb 65536 types) 1 0 _ counts h in
    let b = passed (not (eqb (length w % 4) 0)) 16 0 _ counts a.1 in
    let whole : length w % 4 ≡ 0 = eqb-true _ _ (not-false _ b.0) in
    let clear : (i : ℕ) → i * 4 < length w → fault w types i ≡ 0 = λ i l. clear_from w types 0 (length w / 4) counts b.1 i (omega arith) (omega arith) in
    record {
      few_types = ltb-false _ _ a.0;
      whole = whole;
      sound = λ i l. own_sound w types i (fault_parts w types i (clear i l)).0;
      nested = λ i j l m above. crosses_all w i (i * 4) (end_index w i) (fault_parts w types i (clear i l)).1 j m above;
    }

pub passes_check : (w : List ℕ) (types : ℕ) → Passes w types → part_check w types ≡ accepted (part_counts w)
unfolding part_check
passes_check w types p = rw (le-ltb _ _ p.few_types, eq-eqb _ _ p.whole) (from_all w types 0 (length w / 4) clear)
  where
    clear : (i : ℕ) → 0 ≤ i → i < 0 + length w / 4 → fault w types i ≡ 0
    clear i l m = fault_none w types i (sound_own w types i (p.sound i (omega arith))) (crosses_none w i (i * 4) (end_index w i) (λ j n above. p.nested i j (omega arith) n above))

pub part_whole : (w : List ℕ) (types : ℕ) (counts : List ℕ) → part_check w types ≡ accepted counts → length w % 4 ≡ 0
part_whole w types counts h = (passes w types counts h).whole

pub part_sound : (w : List ℕ) (types : ℕ) (counts : List ℕ) → part_check w types ≡ accepted counts → (j : ℕ) → j * 4 < length w → Sound w types j
part_sound w types counts h j l = (passes w types counts h).sound j l

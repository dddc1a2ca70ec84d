-- Where none of 1, 16 to 23 applies, slicing answers 19 exactly at the first record of the cut whose end index is past the second bound, at
-- its place in the source; and the part check of the rebased cut answers nothing else, or accepts.
-- By comparing each record of the rebased cut with the part's.
-- Assumes nothing.
use mathlib.Core.Path.{◌≡◌, refl, sym, ap, ◌∙◌}
use mathlib.Core.List.{List, [], ◌∷◌}
use mathlib.Core.Bool.{Bool, false, cond}
use Rattle.std.specs.Prelude.{Option, None, Some}
use Prim.Native.Nat.{ℕ, zero, suc, ◌+◌, ◌-◌, ◌*◌, ◌/◌, ◌%◌, ◌≤◌, ◌<◌}
use native.Mathlib.Decide.{dec_lt}
use native.Mathlib.Omega.{arith}
use borrow.Author.Tests.{lt-leb, le-ltb, lt-ltb, eq-eqb}
use lib.ListN.{length, get_or}
use lib.Dec.{ltb}
use Rattle.words.specs.Outcome.{Outcome, accepted, refused, unless_refused, unless_found, settled}
use Rattle.words.specs.Words.{id_of, start_of, end_of, run, front}
use Rattle.words.specs.First.{first_from}
use Rattle.words.proofs.Outcomes.{never}
use Rattle.words.proofs.Runs.{run_length}
use Rattle.part.specs.Part.{part_check, end_index, own_fault, fault, faults_from, greatest_end, part_counts}
use Rattle.part.specs.Rebased.{rebased}
use Rattle.part.proofs.Faults.{Sound, Passes, passes, sound_own, crosses_none, fault_own, fault_none}
use Rattle.slicing.specs.Slice.{starts_below, sliced, in_source, slice_outcome, slice_part}
use Rattle.slicing.specs.Cutting.{Cuttable, outside}
use Rattle.slicing.proofs.Cut.{cut_word}
use Rattle.part.proofs.Rebased.{At, rebased_at, rebased_length}

-- a test that fails at each record is met nowhere
none_met : (test : ℕ → Bool) (i left : ℕ) → ((j : ℕ) → i ≤ j → j < i + left → test j ≡ false) → first_from test i left ≡ None
unfolding first_from
none_met test i zero h = refl
none_met test i (suc left) h = rw (h i (omega arith) (omega arith)) (none_met test (i + 1) left (λ j l m. h j (omega arith) (omega arith)))

-- a cut of an accepted part between whole bounds
module _ (w : List ℕ) (types from to base : ℕ) (counts : List ℕ) (ok : part_check w types ≡ accepted counts) (a : from ≤ to) (b : to ≤ length w) (x : from % 4 ≡ 0) (y : to % 4 ≡ 0) where
  abbrev cut : List ℕ
  cut = run w from to

  abbrev n : ℕ
  n = length (run w from to) / 4

  abbrev again : List ℕ
  again = rebased from base (run w from to)

  from_part : Passes w types
  from_part = passes w types counts ok

  whole_cut : length cut ≡ n * 4
  whole_cut = omega (arith, run_length w from to a b)

  long : length again ≡ n * 4
  long = rebased_length from base cut

  -- record i of the rebased cut, of the cut, and of the part
  module _ (i : ℕ) (l : i < n) where
    here : At from base cut i
    here = rebased_at from base cut i (omega (arith, whole_cut))

    part_at : Sound w types (from / 4 + i)
    part_at = from_part.sound (from / 4 + i) (omega (arith, run_length w from to a b))

    word_at : (k : ℕ) → k < 4 → get_or cut (i * 4 + k) 0 ≡ get_or w ((from / 4 + i) * 4 + k) 0
    word_at k s = cut_word w types from to counts ok a b x i k s l

    id_at : id_of cut i ≡ id_of w (from / 4 + i)
    id_at =
        let p : i * 4 ≡ i * 4 + 0 = omega arith in
        let q : (from / 4 + i) * 4 + 0 ≡ (from / 4 + i) * 4 = omega arith in
        ap (λ (k : ℕ). get_or cut k 0) p ∙ word_at 0 (omega arith) ∙ ap (λ (k : ℕ). get_or w k 0) q

    known : id_of again i < types
    known = rw (here.id, id_at) part_at.known

    ordered : start_of again i ≤ end_of again i
    ordered = rw (here.start, here.end) (omega (arith, word_at 1 (omega arith), word_at 2 (omega arith), part_at.ordered))

    after : i * 4 + 4 ≤ end_index again i
    after = rw here.index (omega (arith, word_at 3 (omega arith), part_at.after))

    -- past the second bound, in the source and in the cut
    far : to < end_index cut i → length again < end_index again i
    far h = rw (here.index, long) (omega (arith, run_length w from to a b))

    sound_at : end_index cut i ≤ to → Sound again types i
    sound_at h = record {
      known = known;
      ordered = ordered;
      after = after;
      within = rw (here.index, long) (omega (arith, run_length w from to a b));
      whole = rw here.index (omega (arith, word_at 3 (omega arith), part_at.whole, part_at.after));
    }

  -- no record ends past one that encloses it: this holds in the part
  nested : (i j : ℕ) → i < n → j < i → i * 4 < end_index again j → end_index again i ≤ end_index again j
  nested i j l m above =
      let p = (here i l).index in
      let q = (here j (omega arith)).index in
      let u = word_at i l 3 (omega arith) in
      let v = word_at j (omega arith) 3 (omega arith) in
      let o = from_part.nested (from / 4 + i) (from / 4 + j) (omega (arith, run_length w from to a b)) (omega arith) (omega arith) in
      omega arith

  far_own : (i : ℕ) → i < n → to < end_index cut i → own_fault again types i ≡ 19
  unfolding own_fault
  far_own i l h = rw (lt-leb _ _ (known i l), le-ltb _ _ (ordered i l), le-ltb _ _ (after i l), lt-ltb _ _ (far i l h))

  far_fault : (i : ℕ) → i < n → to < end_index cut i → fault again types i ≡ 19
  far_fault i l h = fault_own again types i (λ z. omega (arith, far_own i l h)) ∙ far_own i l h

  no_fault : (i : ℕ) → i < n → end_index cut i ≤ to → fault again types i ≡ 0
  no_fault i l h =
      fault_none again types i (sound_own again types i (sound_at i l h))
      (crosses_none again i (i * 4) (end_index again i) (λ j m above. nested i j l m above))

  -- the part check of the rebased cut, from record i on
  met : (i left : ℕ) → i + left ≡ n
      → faults_from again types i left ≡ unless_found 19 (λ k. k * 4) (first_from (λ k. ltb to (end_index cut k)) i left) (accepted (part_counts again))
  unfolding faults_from first_from
  met i zero e = refl
  met i (suc left) e = go (dec_lt to (end_index cut i)) (met (i + 1) left (omega arith))
    where
      go : Dec (to < end_index cut i)
          → faults_from again types (i + 1) left ≡ unless_found 19 (λ k. k * 4) (first_from (λ k. ltb to (end_index cut k)) (i + 1) left) (accepted (part_counts again))
          → faults_from again types i (suc left) ≡ unless_found 19 (λ k. k * 4) (first_from (λ k. ltb to (end_index cut k)) i (suc left)) (accepted (part_counts again))
      go (yes h) rest = rw (lt-ltb to (end_index cut i) h, far_fault i (omega arith) h)
      go (no h) rest = rw (le-ltb to (end_index cut i) (omega arith), no_fault i (omega arith) (omega arith)) rest

  pub rebased_check : part_check again types ≡ unless_found 19 (λ i. i * 4) (outside cut to) (accepted (part_counts again))
  unfolding part_check
  rebased_check =
      let e : length again / 4 ≡ n = omega (arith, long) in
      rw (le-ltb _ _ from_part.few_types, eq-eqb (length again % 4) 0 (omega (arith, long)), e) (rw e at (met 0 n (omega arith)))

-- the whole call, where none of 1, 16 to 23 applies
module _ (w : List ℕ) (types from to base : ℕ) (c : Cuttable w types from to base) where
  -- no record of the cut starts below the base
  none_below : starts_below (run w from to) base ≡ None
  none_below = none_met (λ i. ltb (start_of (run w from to) i) base) 0 (length (run w from to) / 4) (λ i l m. le-ltb _ _ (high i (omega arith)))
    where
      high : (i : ℕ) → i < length (run w from to) / 4 → base ≤ start_of (run w from to) i
      high i l =
          rw (cut_word w types from to _ c.part c.in_order c.inside c.whole_from i 1 (omega arith) l)
          (c.starts (from / 4 + i) (omega (arith, c.whole_from)) (omega (arith, c.whole_from, run_length w from to c.in_order c.inside)))

  -- the part check of the rebased cut answers nothing but 19, or accepts
  pub only_nineteen : (number place : ℕ) → part_check (sliced w from to base) types ≡ refused number place → number ≡ 19
  unfolding sliced
  only_nineteen number place h =
      go (outside (run w from to) to) (sym (rebased_check w types from to base _ c.part c.in_order c.inside c.whole_from c.whole_to) ∙ h)
    where
      go : (o : Option ℕ) → unless_found 19 (λ i. i * 4) o (accepted (part_counts (rebased from base (run w from to)))) ≡ refused number place → number ≡ 19
      go None h = absurd (never number place _ (sym h))
      go (Some i) h = cc

  -- the outcome by the second bound: 19 at the first record that ends past it, then 13
  abbrev by_bound : (room : ℕ) → Outcome
  by_bound room =
      unless_found 19 (λ i. from + i * 4) (outside (run w from to) to)
      (cond (ltb room (to - from)) (refused 13 0) (accepted ((to - from) ∷ greatest_end (sliced w from to base) ∷ [])))

  pub nineteen_exactly : (room : ℕ) → slice_outcome w types from to base room ≡ by_bound room
  unfolding slice_outcome sliced
  nineteen_exactly room =
      rw (
        c.part,
        le-ltb _ _ c.in_order,
        le-ltb _ _ c.inside,
        eq-eqb _ _ c.whole_from,
        eq-eqb _ _ c.whole_to,
        none_below,
        rebased_check w types from to base _ c.part c.in_order c.inside c.whole_from c.whole_to,
      )
      (go (outside (run w from to) to))
    where
      later : Outcome
      later = cond (ltb room (to - from)) (refused 13 0) (accepted ((to - from) ∷ greatest_end (rebased from base (run w from to)) ∷ []))

      go : (o : Option ℕ)
          → unless_refused (in_source from (unless_found 19 (λ i. i * 4) o (accepted (part_counts (rebased from base (run w from to)))))) later
          ≡ unless_found 19 (λ i. from + i * 4) o later
      go None = refl
      go (Some i) = refl

  -- the same of the whole call, whose output is unchanged where it refuses
  pub call_nineteen_exactly : (out : List ℕ) → slice_part w types from to base out ≡ settled (by_bound (length out)) (front (sliced w from to base) out ∷ []) (out ∷ [])
  unfolding slice_part
  call_nineteen_exactly out = rw (nineteen_exactly (length out))

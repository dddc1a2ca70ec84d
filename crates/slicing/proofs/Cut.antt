-- A cut of an accepted part: its records are records of the part, and the check of the cut is that of the part written.
-- Assumes nothing.
use mathlib.Core.Path.{◌≡◌, sym, ap, ◌∙◌}
use mathlib.Core.List.{List}
use Rattle.std.specs.Prelude.{None}
use Prim.Native.Nat.{ℕ, ◌+◌, ◌-◌, ◌*◌, ◌/◌, ◌%◌, ◌≤◌, ◌<◌}
use native.Mathlib.Omega.{arith}
use native.Mathlib.Decide.{dec_le}
use borrow.Author.Tests.{ltb-false, le-ltb, eq-eqb}
use lib.ListN.{length, get_or}
use lib.Dec.{ltb}
use Rattle.words.specs.Outcome.{accepted, unless_refused}
use Rattle.words.specs.Words.{start_of, end_of, run}
use Rattle.words.proofs.Firsts.{none_from}
use Rattle.words.proofs.Runs.{run_length, run_word}
use Rattle.part.specs.Part.{part_counts, faults_from, part_check}
use Rattle.part.specs.Rebased.{rebased}
use Rattle.part.proofs.Alike.{Alike, fault_alike, same_faults}
use Rattle.part.proofs.Faults.{Sound, part_sound, part_whole, passes}
use Rattle.part.proofs.Rebased.{rebased_at, rebased_length}
use Rattle.slicing.specs.Slice.{starts_below, sliced}
use Rattle.slicing.specs.Rebasing.{Rebasable}

module _ (w : List ℕ) (types from to : ℕ) (counts : List ℕ) (ok : part_check w types ≡ accepted counts) (a : from ≤ to) (b : to ≤ length w) (m : from % 4 ≡ 0) where
  -- word k of record i of the cut is that of record from / 4 + i of the part
  pub cut_word : (i k : ℕ) → k < 4 → i < length (run w from to) / 4 → get_or (run w from to) (i * 4 + k) 0 ≡ get_or w ((from / 4 + i) * 4 + k) 0
  cut_word i k s l =
      let e : from + (i * 4 + k) ≡ (from / 4 + i) * 4 + k = omega arith in
      run_word w from to a b (i * 4 + k) (omega (arith, run_length w from to a b)) ∙ ap (λ (j : ℕ). get_or w j 0) e

  cut_sound : (i : ℕ) → i < length (run w from to) / 4 → Sound w types (from / 4 + i)
  cut_sound i l = part_sound w types counts ok (from / 4 + i) (omega (arith, run_length w from to a b))

  pub rebasable : (base room : ℕ) → starts_below (run w from to) base ≡ None → to - from ≤ room → Rebasable (run w from to) from base room
  rebasable base room low fits = record {
    starts = λ i l. ltb-false _ _ (none_from (λ (k : ℕ). ltb (start_of (run w from to) k) base) 0 (length (run w from to) / 4) low i (omega arith) (omega arith));
    order = λ i l. rw (cut_word i 1 (omega arith) l, cut_word i 2 (omega arith) l) (cut_sound i l).ordered;
    after = λ i l. rw (cut_word i 3 (omega arith) l) (omega (arith, (cut_sound i l).after));
    fits = rw (run_length w from to a b) fits;
  }

  -- whatever the base, the rebased cut has the faults of the cut whose end indices alone are counted from its start
  module _ (base : ℕ) (y : to % 4 ≡ 0) where
    abbrev cut : List ℕ
    cut = run w from to

    alike_at : (i : ℕ) → i < length cut / 4 → Alike (rebased from base cut) (rebased from 0 cut) i
    alike_at i l =
        let p = rebased_at from base cut i (omega arith) in
        let q = rebased_at from 0 cut i (omega arith) in
        let s = (cut_sound i l).ordered in
        let ordered : start_of cut i ≤ end_of cut i = rw (cut_word i 1 (omega arith) l, cut_word i 2 (omega arith) l) s in
        record {
          id = p.id ∙ sym q.id;
          index = p.index ∙ sym q.index;
          ordered = omega (arith, p.start, p.end);
          ordered_too = omega (arith, q.start, q.end);
        }

    pub cut_check : part_check (sliced w from to base) types ≡ unless_refused (faults_from (rebased from 0 cut) types 0 (length cut / 4)) (accepted (part_counts (sliced w from to base)))
    unfolding part_check sliced
    cut_check =
        let n : length (rebased from base cut) ≡ length cut / 4 * 4 = rebased_length from base cut in
        let same : length (rebased from base cut) ≡ length (rebased from 0 cut) = n ∙ sym (rebased_length from 0 cut) in
        let e : length (rebased from base cut) / 4 ≡ length cut / 4 = omega (arith, n) in
        let whole : length (rebased from base cut) % 4 ≡ 0 = omega (arith, n) in
        rw (le-ltb 65536 types (passes w types counts ok).few_types, eq-eqb (length (rebased from base cut) % 4) 0 whole)
        (ap (faults_from (rebased from base cut) types 0) e
        ∙ same_faults (rebased from base cut) (rebased from 0 cut) types 0 (length cut / 4)
        (λ j a b. fault_alike (rebased from base cut) (rebased from 0 cut) types j same (λ k c. alike_at k (omega arith))))

-- a part that passes is shorter than 65,536 words
pub part_small : (w : List ℕ) (types : ℕ) (counts : List ℕ) → part_check w types ≡ accepted counts → ((k : ℕ) → get_or w k 0 < 65536) → length w < 65536
part_small w types counts ok h = go (dec_le (length w) 3)
  where
    go : Dec (length w ≤ 3) → length w < 65536
    go (yes l) = omega arith
    go (no l) = omega (arith, (part_sound w types counts ok (length w / 4 - 1) (omega (arith, part_whole w types counts ok))).after, h ((length w / 4 - 1) * 4 + 3), part_whole w types counts ok)

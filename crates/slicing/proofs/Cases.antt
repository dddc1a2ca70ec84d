-- The result of slicing case by case, in the order of its tests. Assumes nothing.
use mathlib.Core.Path.{◌≡◌, ◌∙◌}
use mathlib.Core.List.{List, [], ◌∷◌}
use Rattle.std.specs.Prelude.{None, Some}
use Prim.Native.Nat.{ℕ, ◌+◌, ◌-◌, ◌*◌, ◌/◌, ◌%◌, ◌≤◌, ◌<◌}
use native.Mathlib.Omega.{arith}
use borrow.Author.Tests.{lt-ltb, le-ltb, eq-eqb, ne_eqb}
use lib.ListN.{length}
use Rattle.words.specs.Outcome.{Outcome, accepted, refused}
use Rattle.words.specs.Words.{run, front}
use Rattle.words.proofs.Runs.{run_length}
use Rattle.part.specs.Part.{greatest_end, part_counts, faults_from, part_check}
use Rattle.part.specs.Rebased.{rebased}
use Rattle.part.proofs.Rebased.{rebased_end, rebased_greatest}
use Rattle.slicing.specs.Slice.{starts_below, sliced, slice_outcome, slice_part}
use Rattle.slicing.proofs.Cut.{cut_check}

module _ (w : List ℕ) (types from to base : ℕ) (out : List ℕ) where
  abbrev outcome : Outcome
  outcome = slice_outcome w types from to base (length out)

  -- the call refuses, and leaves the output as it was
  abbrev pub Refuses : ℕ → ℕ → Type 0
  Refuses number place = record { outcome = refused number place; outputs = out ∷ [] } ≡ slice_part w types from to base out

  -- the call accepts, with these counts and this output
  abbrev pub Accepts : ℕ → ℕ → List ℕ → Type 0
  Accepts words size out' = record { outcome = accepted (words ∷ size ∷ []); outputs = out' ∷ [] } ≡ slice_part w types from to base out

  refuse : (number place : ℕ) → outcome ≡ refused number place → Refuses number place
  unfolding slice_part
  refuse number place e = rw e

  pub by_check : (number place : ℕ) → part_check w types ≡ refused number place → Refuses number place
  unfolding slice_outcome
  by_check number place h = refuse number place (rw h)

  module _ (counts : List ℕ) (ok : part_check w types ≡ accepted counts) where
    pub reversed : to < from → Refuses 21 0
    unfolding slice_outcome
    reversed a = refuse 21 0 (rw (ok, lt-ltb _ _ a))

    pub past : from ≤ to → length w < to → Refuses 21 0
    unfolding slice_outcome
    past a b = refuse 21 0 (rw (ok, le-ltb _ _ a, lt-ltb _ _ b))

    pub uneven_start : from ≤ to → to ≤ length w → (from % 4 ≡ 0 → ⊥) → Refuses 22 0
    unfolding slice_outcome
    uneven_start a b x = refuse 22 0 (rw (ok, le-ltb _ _ a, le-ltb _ _ b, ne_eqb _ _ x))

    pub uneven_stop : from ≤ to → to ≤ length w → from % 4 ≡ 0 → (to % 4 ≡ 0 → ⊥) → Refuses 22 0
    unfolding slice_outcome
    uneven_stop a b x y = refuse 22 0 (rw (ok, le-ltb _ _ a, le-ltb _ _ b, eq-eqb _ _ x, ne_eqb _ _ y))

    module _ (a : from ≤ to) (b : to ≤ length w) (x : from % 4 ≡ 0) (y : to % 4 ≡ 0) where
      pub low : (i : ℕ) → starts_below (run w from to) base ≡ Some i → Refuses 23 (from + i * 4)
      unfolding slice_outcome
      low i h = refuse 23 (from + i * 4) (rw (ok, le-ltb _ _ a, le-ltb _ _ b, eq-eqb _ _ x, eq-eqb _ _ y, h))

      -- the check of the cut, with its end indices counted from its start
      abbrev pub checked : Outcome
      checked = faults_from (rebased from 0 (run w from to)) types 0 (length (run w from to) / 4)

      module _ (high : starts_below (run w from to) base ≡ None) where
        pub by_cut : (number place : ℕ) → checked ≡ refused number place → Refuses number (from + place)
        unfolding slice_outcome
        by_cut number place h =
            let e : part_check (sliced w from to base) types ≡ refused number place = cut_check w types from to counts ok a b x base y ∙ rw h in
            refuse number (from + place) (rw (ok, le-ltb _ _ a, le-ltb _ _ b, eq-eqb _ _ x, eq-eqb _ _ y, high, e))

        module _ (figures : List ℕ) (good : checked ≡ accepted figures) where
          written : part_check (sliced w from to base) types ≡ accepted (part_counts (sliced w from to base))
          written = cut_check w types from to counts ok a b x base y ∙ rw good

          pub no_room : length out < to - from → Refuses 13 0
          unfolding slice_outcome
          no_room l = refuse 13 0 (rw (ok, le-ltb _ _ a, le-ltb _ _ b, eq-eqb _ _ x, eq-eqb _ _ y, high, written, lt-ltb _ _ l))

          module _ (l : to - from ≤ length out) where
            counted : outcome ≡ accepted ((to - from) ∷ greatest_end (sliced w from to base) ∷ [])
            unfolding slice_outcome
            counted = rw (ok, le-ltb _ _ a, le-ltb _ _ b, eq-eqb _ _ x, eq-eqb _ _ y, high, written, le-ltb _ _ l)

            -- the greatest end of the cut, counted from the base, is that of the part written
            pub accepts : (greatest : ℕ) (out' : List ℕ) → greatest ≡ greatest_end (rebased from 0 (run w from to)) → out' ≡ front (rebased from base (run w from to)) out
                → Accepts (to - from) (greatest - base) out'
            unfolding slice_part sliced
            accepts greatest out' g o = rw (counted, rebased_greatest from base (run w from to), g, o)

            -- an empty slice
            pub accepts_none : from ≡ to → Accepts 0 0 out
            unfolding slice_part sliced greatest_end
            accepts_none e =
                let z : to - from ≡ 0 = omega arith in
                let nothing : rebased from base (run w from to) ≡ [] = rebased_end from base (run w from to) (omega (arith, run_length w from to a b)) in
                rw (counted, nothing, z)

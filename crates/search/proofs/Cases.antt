-- The end indices of an accepted part can be followed, and the outcome of the search case by case, in the order of its tests.
-- Assumes nothing.
use mathlib.Core.Path.{◌≡◌}
use mathlib.Core.List.{List}
use mathlib.Core.Bool.{true, false}
use Prim.Native.Nat.{ℕ, ◌*◌, ◌/◌, ◌%◌, ◌≤◌, ◌<◌}
use native.Mathlib.Omega.{arith}
use borrow.Author.Tests.{lt-ltb, le-ltb, eq-eqb, ne_eqb}
use lib.ListN.{length}
use lib.IntN.{ℤ}
use Rattle.words.specs.Outcome.{Outcome, accepted, refused}
use Rattle.part.specs.Part.{part_check}
use Rattle.part.proofs.Faults.{Sound, part_sound, part_whole}
use Rattle.std.specs.Prelude.{None, Some}
use Rattle.search.specs.Search.{meets, beyond, child, match_counts, search_part}
use Rattle.search.specs.Way.{Linked}

-- the end indices of a part that passes the check can be followed
pub linked : (w : List ℕ) (types from to : ℕ) (counts : List ℕ) → part_check w types ≡ accepted counts → from ≤ to → to ≤ length w → from % 4 ≡ 0 → Linked w from to
linked w types from to counts ok l m h = record {
  start = h;
  within = omega arith;
  stop = m;
  whole = part_whole w types counts ok;
  later = λ at z k. rw (at_record at z) at (sound at z k).after;
  inside = λ at z k. rw (at_record at z) at (sound at z k).within;
  record_end = λ at z k. rw (at_record at z) at (sound at z k).whole;
}
  where
    at_record : (at : ℕ) → at % 4 ≡ 0 → at / 4 * 4 ≡ at
    at_record at z = omega arith

    sound : (at : ℕ) → at % 4 ≡ 0 → at < length w → Sound w types (at / 4)
    sound at z k = part_sound w types counts ok (at / 4) (omega arith)

module _ (w : List ℕ) (types from to : ℕ) (direction : ℤ) (position base : ℕ) (side : ℤ) where
  abbrev outcome : Outcome
  outcome = search_part w types from to direction position base side

  pub by_check : (number place : ℕ) → part_check w types ≡ refused number place → outcome ≡ refused number place
  unfolding search_part
  by_check number place h = rw h

  module _ (counts : List ℕ) (ok : part_check w types ≡ accepted counts) where
    pub reversed : to < from → outcome ≡ refused 21 0
    unfolding search_part
    reversed a = rw (ok, lt-ltb _ _ a)

    pub past : from ≤ to → length w < to → outcome ≡ refused 21 0
    unfolding search_part
    past a b = rw (ok, le-ltb _ _ a, lt-ltb _ _ b)

    pub uneven_start : from ≤ to → to ≤ length w → (from % 4 ≡ 0 → ⊥) → outcome ≡ refused 22 0
    unfolding search_part
    uneven_start a b n = rw (ok, le-ltb _ _ a, le-ltb _ _ b, ne_eqb _ _ n)

    pub uneven_stop : from ≤ to → to ≤ length w → from % 4 ≡ 0 → (to % 4 ≡ 0 → ⊥) → outcome ≡ refused 22 0
    unfolding search_part
    uneven_stop a b m n = rw (ok, le-ltb _ _ a, le-ltb _ _ b, eq-eqb _ _ m, ne_eqb _ _ n)

    module _ (a : from ≤ to) (b : to ≤ length w) (m : from % 4 ≡ 0) (n : to % 4 ≡ 0) where
      pub never_met : meets w (length w) from to ≡ false → outcome ≡ refused 24 0
      unfolding search_part
      never_met h = rw (ok, le-ltb _ _ a, le-ltb _ _ b, eq-eqb _ _ m, eq-eqb _ _ n, h)

      pub too_far : (at : ℕ) → meets w (length w) from to ≡ true → beyond w from to base ≡ Some at → outcome ≡ refused 25 at
      unfolding search_part
      too_far at h k = rw (ok, le-ltb _ _ a, le-ltb _ _ b, eq-eqb _ _ m, eq-eqb _ _ n, h, k)

      pub searched : meets w (length w) from to ≡ true → beyond w from to base ≡ None → outcome ≡ match_counts (child w from to direction position base side)
      unfolding search_part
      searched h k = rw (ok, le-ltb _ _ a, le-ltb _ _ b, eq-eqb _ _ m, eq-eqb _ _ n, h, k)

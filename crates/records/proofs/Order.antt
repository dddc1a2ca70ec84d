-- Ranges nested and ordered while the forest grows: a record more keeps them so where it starts behind the siblings before it
-- and reaches from its first child's start to its last child's end; and 10 then applies nowhere. By induction on the forest.
-- Assumes nothing.
use mathlib.Core.Path.{◌≡◌, refl}
use mathlib.Core.Bool.{true}
use Rattle.std.specs.Prelude.{None}
use Prim.Native.Nat.{ℕ, zero, suc, ◌+◌, ◌-◌, ◌≤◌, ◌<◌}
use native.Mathlib.Omega.{arith}
use native.Mathlib.Nat.{le_refl}
use borrow.Author.Tests.{le-leb}
use Rattle.records.specs.Forest.{Forest, empty, add, count, behind, Nested}
use Rattle.records.specs.Parse.{nearest, farther}
use Rattle.records.specs.Check.{in_place, or_else, range_fault}
use Rattle.records.proofs.AcceptLaws.{nested_to}

-- where the first sibling starts, or d if there is none
unfoldable pub front : (d : ℕ) → Forest → ℕ
front d empty = d
front d (add before i s e kids) = front s before

module _ (T : ℕ) where
  nested_behind : (lo hi : ℕ) (f : Forest) → Nested T lo hi f → behind lo f ≤ hi
  unfolding behind
  nested_behind lo hi empty n = n
  nested_behind lo hi (add before i s e kids) n = n.ends

  nested-≤ : (lo hi : ℕ) (f : Forest) → Nested T lo hi f → lo ≤ hi
  nested-≤ lo hi empty n = n
  nested-≤ lo hi (add before i s e kids) n = omega (arith, n.ordered, n.ends, nested-≤ lo s before n.earlier)

  nested_up : (lo hi hi' : ℕ) (f : Forest) → hi ≤ hi' → Nested T lo hi f → Nested T lo hi' f
  nested_up lo hi hi' f l n = nested_to T lo hi hi' f (omega (arith, nested_behind lo hi f n)) n

  nested_farther : (lo hi : ℕ) (f : Forest) (k : ℕ) → Nested T lo hi f → Nested T lo hi (farther f k)
  unfolding farther
  nested_farther lo hi empty k n = n
  nested_farther lo hi (add before i s e kids) zero n = n
  nested_farther lo hi (add before i s e kids) (suc k) n =
      nested_up lo s hi (farther before (k - count kids)) (omega (arith, n.ordered, n.ends)) (nested_farther lo s before (k - count kids) n.earlier)

  nested_nearest : (lo hi : ℕ) (f : Forest) (k : ℕ) → Nested T lo hi f → Nested T (front hi (nearest f k)) hi (nearest f k)
  unfolding nearest front
  nested_nearest lo hi empty k n = le_refl hi
  nested_nearest lo hi (add before i s e kids) zero n = le_refl hi
  nested_nearest lo hi (add before i s e kids) (suc k) n =
      record { known = n.known; ordered = n.ordered; ends = n.ends; inner = n.inner; earlier = nested_nearest lo s before (k - count kids) n.earlier }

  nested_from : (s lo hi : ℕ) (f : Forest) → s ≤ front hi f → Nested T lo hi f → Nested T s hi f
  unfolding front
  nested_from s lo hi empty l n = l
  nested_from s lo hi (add before i s' e kids) l n =
      record { known = n.known; ordered = n.ordered; ends = n.ends; inner = n.inner; earlier = nested_from s lo s' before l n.earlier }

  module _ (lo hi : ℕ) (f : Forest) (n : Nested T lo hi f) (i s e : ℕ) (known : i < T) (ordered : s ≤ e) (ends : e ≤ hi) where
    -- a record with no descendants
    pub nested_leaf : behind lo f ≤ s → Nested T lo hi (add f i s e empty)
    nested_leaf l = record { known = known; ordered = ordered; ends = ends; inner = ordered; earlier = nested_to T lo hi s f l n }

    -- a record over the last siblings
    pub nested_grown : (k : ℕ) → behind lo (farther f k) ≤ s → s ≤ front hi (nearest f k) → behind s (nearest f k) ≤ e
        → Nested T lo hi (add (farther f k) i s e (nearest f k))
    nested_grown k after first last =
        record {
          known = known;
          ordered = ordered;
          ends = ends;
          inner = nested_to T s hi e (nearest f k) last (nested_from s (front hi (nearest f k)) hi (nearest f k) first (nested_nearest lo hi f k n));
          earlier = nested_to T lo hi s (farther f k) after (nested_farther lo hi f k n);
        }

  placed : (lo hi after s e : ℕ) → lo ≤ s → after ≤ s → e ≤ hi → in_place lo hi after s e ≡ true
  unfolding in_place
  placed lo hi after s e a b c = rw (le-leb lo s a, le-leb after s b, le-leb e hi c)

  -- 10 applies nowhere
  pub nested_clear : (f : Forest) (lo hi c : ℕ) → Nested T lo hi f → range_fault lo hi c f ≡ None
  unfolding range_fault or_else
  nested_clear empty lo hi c n = refl
  nested_clear (add before i s e kids) lo hi c n =
      rw (
        nested_clear before lo hi c (nested_up lo s hi before (omega (arith, n.ordered, n.ends)) n.earlier),
        nested_clear kids s e (c + count before) n.inner,
        placed lo hi (behind lo before) s e (nested-≤ lo s before n.earlier) (nested_behind lo s before n.earlier) n.ends,
      )

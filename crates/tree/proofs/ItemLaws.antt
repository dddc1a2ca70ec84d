-- Items of a forest: their order, nesting and height, runs of them, and that their reading is the forest's. By
-- induction on the forest and on the items. Assumes nothing.
use mathlib.Core.Path.{◌≡◌, refl, sym, subst, ◌∙◌}
use mathlib.Core.Bool.{Bool, true, false, true≢false}
use mathlib.Core.List.{List, [], ◌++◌, append_assoc, append-nil}
use Rattle.std.specs.Prelude.{Option, None, Some}
use Prim.Native.Nat.{ℕ, zero, suc, ◌*◌, ◌≤◌, max}
use native.Mathlib.Omega.{arith}
use native.Mathlib.Nat.{le_refl}
use lib.Dec.{T as So, ltb, leb, leb→le, eqb→eq}
use Rattle.records.specs.Forest.{Forest, empty, add, count, line, depth_below, reading, levels, Nested}
use Rattle.tree.specs.Items.{Items, mark, span, same, repeats, items, records, first, leftmost}
use Rattle.tree.specs.Flat.{Record, flattened}
use Rattle.tree.proofs.Reading.{reads, after}
use Rattle.tree.proofs.PackLaws.{line_repeat, below_repeat}
use Rattle.tree.proofs.FlatLaws.{sorted_up, Leaves, Own, floor-≤, floor_leaf, floor_big, back_lines}
use Rattle.tree.specs.Ordered.{From, Sorted, floor, Fits}

-- how deep items are nested; a mark counts for one
unfoldable pub height : Items → ℕ
height Items.nil = 0
height (mark i s e n rest) = max 1 (height rest)
height (span i s e kids rest) = max (suc (height kids)) (height rest)

no_items : (its : Items) → height its ≤ 0 → its ≡ Items.nil
unfolding height
no_items Items.nil h = refl
no_items (mark i s e n rest) h = absurd (omega arith)
no_items (span i s e kids rest) h = absurd (omega arith)

no_records : (f : Forest) → count f ≡ 0 → f ≡ empty
unfolding count
no_records empty h = refl
no_records (add before i s e kids) h = absurd (omega arith)

module _ (F T : ℕ) where
  pub fits_up : (lo hi hi' : ℕ) (its : Items) → hi ≤ hi' → Fits F T lo hi its → Fits F T lo hi' its
  fits_up lo hi hi' Items.nil h f = omega arith
  fits_up lo hi hi' (mark i s e n rest) h f =
      record { known = f.known; repeat = f.repeat; ordered = f.ordered; ends = omega arith; rest = f.rest }
  fits_up lo hi hi' (span i s e kids rest) h f =
      record { known = f.known; ordered = f.ordered; ends = omega arith; inner = f.inner; rest = f.rest }

  pub fits-≤ : (lo hi : ℕ) (its : Items) → Fits F T lo hi its → lo ≤ hi
  fits-≤ lo hi Items.nil f = f
  fits-≤ lo hi (mark i s e n rest) f = omega (arith, fits-≤ lo (floor n s e) rest f.rest, floor-≤ n s e f.ordered)
  fits-≤ lo hi (span i s e kids rest) f = omega (arith, fits-≤ lo s rest f.rest)

  -- what a run needs: all starts at or after its leftmost one
  pub from_down : (p q : ℕ) (its : Items) → p ≤ q → From q its → From p its
  from_down p q Items.nil h f = tt
  from_down p q (mark i s e n rest) h f = from_down p q rest h f
  from_down p q (span i s e kids rest) h f = (omega arith, f.1, from_down p q kids h f.2, from_down p q rest h f.3)

  pub fits_from : (lo hi : ℕ) (its : Items) → Fits F T lo hi its → From lo its
  fits_from lo hi Items.nil f = tt
  fits_from lo hi (mark i s e n rest) f = fits_from lo (floor n s e) rest f.rest
  fits_from lo hi (span i s e kids rest) f =
      let low = fits-≤ lo s rest f.rest in
      (low, f.ordered, from_down lo s kids low (fits_from s e kids f.inner), fits_from lo s rest f.rest)

  pub leftmost-≤ : (k q lo hi : ℕ) (its : Items) → hi ≤ q → Fits F T lo hi its → leftmost q (first k its) ≤ q
  unfolding leftmost first
  leftmost-≤ zero q lo hi its h f = le_refl q
  leftmost-≤ (suc k) q lo hi Items.nil h f = le_refl q
  leftmost-≤ (suc k) q lo hi (mark i s e n rest) h f =
      leftmost-≤ k q lo (floor n s e) rest (omega (arith, floor-≤ n s e f.ordered)) f.rest
  leftmost-≤ (suc k) q lo hi (span i s e kids rest) h f = omega (arith, leftmost-≤ k s lo s rest (le_refl s) f.rest)

  pub from_leftmost : (k q lo hi : ℕ) (its : Items) → Fits F T lo hi its → From (leftmost q (first k its)) (first k its)
  unfolding leftmost first
  from_leftmost zero q lo hi its f = tt
  from_leftmost (suc k) q lo hi Items.nil f = tt
  from_leftmost (suc k) q lo hi (mark i s e n rest) f = from_leftmost k q lo (floor n s e) rest f.rest
  from_leftmost (suc k) q lo hi (span i s e kids rest) f =
      let low = leftmost-≤ k s lo s rest (le_refl s) f.rest in
      (low, f.ordered, from_down _ s kids low (fits_from s e kids f.inner), from_leftmost k s lo s rest f.rest)

  -- what is left behind a run ends at its leftmost start
  pub fits_after : (k q lo hi : ℕ) (its : Items) → hi ≤ q → Fits F T lo hi its → Fits F T lo (leftmost q (first k its)) (after k its)
  unfolding leftmost first after
  fits_after zero q lo hi its h f = fits_up lo hi q its h f
  fits_after (suc k) q lo hi Items.nil h f = omega arith
  fits_after (suc k) q lo hi (mark i s e n rest) h f =
      fits_after k q lo (floor n s e) rest (omega (arith, floor-≤ n s e f.ordered)) f.rest
  fits_after (suc k) q lo hi (span i s e kids rest) h f = fits_after k s lo s rest (le_refl s) f.rest

  -- records as flat parts take them
  pub back_lines_flattened : (d : ℕ) (its : Items) → height its ≤ 1 → (lo hi : ℕ) → Fits F T lo hi its → back_lines F d (flattened its []) ≡ reads F d its
  unfolding height flattened reads back_lines
  back_lines_flattened d Items.nil h lo hi f = refl
  back_lines_flattened d (mark i s e n rest) h lo hi f =
      rw (back_lines_flattened d rest (omega arith) lo (floor n s e) f.rest, line_repeat F d i s e f.repeat) (append-nil _)
  back_lines_flattened d (span i s e kids rest) h lo hi f =
      rw (no_items kids (omega arith), back_lines_flattened d rest (omega arith) lo s f.rest, append-nil)

  pub leaves_flattened : (its : Items) → height its ≤ 1 → (lo hi : ℕ) → Fits F T lo hi its → Leaves F (flattened its [])
  unfolding height flattened records
  leaves_flattened Items.nil h lo hi f = tt
  leaves_flattened (mark i s e n rest) h lo hi f =
      ((λ o. absurd (true≢false (sym o ∙ f.repeat))), leaves_flattened rest (omega arith) lo (floor n s e) f.rest)
  leaves_flattened (span i s e kids rest) h lo hi f =
      rw (no_items kids (omega arith)) ((λ o. le_refl 4), leaves_flattened rest (omega arith) lo s f.rest)

  -- a record with 4 words holds no others
  leaf_or_not : (kids : Items) → (records kids ≡ 0 → kids ≡ Items.nil)
  unfolding records
  leaf_or_not Items.nil h = refl
  leaf_or_not (mark i s e n rest) h = absurd (omega arith)
  leaf_or_not (span i s e kids rest) h = absurd (omega arith)

  pub sorted_flattened : (its : Items) (low lo hi : ℕ) (acc : List Record) → Fits F T lo hi its → Sorted T low lo acc → Sorted T low hi (flattened its acc)
  unfolding flattened
  sorted_flattened Items.nil low lo hi acc f so = sorted_up T low lo hi acc f so
  sorted_flattened (mark i s e n rest) low lo hi acc f so =
      record { known = f.known; ordered = f.ordered; ends = f.ends; rest = sorted_flattened rest low lo (floor n s e) acc f.rest so }
  sorted_flattened (span i s e kids rest) low lo hi acc f so =
      let earlier = sorted_flattened rest low lo s acc f.rest so in
      record {
        known = f.known;
        ordered = f.ordered;
        ends = f.ends;
        rest = go (leb (4 * suc (records kids)) 4) refl earlier (sorted_flattened kids low s e (flattened rest acc) f.inner earlier);
      }
    where
      go : (x : Bool) → leb (4 * suc (records kids)) 4 ≡ x → Sorted T low s (flattened rest acc) → Sorted T low e (flattened kids (flattened rest acc))
          → Sorted T low (floor (4 * suc (records kids)) s e) (flattened kids (flattened rest acc))
      go true x earlier inner =
          let small = leb→le (4 * suc (records kids)) 4 (subst So (sym x) tt) in
          rw (floor_leaf (4 * suc (records kids)) s e x, leaf_or_not kids (omega arith)) earlier
      go false x earlier inner = rw (floor_big (4 * suc (records kids)) s e x) inner

-- the repeat id that children stand under
pub own_none : (F : ℕ) → Own F None
unfolding same
own_none F j h = absurd (true≢false (sym h))

pub own_repeats : (F i : ℕ) → Own F (repeats F i)
unfolding repeats same
own_repeats F i = go (ltb i F) refl
  where
    go : (x : Bool) → ltb i F ≡ x → Own F (elim x [ true ↦ None | false ↦ Some i ])
    go true e = own_none F
    go false e = λ j h. rw (eqb→eq i j (subst So (sym h) tt)) at e

module _ (F : ℕ) where
  -- a run and what is before it
  pub reads_split : (k d : ℕ) (its : Items) → reads F d its ≡ reads F d (after k its) ++ reads F d (first k its)
  unfolding reads after first
  reads_split zero d its = sym (append-nil _)
  reads_split (suc k) d Items.nil = refl
  reads_split (suc k) d (mark i s e n rest) = reads_split k d rest
  reads_split (suc k) d (span i s e kids rest) = rw (reads_split k d rest, append_assoc)

  -- a forest and its items
  pub reads_items : (own : Option ℕ) → Own F own → (d : ℕ) (f : Forest) (acc : Items) → reads F d (items F own f acc) ≡ reads F d acc ++ reading F d f
  unfolding items reads reading
  reads_items own o d empty acc = sym (append-nil _)
  reads_items own o d (add before i s e kids) acc =
      go (same own i) refl (reads_items own o d before acc) (reads_items own o d kids (items F own before acc))
      (reads_items (repeats F i) (own_repeats F i) (depth_below F d i) kids Items.nil)
    where
      go : (x : Bool) → same own i ≡ x
          → reads F d (items F own before acc) ≡ reads F d acc ++ reading F d before
          → reads F d (items F own kids (items F own before acc)) ≡ reads F d (items F own before acc) ++ reading F d kids
          → reads F (depth_below F d i) (items F (repeats F i) kids Items.nil) ≡ reading F (depth_below F d i) kids
          → reads F d (elim x [
            | true ↦ mark i s e (4 * suc (count kids)) (items F own kids (items F own before acc))
            | false ↦ span i s e (items F (repeats F i) kids Items.nil) (items F own before acc)
          ])
          ≡ reads F d acc ++ (reading F d before ++ (line F d i s e ++ reading F (depth_below F d i) kids))
      go true h b m k = rw (m, b, line_repeat F d i s e (o i h), below_repeat F d i (o i h), append_assoc)
      go false h b m k = rw (b, k, append_assoc)

  pub fits_items : (T : ℕ) (own : Option ℕ) → Own F own → (f : Forest) (lo hi low : ℕ) (acc : Items)
      → Nested T lo hi f → Fits F T low lo acc → Fits F T low hi (items F own f acc)
  unfolding items
  fits_items T own o empty lo hi low acc n f = fits_up F T low lo hi acc n f
  fits_items T own o (add before i s e kids) lo hi low acc n f =
      let earlier = fits_items T own o before lo s low acc n.earlier f in
      go (same own i) refl earlier (fits_items T own o kids s e low (items F own before acc) n.inner earlier)
      (fits_items T (repeats F i) (own_repeats F i) kids s e s Items.nil n.inner (le_refl s))
    where
      under : (x : Bool) → leb (4 * suc (count kids)) 4 ≡ x → Fits F T low s (items F own before acc) → Fits F T low e (items F own kids (items F own before acc))
          → Fits F T low (floor (4 * suc (count kids)) s e) (items F own kids (items F own before acc))
      under true x b m =
          let small = leb→le (4 * suc (count kids)) 4 (subst So (sym x) tt) in
          rw (floor_leaf (4 * suc (count kids)) s e x, no_records kids (omega arith)) b
      under false x b m = rw (floor_big (4 * suc (count kids)) s e x) m

      go : (x : Bool) → same own i ≡ x → Fits F T low s (items F own before acc) → Fits F T low e (items F own kids (items F own before acc))
          → Fits F T s e (items F (repeats F i) kids Items.nil)
          → Fits F T low hi (elim x [
            | true ↦ mark i s e (4 * suc (count kids)) (items F own kids (items F own before acc))
            | false ↦ span i s e (items F (repeats F i) kids Items.nil) (items F own before acc)
          ])
      go true h b m k = record { known = n.known; repeat = o i h; ordered = n.ordered; ends = n.ends; rest = under (leb (4 * suc (count kids)) 4) refl b m }
      go false h b m k = record { known = n.known; ordered = n.ordered; ends = n.ends; inner = k; rest = b }

  pub height_items : (own : Option ℕ) (f : Forest) (acc : Items) → height (items F own f acc) ≤ max (levels f) (height acc)
  unfolding items height levels
  height_items own empty acc = omega arith
  height_items own (add before i s e kids) acc =
      go (same own i) (height_items own before acc) (height_items own kids (items F own before acc)) (height_items (repeats F i) kids Items.nil)
    where
      go : (x : Bool) → height (items F own before acc) ≤ max (levels before) (height acc)
          → height (items F own kids (items F own before acc)) ≤ max (levels kids) (height (items F own before acc))
          → height (items F (repeats F i) kids Items.nil) ≤ max (levels kids) 0
          → height (elim x [
            | true ↦ mark i s e (4 * suc (count kids)) (items F own kids (items F own before acc))
            | false ↦ span i s e (items F (repeats F i) kids Items.nil) (items F own before acc)
          ])
          ≤ max (max (suc (levels kids)) (levels before)) (height acc)
      go true b m k = omega arith
      go false b m k = omega arith

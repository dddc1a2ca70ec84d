-- Flat parts list each of their records, and where all ordinary records are leaves no line is lost. By induction on the
-- records. Assumes nothing.
use mathlib.Core.Path.{◌≡◌, refl, subst, ◌∙◌}
use mathlib.Core.Bool.{Bool, true, false, ◌&&◌, not}
use mathlib.Core.List.{List, [], ◌∷◌, ◌++◌, append_assoc, append-nil}
use Rattle.std.specs.Prelude.{Option, Some}
use Prim.Native.Nat.{ℕ, ◌+◌, ◌-◌, ◌/◌, ◌≤◌, ◌<◌}
use native.Mathlib.Omega.{arith}
use native.Mathlib.Nat.{le_refl}
use lib.Dec.{T as So, ltb, leb, nleb→lt, not_T}
use Rattle.records.specs.Forest.{line}
use Rattle.tree.specs.Trees.{Trees, nil, tree, part}
use Rattle.tree.specs.Listing.{node_line, node_below, listing}
use Rattle.tree.specs.Materialise.{unpack}
use Rattle.tree.specs.Items.{same}
use Rattle.tree.specs.Groups.{Gathered, gather, pass}
use Rattle.tree.specs.Flat.{Record, rec, flat_words, held_end, flat_part, hold, limit, ends, flat}
use Rattle.tree.proofs.ListingLaws.{view, view_nil, view_tree, view_part}
use Rattle.tree.proofs.PackLaws.{line_repeat, within_zero, beyond_zero}
use Rattle.tree.proofs.GatherLaws.{gview, gview_gather, gview_pass}
use Rattle.tree.specs.Ordered.{floor, Sorted}

pub floor-≤ : (n s e : ℕ) → s ≤ e → floor n s e ≤ e
unfolding floor
floor-≤ n s e h = go (leb n 4)
  where
    go : (x : Bool) → elim x [ true ↦ s | false ↦ e ] ≤ e
    go true = h
    go false = le_refl e

pub floor_leaf : (n s e : ℕ) → leb n 4 ≡ true → floor n s e ≡ s
unfolding floor
floor_leaf n s e h = rw (h, floor)

pub floor_big : (n s e : ℕ) → leb n 4 ≡ false → floor n s e ≡ e
unfolding floor
floor_big n s e h = rw (h, floor)

pub sorted_up : (T lo hi hi' : ℕ) (rs : List Record) → hi ≤ hi' → Sorted T lo hi rs → Sorted T lo hi' rs
sorted_up T lo hi hi' [] h so = omega arith
sorted_up T lo hi hi' (rec i s e n ∷ rs) h so = record { known = so.known; ordered = so.ordered; ends = omega arith; rest = so.rest }

-- The ordinary ones have 4 words.
abbrev pub Leaves : (F : ℕ) → List Record → Type 0
Leaves F [] = Unit {0}
Leaves F (rec i s e n ∷ rs) = (ltb i F ≡ true → n ≤ 4) × Leaves F rs

-- Held records, in order, from `lo` to `hi`.
abbrev pub Held : (T lo hi : ℕ) → List Record → Type 0
Held T lo hi [] = lo ≤ hi
Held T lo hi (rec i s e n ∷ rs) = record { known : i < T; starts : lo ≤ s; ordered : s ≤ e; rest : Held T e hi rs }

pub held_down : (T lo lo' hi : ℕ) (rs : List Record) → lo' ≤ lo → Held T lo hi rs → Held T lo' hi rs
held_down T lo lo' hi [] h a = omega arith
held_down T lo lo' hi (rec i s e n ∷ rs) h a = record { known = a.known; starts = omega arith; ordered = a.ordered; rest = a.rest }

pub hold_held : (T i s e n lo hi : ℕ) (rs : List Record) → i < T → s ≤ e → e ≤ lo → Held T lo hi rs → Held T (floor n s e) hi (hold (rec i s e n) rs)
unfolding hold floor
hold_held T i s e n lo hi rs k h h' a = go (leb n 4)
  where
    go : (x : Bool) → Held T (elim x [ true ↦ s | false ↦ e ]) hi (elim x [ true ↦ rec i s e n ∷ rs | false ↦ rs ])
    go true = record { known = k; starts = le_refl s; ordered = h; rest = held_down T lo e hi rs h' a }
    go false = held_down T lo e hi rs h' a

-- the parent's own id is a repeat id
abbrev pub Own : (F : ℕ) → Option ℕ → Type 0
Own F own = (j : ℕ) → same own j ≡ true → ltb j F ≡ false

module _ (F d : ℕ) where
  -- the lines of records from the last one back, and of held ones in order
  unfoldable pub back_lines : List Record → List ℕ
  back_lines [] = []
  back_lines (rec i s e n ∷ rs) = back_lines rs ++ line F d i s e

  unfoldable pub held_lines : List Record → List ℕ
  held_lines [] = []
  held_lines (rec i s e n ∷ rs) = line F d i s e ++ held_lines rs

  listing_flat : (T p off lo hi : ℕ) (rs : List Record) → p ≤ lo → Held T lo hi rs → listing F d (unpack p off (flat_words p off rs)) ≡ held_lines rs
  unfolding unpack flat_words held_lines listing node_line node_below
  listing_flat T p off lo hi [] l h = refl
  listing_flat T p off lo hi (rec i s e n ∷ rs) l h =
      let none_inside : ((off + 4) - (off + 4)) / 4 ≡ 0 = omega arith in
      let start : p + (s - p) ≡ s = omega arith in
      let end : s + ((e - p) - (s - p)) ≡ e = omega arith in
      rw (none_inside, within_zero, beyond_zero, start, end, listing_flat T p (off + 4) e hi rs (omega arith) h.rest) (rw append-nil)

  view_flat_part : (T lo hi : ℕ) (rs : List Record) (ts : Trees) → Held T lo hi rs → view F d (flat_part rs ts) ≡ held_lines rs ++ view F d ts
  unfolding flat_part held_lines node_line node_below
  view_flat_part T lo hi [] ts h = refl
  view_flat_part T lo hi (rec i s e n ∷ []) ts h = go (ltb 65535 (e - s))
    where
      go : (x : Bool) → view F d (elim x [ true ↦ tree (Some i) s (e - s) nil ts | false ↦ part s (e - s) (flat_words s 0 (rec i s e n ∷ [])) ts ])
          ≡ held_lines (rec i s e n ∷ []) ++ view F d ts
      go true =
          let end : s + (e - s) ≡ e = omega arith in
          rw (view_tree F d (Some i) s (e - s) nil ts, end, view_nil)
      go false =
          rw (
            view_part F d s (e - s) (flat_words s 0 (rec i s e n ∷ [])) ts,
            listing_flat T s 0 s hi (rec i s e n ∷ []) (le_refl s) (record { known = h.known; starts = le_refl s; ordered = h.ordered; rest = h.rest }),
          )
  view_flat_part T lo hi (rec i s e n ∷ r ∷ rs) ts h =
      rw (
        view_part F d s (held_end e (r ∷ rs) - s) (flat_words s 0 (rec i s e n ∷ r ∷ rs)) ts,
        listing_flat T s 0 s hi (rec i s e n ∷ r ∷ rs) (le_refl s) (record { known = h.known; starts = le_refl s; ordered = h.ordered; rest = h.rest }),
      )

  -- to hold a record adds its line
  hold_lines : (i s e n : ℕ) (rs : List Record) → (ltb i F ≡ true → n ≤ 4) → held_lines (hold (rec i s e n) rs) ≡ line F d i s e ++ held_lines rs
  unfolding hold held_lines
  hold_lines i s e n rs h = go (leb n 4) (ltb i F) refl refl
    where
      go : (x y : Bool) → leb n 4 ≡ x → ltb i F ≡ y → held_lines (elim x [ true ↦ rec i s e n ∷ rs | false ↦ rs ]) ≡ line F d i s e ++ held_lines rs
      go true y p q = refl
      go false true p q = absurd (omega (arith, h q, nleb→lt n 4 (not_T (leb n 4) (λ t. subst So p t))))
      go false false p q = rw (line_repeat F d i s e q)

  module _ (T b : ℕ) (own : Option ℕ) (repeat : Own F own) where
    flushed : (lo hi : ℕ) (held : List Record) (g : Gathered) → Held T lo hi held → gview F d (gather (flat_part held) g) ≡ held_lines held ++ gview F d g
    flushed lo hi held g h = gview_gather F d (flat_part held) g (held_lines held) (λ ts. view_flat_part T lo hi held ts h)

    -- `m`: where the held records end
    pub gview_flat : (rs : List Record) (inside : Bool) (held : List Record) (stop : ℕ) (g : Gathered) (lo hi m : ℕ)
        → Sorted T lo hi rs → Leaves F rs → Held T hi m held
        → gview F d (flat b own rs inside held stop g) ≡ back_lines rs ++ (held_lines held ++ gview F d g)
    unfolding flat back_lines held_lines
    gview_flat [] inside held stop g lo hi m so le he = flushed hi m held g he
    gview_flat (rec i s e n ∷ rs) inside held stop g lo hi m so le he =
        let low = floor n s e in
        let none_held = hold_held T i s e n hi hi [] so.known so.ordered so.ends (le_refl hi) in
        go (inside && not (ends r held stop)) (same own i) refl
        (gview_flat rs true (hold r held) (limit b r held stop) g lo low m so.rest le.1 (hold_held T i s e n hi m held so.known so.ordered so.ends he))
        (gview_flat rs false [] 0 (pass b i e g') lo low low so.rest le.1 (le_refl low))
        (gview_flat rs true (hold r []) (limit b r [] 0) g' lo low hi so.rest le.1 none_held)
      where
        r : Record
        r = rec i s e n

        g' : Gathered
        g' = gather (flat_part held) g

        go : (x y : Bool) → same own i ≡ y
            → gview F d (flat b own rs true (hold r held) (limit b r held stop) g) ≡ back_lines rs ++ (held_lines (hold r held) ++ gview F d g)
            → gview F d (flat b own rs false [] 0 (pass b i e g')) ≡ back_lines rs ++ (held_lines [] ++ gview F d (pass b i e g'))
            → gview F d (flat b own rs true (hold r []) (limit b r [] 0) g') ≡ back_lines rs ++ (held_lines (hold r []) ++ gview F d g')
            → gview F d (elim x [
              | true ↦ flat b own rs true (hold r held) (limit b r held stop) g
              | false ↦ elim y [ true ↦ flat b own rs false [] 0 (pass b i e g') | false ↦ flat b own rs true (hold r []) (limit b r [] 0) g' ]
            ]) ≡ (back_lines rs ++ line F d i s e) ++ (held_lines held ++ gview F d g)
        go true y o inner passed begun = inner ∙ simp (hold_lines i s e n held le.0, append_assoc)
        go false true o inner passed begun = passed ∙ simp (gview_pass F d b i e g' (repeat i o), flushed hi m held g he, line_repeat F d i s e (repeat i o), append-nil)
        go false false o inner passed begun = begun ∙ simp (hold_lines i s e n [] le.0, flushed hi m held g he, append_assoc, append-nil)

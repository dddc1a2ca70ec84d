-- The rules between cells, at a cell c before which none breaks a rule: the one-pass form asks the same by its open links as
-- the rules do by chains, last descendants and parents. Assumes nothing.
use mathlib.Core.Path.{◌≡◌, refl, sym, ap, subst, ◌∙◌}
use mathlib.Core.Bool.{Bool, true, false, ◌||◌, not, true≢false}
use mathlib.Core.List.{List, ◌∷◌}
use mathlib.Core.Logic.{◌⊎◌, inl, inr}
use Rattle.std.specs.Prelude.{Option, None, Some}
use Prim.Native.Nat.{ℕ, suc, ◌+◌, ◌-◌, ◌≤◌, ◌<◌}
use native.Mathlib.Omega.{arith}
use native.Mathlib.Decide.{dec_lt, ℕ_discrete}
use borrow.Author.Tests.{eq-eqb, ne_eqb, ltb-true, ltb-false, eqb-true, not-false}
use lib.Dec.{ltb, eqb}
use lib.ListN.{length}
use Rattle.rules.specs.Cell.{Cell, first_child}
use Rattle.rules.specs.Rules.{cell, Leads, On, begins, goes_on, Below, child, deeper, Last, Starts, top_starts, child_starts, Breaks, next_jumps, unreached, on_two_chains, overlaps, sticks_out, ends_past}
use Rattle.rules.specs.Lowest.{Named, named, place_broken, order_broken, inside_broken, end_broken}
use Rattle.rules.proofs.Tests.{neither}
use Rattle.rules.proofs.Links.{on_later, below_later, starts_below}
use Rattle.rules.proofs.Opens.{Open, links, ahead, In, room_of, ByFirst, ByNext, Fact, Opens, Complete, ahead_next, in_under, in_first, in_next, Older, find}

module _ (ks : List Cell) (T S : ℕ) (ws : List ℕ) where
  -- what the named cell d and the older ones ds say of the cell c
  pub record Sited (c : ℕ) (d : Named) (ds : List Named) : Type 0 where
    pub misplaced : place_broken c d ds ≡ true → Breaks ks T S ws c
    pub early : place_broken c d ds ≡ false → order_broken d (cell ks c) ≡ true → Breaks ks T S ws c
    pub outside : place_broken c d ds ≡ false → inside_broken d (cell ks c) ≡ true → Breaks ks T S ws c
    pub far : place_broken c d ds ≡ false → end_broken c d (cell ks c) ≡ true → Breaks ks T S ws c
    pub by_first : place_broken c d ds ≡ false → (p : ℕ) → first_child (cell ks p) ≡ c → Leads ks p c → c ≡ suc p
    pub by_next : place_broken c d ds ≡ false → (b : ℕ) → (cell ks b).next ≡ c → Leads ks b c → Last ks b (c - 1)
    pub reached : place_broken c d ds ≡ false → (c ≡ 1 → ⊥) → Below ks 1 c
    pub one_parent : place_broken c d ds ≡ false → (p q : ℕ) → On ks p c → On ks q c → p ≡ q
    pub in_order : place_broken c d ds ≡ false → order_broken d (cell ks c) ≡ false
        → (b : ℕ) → (cell ks b).next ≡ c → Leads ks b c → (cell ks b).position + (cell ks b).len ≤ (cell ks c).position
    pub in_parent : place_broken c d ds ≡ false → inside_broken d (cell ks c) ≡ false
        → (p : ℕ) → On ks p c → (p ≡ 1 → ⊥) → (cell ks c).position + (cell ks c).len ≤ (cell ks p).len
    pub near : place_broken c d ds ≡ false → end_broken c d (cell ks c) ≡ false
        → (a : ℕ) → (c ≡ 1 → ⊥) → Starts ks S c a → a + (cell ks c).len ≤ 4294967295

  -- Cells before c break no rule.
  module _ (c : ℕ) (clean : (b : ℕ) → 1 ≤ b → b < c → Breaks ks T S ws b → ⊥) where
    -- so they have one parent and one absolute start
    parent_one : (y p q : ℕ) → y < c → On ks p y → On ks q y → p ≡ q
    parent_one y p q l a b = go (ℕ_discrete p q)
      where
        go : Dec (p ≡ q) → p ≡ q
        go (yes e) = e
        go (no e) = absurd (clean y (omega (arith, (on_later ks p y a).1)) l (on_two_chains p q a b e))

    starts_one : (x a b : ℕ) → x < c → Starts ks S x a → Starts ks S x b → a ≡ b
    starts_one x a b l top_starts top_starts = refl
    starts_one x a b l top_starts (child_starts q z e t u) = absurd (omega (arith, (on_later ks q z u).0, (on_later ks q z u).1))
    starts_one x a b l (child_starts p y d s o) top_starts = absurd (omega (arith, (on_later ks p y o).0, (on_later ks p y o).1))
    starts_one x a b l (child_starts p y d s o) (child_starts q z e t u) =
        let k : p ≡ q = parent_one y p q l o u in
        ap (λ v. v + (cell ks y).position) (starts_one p d e (omega (arith, (on_later ks p y o).1)) s (subst (λ r. Starts ks S r e) (sym k) t))

    module _ (two : 2 ≤ c) (most : c ≤ length ks) (o : Open) (os : List Open) (h : Opens ks S c (o ∷ os)) (full : Complete ks S c (o ∷ os)) where
      abbrev f : Fact ks S c o
      f = h.fact

      abbrev d : Named
      d = o.link

      -- a link to c is open, so it is named
      named_here : (p : ℕ) → On ks p c → named c (links (o ∷ os)) ≡ true
      named_here p (begins x e l) =
          ap (λ y. named y (links (o ∷ os))) (sym e) ∙ in_first ks S x p (o ∷ os) h (full.firsts p l.0 (subst (Leads ks p) (sym e) l) (omega arith))
      named_here p (goes_on b x q e l) =
          ap (λ y. named y (links (o ∷ os))) (sym e) ∙ in_next ks S x b (o ∷ os) h (full.nexts b l.0 (subst (Leads ks b) (sym e) l) (omega arith))

      below_named : Below ks 1 c → named c (links (o ∷ os)) ≡ true
      below_named (child x q) = named_here 1 q
      below_named (deeper b x e q) = named_here b q

      above : (k : Older ks S c o.owner o.link.cell) → (Last ks k.open_link.source (c - 1) → ⊥)
      above k l = omega (arith, l.highest o.link.cell k.holds, f.from)

      old_next : (k : Older ks S c o.owner o.link.cell) → (cell ks k.open_link.source).next ≡ c
      old_next k = go k.fact.how
        where
          go : ByFirst ks S c k.open_link ⊎ ByNext ks S c k.open_link → (cell ks k.open_link.source).next ≡ c
          go (inl g) = absurd (true≢false (sym k.is_next ∙ g.kind_is))
          go (inr g) = g.names ∙ k.here

      misplaced_at : place_broken c d (links os) ≡ true → Breaks ks T S ws c
      unfolding place_broken named
      misplaced_at b = go (eqb d.cell c) refl (named c (links os)) refl b
        where
          found : named c (links os) ≡ true → Older ks S c o.owner o.link.cell
          found m = find ks S c (ahead o) o.owner o.link.cell os h.older h.under m

          go : (x : Bool) → eqb d.cell c ≡ x → (y : Bool) → named c (links os) ≡ y → not x || y ≡ true → Breaks ks T S ws c
          go true e true m z =
              let k = found m in
              on_two_chains o.owner k.open_link.owner (subst (On ks o.owner) (eqb-true d.cell c e) f.on) (subst (On ks k.open_link.owner) k.here k.fact.on)
              (λ s. omega (arith, k.parent))
          go true e false m z = absurd (true≢false (sym z))
          go false e true m z =
              let k = found m in
              next_jumps k.open_link.source (old_next k) (k.fact.early, most) (above k)
          go false e false m z = unreached (λ s. omega arith) (λ s. true≢false (sym (below_named s) ∙ rw (e, m)))

      module _ (ok : place_broken c d (links os) ≡ false) where
        here : d.cell ≡ c
        unfolding place_broken
        here = let (x, y) = neither (not (eqb d.cell c)) (named c (links os)) ok in eqb-true d.cell c (not-false _ x)

        alone : named c (links os) ≡ false
        unfolding place_broken
        alone = (neither (not (eqb d.cell c)) (named c (links os)) ok).1

        -- the link to c is the latest one
        only_first : (p : ℕ) → first_child (cell ks p) ≡ c → Leads ks p c → (o.by_next ≡ false) × (o.source ≡ p)
        only_first p e l = go (full.firsts p l.0 (subst (Leads ks p) (sym e) l) (omega arith))
          where
            go : In false p (o ∷ os) → (o.by_next ≡ false) × (o.source ≡ p)
            go (inl k) = k
            go (inr k) = absurd (true≢false (sym (ap (λ y. named y (links os)) (sym e) ∙ in_first ks S c p os h.older k) ∙ alone))

        only_next : (b : ℕ) → (cell ks b).next ≡ c → Leads ks b c → (o.by_next ≡ true) × (o.source ≡ b)
        only_next b e l = go (full.nexts b l.0 (subst (Leads ks b) (sym e) l) (omega arith))
          where
            go : In true b (o ∷ os) → (o.by_next ≡ true) × (o.source ≡ b)
            go (inl k) = k
            go (inr k) = absurd (true≢false (sym (ap (λ y. named y (links os)) (sym e) ∙ in_next ks S c b os h.older k) ∙ alone))

        how_first : o.by_next ≡ false → ByFirst ks S c o
        how_first k = go f.how
          where
            go : ByFirst ks S c o ⊎ ByNext ks S c o → ByFirst ks S c o
            go (inl g) = g
            go (inr g) = absurd (true≢false (sym g.kind_is ∙ k))

        how_next : o.by_next ≡ true → ByNext ks S c o
        how_next k = go f.how
          where
            go : ByFirst ks S c o ⊎ ByNext ks S c o → ByNext ks S c o
            go (inl g) = absurd (true≢false (sym k ∙ g.kind_is))
            go (inr g) = g

        on_here : On ks o.owner c
        on_here = subst (On ks o.owner) here f.on

        by_first_at : (p : ℕ) → first_child (cell ks p) ≡ c → Leads ks p c → c ≡ suc p
        by_first_at p e l = let (k, s) = only_first p e l in omega (arith, (how_first k).just)

        owner_one : (p : ℕ) → On ks p c → p ≡ o.owner
        owner_one p (begins x e l) = let (k, s) = only_first p e l in sym ((how_first k).own ∙ s)
        owner_one p (goes_on b x q e l) =
            let (k, s) = only_next b e l in
            parent_one b p o.owner l.0 q (subst (On ks o.owner) s (how_next k).on_source)

        -- where the latest link is the next of b, no descendant of b is left to come
        module _ (b : ℕ) (g : ByNext ks S c o) (s : o.source ≡ b) where
          first_past : (y : ℕ) → y < c → Leads ks y (first_child (cell ks y)) → first_child (cell ks y) < c
          first_past y l m = go (dec_lt (first_child (cell ks y)) c)
            where
              no_first : In false y (o ∷ os) → ⊥
              no_first (inl k) = true≢false (sym g.kind_is ∙ k.0)
              no_first (inr k) = true≢false (sym (in_under ks S false y (ahead o) o.owner o.link.cell os k h.under).0)

              go : Dec (first_child (cell ks y) < c) → first_child (cell ks y) < c
              go (yes q) = q
              go (no q) = absurd (no_first (full.firsts y l m (omega arith)))

          next_past : (y : ℕ) → b < y → y < c → Leads ks y (cell ks y).next → (cell ks y).next < c
          next_past y a l m = go (dec_lt (cell ks y).next c)
            where
              no_next : In true y (o ∷ os) → ⊥
              no_next (inl k) = omega (arith, k.1)
              no_next (inr k) = omega (arith, (in_under ks S true y (ahead o) o.owner o.link.cell os k h.under).1, ahead_next ks S c o g)

              go : Dec ((cell ks y).next < c) → (cell ks y).next < c
              go (yes q) = q
              go (no q) = absurd (no_next (full.nexts y l m (omega arith)))

          on_past : (p x : ℕ) → b ≤ p → p < c → On ks p x → x < c
          on_past p x a l (begins y e m) = subst (λ z. z < c) e (first_past p l (subst (Leads ks p) (sym e) m))
          on_past p x a l (goes_on q y u e m) =
              let v = on_past p q a l u in
              subst (λ z. z < c) e (next_past q (omega (arith, (on_later ks p q u).1)) v (subst (Leads ks q) (sym e) m))

          below_past : (x : ℕ) → b < c → Below ks b x → x < c
          below_past x l (child y u) = on_past b x (omega arith) l u
          below_past x l (deeper q y e u) = on_past q x (omega (arith, (below_later ks b q e).1)) (below_past q l e) u

          last_here : b < c → Last ks b (c - 1)
          last_here l = record { is = go (ℕ_discrete (c - 1) b); highest = λ x e. omega (arith, below_past x l e) }
            where
              go : Dec (c - 1 ≡ b) → (c - 1 ≡ b) ⊎ Below ks b (c - 1)
              go (yes e) = inl e
              go (no e) = inr (subst (λ y. Below ks y (c - 1)) s (g.between (c - 1) (omega arith) (omega arith)))

        by_next_at : (b : ℕ) → (cell ks b).next ≡ c → Leads ks b c → Last ks b (c - 1)
        by_next_at b e l = let (k, s) = only_next b e l in last_here b (how_next k) s l.0

        reached_at : Below ks 1 c
        reached_at = starts_below ks S c (d.base + (cell ks c).position) (child_starts o.owner c d.base f.starts on_here) (λ e. omega arith)

        early_at : order_broken d (cell ks c) ≡ true → Breaks ks T S ws c
        unfolding order_broken
        early_at b = go f.how
          where
            low : (cell ks c).position < d.after
            low = ltb-true (cell ks c).position d.after b

            go : ByFirst ks S c o ⊎ ByNext ks S c o → Breaks ks T S ws c
            go (inl g) = absurd (omega (arith, low, g.after_is))
            go (inr g) = overlaps o.source (g.names ∙ here) (f.early, most) (omega (arith, low, g.after_is))

        in_order_at : order_broken d (cell ks c) ≡ false
            → (b : ℕ) → (cell ks b).next ≡ c → Leads ks b c → (cell ks b).position + (cell ks b).len ≤ (cell ks c).position
        unfolding order_broken
        in_order_at q b e l =
            let (k, s) = only_next b e l in
            subst (λ y. (cell ks y).position + (cell ks y).len ≤ (cell ks c).position) s (omega (arith, (how_next k).after_is, ltb-false (cell ks c).position d.after q))

        outside_at : inside_broken d (cell ks c) ≡ true → Breaks ks T S ws c
        unfolding inside_broken room_of
        outside_at b = go (ℕ_discrete o.owner 1) d.within refl b
          where
            go : Dec (o.owner ≡ 1) → (w : Option ℕ) → d.within ≡ w → elim w [ None ↦ false | Some l ↦ ltb l ((cell ks c).position + (cell ks c).len) ] ≡ true → Breaks ks T S ws c
            go e None w z = absurd (true≢false (sym z))
            go (yes e) (Some l) w z = absurd (some_none (sym w ∙ (f.room ∙ rw (eq-eqb o.owner 1 e, room_of))))
              where
                some_none : ◌≡◌ {A = Option ℕ} (Some l) None → ⊥
                some_none q = let t : ◌≡◌ {A = ℕ} 0 1 = cc in omega arith
            go (no e) (Some l) w z =
                let r : ◌≡◌ {A = Option ℕ} (Some l) (Some (cell ks o.owner).len) = sym w ∙ (f.room ∙ rw (ne_eqb o.owner 1 e, room_of)) in
                let t : l ≡ (cell ks o.owner).len = cc in
                sticks_out o.owner on_here e (omega (arith, ltb-true l ((cell ks c).position + (cell ks c).len) z))

        in_parent_at : inside_broken d (cell ks c) ≡ false
            → (p : ℕ) → On ks p c → (p ≡ 1 → ⊥) → (cell ks c).position + (cell ks c).len ≤ (cell ks p).len
        unfolding inside_broken room_of
        in_parent_at b p u ne =
            let e = owner_one p u in
            let ne' : o.owner ≡ 1 → ⊥ = λ s. ne (e ∙ s) in
            let r : d.within ≡ Some (cell ks o.owner).len = f.room ∙ rw (ne_eqb o.owner 1 ne', room_of) in
            let z : ltb (cell ks o.owner).len ((cell ks c).position + (cell ks c).len) ≡ false = rw r at b in
            subst (λ y. (cell ks c).position + (cell ks c).len ≤ (cell ks y).len) (sym e) (ltb-false (cell ks o.owner).len ((cell ks c).position + (cell ks c).len) z)

        far_at : end_broken c d (cell ks c) ≡ true → Breaks ks T S ws c
        unfolding end_broken
        far_at b =
            let z : ltb 4294967295 (d.base + ((cell ks c).position + (cell ks c).len)) ≡ true = rw (ne_eqb c 1 (λ e. omega arith)) at b in
            ends_past (d.base + (cell ks c).position) (λ e. omega arith) (child_starts o.owner c d.base f.starts on_here)
            (omega (arith, ltb-true 4294967295 (d.base + ((cell ks c).position + (cell ks c).len)) z))

        near_at : end_broken c d (cell ks c) ≡ false → (a : ℕ) → (c ≡ 1 → ⊥) → Starts ks S c a → a + (cell ks c).len ≤ 4294967295
        unfolding end_broken
        near_at b a ne s =
            let z : ltb 4294967295 (d.base + ((cell ks c).position + (cell ks c).len)) ≡ false = rw (ne_eqb c 1 (λ e. omega arith)) at b in
            let q = ltb-false 4294967295 (d.base + ((cell ks c).position + (cell ks c).len)) z in
            let e : a ≡ d.base + (cell ks c).position = same c a refl s in
            omega arith
          where
            same : (x v : ℕ) → x ≡ c → Starts ks S x v → v ≡ d.base + (cell ks x).position
            same x v is top_starts = absurd (ne (sym is))
            same x v is (child_starts p y e t u) =
                let w : On ks p c = subst (On ks p) is u in
                let k = owner_one p w in
                ap (λ z. z + (cell ks y).position) (starts_one p e d.base (omega (arith, (on_later ks p c w).1)) t (subst (λ z. Starts ks S z d.base) (sym k) f.starts))

      pub sited : Sited c d (links os)
      sited = record {
        misplaced = misplaced_at;
        early = early_at;
        outside = outside_at;
        far = far_at;
        by_first = by_first_at;
        by_next = by_next_at;
        reached = λ ok ne. reached_at ok;
        one_parent = λ ok p q a b. owner_one ok p a ∙ sym (owner_one ok q b);
        in_order = in_order_at;
        in_parent = in_parent_at;
        near = near_at;
      }

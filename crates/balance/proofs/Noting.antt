-- The pass that notes where each cell's parent starts: what a cell notes for those it names is right, and each but the first is named
-- by an earlier one. Assumes nothing.
use mathlib.Core.Path.{◌≡◌, refl, sym, ap, ◌∙◌}
use mathlib.Core.List.{List}
use mathlib.Core.Logic.{inl, inr, ⊎_elim}
use Prim.Native.Nat.{ℕ, zero, suc, ◌+◌, ◌-◌, ◌≤◌, ◌<◌}
use native.Mathlib.Omega.{arith}
use native.Mathlib.Decide.{ℕ_discrete, dec_lt}
use borrow.Author.Tests.{eq-eqb, ne_eqb}
use lib.ListN.{length, get_or, set, length-set}
use lib.Seq.{get_or-set_same, get_or-set_other}
use Rattle.tree.specs.Cells.{cell_kind, cell_position, cell_first, cell_next}
use Rattle.tree.specs.Trees.{Trees}
use Rattle.store.proofs.Types.{not_part}
use Rattle.rules.specs.Calls.{handed_in}
use Rattle.balance.specs.Steps.{bases, onwards, Given, noted, links_noted, Linked, Based}
use Rattle.balance.proofs.Sites.{Leads, TreeAt, PartAt, Named, Reached}
use Rattle.balance.proofs.Handed.{Handed, handed}

pub noted_none : (held : List ℕ) (x q : ℕ) → x ≡ 0 → noted held x q ≡ held
unfolding noted
noted_none held x q e = rw (eq-eqb x 0 e)

pub noted_some : (held : List ℕ) (x q : ℕ) → (x ≡ 0 → ⊥) → noted held x q ≡ set held (x - 1) q
unfolding noted
noted_some held x q e = rw (ne_eqb x 0 e)

noted_length : (held : List ℕ) (x q : ℕ) → length (noted held x q) ≡ length held
noted_length held zero q = ap length (noted_none held 0 q refl)
noted_length held (suc x) q = ap length (noted_some held (suc x) q (λ e. omega arith)) ∙ length-set held (suc x - 1) q

-- what a part's cell notes, and what a tree's does
links_part : (cs held : List ℕ) (i : ℕ) → cell_kind cs i ≡ 2 → links_noted cs held i ≡ noted held (cell_next cs i) (get_or held i 0)
unfolding links_noted
links_part cs held i e = rw (eq-eqb (cell_kind cs i) 2 e)

links_tree : (cs held : List ℕ) (i : ℕ) → (cell_kind cs i ≡ 2 → ⊥)
    → links_noted cs held i ≡ noted (noted held (cell_next cs i) (get_or held i 0)) (cell_first cs i) (get_or held i 0 + cell_position cs i)
unfolding links_noted
links_tree cs held i e = rw (ne_eqb (cell_kind cs i) 2 e)

-- a number v that is right for the cell x, by the list bs
module _ (bs : List ℕ) where
  abbrev Right : (x v : ℕ) → Type 0
  Right x v = (y : ℕ) → x ≡ suc y → v ≡ get_or bs y 0

  module _ (held : List ℕ) (x v : ℕ) (right : Right x v) (k : ℕ) (room : k < length held) where
    noted_hit : x ≡ suc k → get_or (noted held x v) k 0 ≡ get_or bs k 0
    noted_hit e =
        let z : x - 1 ≡ k = omega arith in
        ap (λ (l : List ℕ). get_or l k 0) (noted_some held x v (λ o. omega arith) ∙ ap (λ (j : ℕ). set held j v) z)
        ∙ get_or-set_same held k v 0 room ∙ right k e

    noted_right : get_or held k 0 ≡ get_or bs k 0 → get_or (noted held x v) k 0 ≡ get_or bs k 0
    noted_right h = go (ℕ_discrete x 0) (ℕ_discrete x (suc k))
      where
        go : Dec (x ≡ 0) → Dec (x ≡ suc k) → get_or (noted held x v) k 0 ≡ get_or bs k 0
        go (yes e) d = ap (λ (l : List ℕ). get_or l k 0) (noted_none held x v e) ∙ h
        go (no e) (yes d) = noted_hit d
        go (no e) (no d) = ap (λ (l : List ℕ). get_or l k 0) (noted_some held x v e) ∙ get_or-set_other held (x - 1) k v 0 (λ o. omega arith) ∙ h

module _ {cs ws : List ℕ} {n : ℕ} (g : Given cs ws n) where
  abbrev bs : List ℕ
  bs = bases 0 (handed_in cs ws)

  abbrev us : List Trees
  us = onwards (handed_in cs ws)

  abbrev h : Handed cs ws n
  h = handed cs ws n g

  first_base : get_or bs 0 0 ≡ 0
  unfolding bases
  first_base = ap (λ (t : Trees). get_or (bases 0 t) 0 0) h.tree_is

  pub leads_in : (k q : ℕ) (ts : Trees) (x : ℕ) → Leads cs ws bs us n k q ts x → x ≤ n
  leads_in k q ts x (inl e) = omega (arith, e.1)
  leads_in k q ts x (inr e) = omega (arith, e.1, e.2.within)

  leads_right : (k q : ℕ) (ts : Trees) (x v : ℕ) → Leads cs ws bs us n k q ts x → v ≡ q → Right bs x v
  leads_right k q ts x v (inl e) z y o = absurd (omega (arith, e.1))
  leads_right k q ts x v (inr e) z y o =
      let s : e.0 ≡ y = omega (arith, e.1) in
      z ∙ sym e.2.base_at ∙ ap (λ (j : ℕ). get_or bs j 0) s

  -- The cells before cell i have noted what they name.
  pub record Noting (held₀ held : List ℕ) (i : ℕ) : Type 0 where
    pub most : i ≤ n
    pub size : length held ≡ length held₀
    pub room : n ≤ length held₀
    pub first : get_or held 0 0 ≡ get_or bs 0 0
    pub links : (j k : ℕ) → j < i → k < n → Named cs ws bs us n j k → get_or held k 0 ≡ get_or bs k 0

  pub noting_start : (work : List ℕ) → n ≤ length work → Noting (set work 0 0) (set work 0 0) 0
  noting_start work r = record {
    most = omega arith;
    size = refl;
    room = omega (arith, length-set work 0 0);
    first = get_or-set_same work 0 0 0 (omega (arith, h.count)) ∙ sym first_base;
    links = λ j k l m e. absurd (omega arith);
  }

  module _ {held₀ held : List ℕ} {i : ℕ} (s : Noting held₀ held i) where
    -- so what is noted of cell k is right
    known : (k : ℕ) → k ≤ i → k < n → get_or held k 0 ≡ get_or bs k 0
    known k a b = go (h.site k b).reached
      where
        go : Reached cs ws bs us n k → get_or held k 0 ≡ get_or bs k 0
        go (inl e) = ap (λ (j : ℕ). get_or held j 0) e ∙ s.first ∙ ap (λ (j : ℕ). get_or bs j 0) (sym e)
        go (inr e) = s.links e.0 k (omega (arith, e.1)) b e.2

    module _ (l : i < n) where
      own_base : get_or held i 0 ≡ get_or bs i 0
      own_base = known i (omega arith) l

      pub noting_ready : Linked cs held i
      noting_ready = ⊎_elim tree_ready part_ready (h.site i l).own
        where
          tree_ready : TreeAt cs ws bs us n i → Linked cs held i
          tree_ready t = record {
            inside = omega (arith, h.size);
            own = omega (arith, s.size, s.room);
            next_fits = omega (arith, s.size, s.room, leads_in i (get_or bs i 0) t.rest (cell_next cs i) t.next_is);
            first_fits = λ e. omega (arith, s.size, s.room, leads_in i t.start t.kids (cell_first cs i) t.first_is);
            start_fits = omega (arith, own_base, t.start_is, t.small);
          }

          part_ready : PartAt cs ws bs us n i → Linked cs held i
          part_ready t = record {
            inside = omega (arith, h.size);
            own = omega (arith, s.size, s.room);
            next_fits = omega (arith, s.size, s.room, leads_in i (get_or bs i 0) t.rest (cell_next cs i) t.next_is);
            first_fits = λ e. absurd (e t.kind_is);
            start_fits = omega (arith, own_base, t.start_is, t.small);
          }

      abbrev x : ℕ
      x = cell_next cs i

      abbrev v : ℕ
      v = get_or held i 0

      module _ (next-right : Right bs x v) where
        abbrev once : List ℕ
        once = noted held x v

        once_at : (k : ℕ) → k < n → get_or held k 0 ≡ get_or bs k 0 → get_or once k 0 ≡ get_or bs k 0
        once_at k m e = noted_right bs held x v next-right k (omega (arith, s.size, s.room)) e

        -- a part notes its next
        part_next : cell_kind cs i ≡ 2 → Noting held₀ once (i + 1)
        part_next two = record {
          most = omega arith;
          size = noted_length held x v ∙ s.size;
          room = s.room;
          first = once_at 0 (omega (arith, h.count)) s.first;
          links = λ j k m o e. go j k m o e (dec_lt j i);
        }
          where
            go : (j k : ℕ) → j < i + 1 → k < n → Named cs ws bs us n j k → Dec (j < i) → get_or once k 0 ≡ get_or bs k 0
            go j k m o e (yes d) = once_at k o (s.links j k d o e)
            go j k m o (inl e) (no d) =
                let z : j ≡ i = omega arith in
                noted_hit bs held x v next-right k (omega (arith, s.size, s.room)) (ap (λ (y : ℕ). cell_next cs y) (sym z) ∙ e)
            go j k m o (inr e) (no d) =
                let z : j ≡ i = omega arith in
                absurd (e.0 (ap (λ (y : ℕ). cell_kind cs y) z ∙ two))

        -- a tree its first child too
        module _ (y u : ℕ) (y-is : y ≡ cell_first cs i) (first-right : Right bs y u) where
          abbrev twice : List ℕ
          twice = noted once y u

          wide : (k : ℕ) → k < n → k < length once
          wide k m = omega (arith, s.size, s.room, noted_length held x v)

          tree_next : Noting held₀ twice (i + 1)
          tree_next = record {
            most = omega arith;
            size = noted_length once y u ∙ noted_length held x v ∙ s.size;
            room = s.room;
            first = twice_at 0 (omega (arith, h.count)) (once_at 0 (omega (arith, h.count)) s.first);
            links = λ j k m o e. go j k m o e (dec_lt j i);
          }
            where
              twice_at : (k : ℕ) → k < n → get_or once k 0 ≡ get_or bs k 0 → get_or twice k 0 ≡ get_or bs k 0
              twice_at k m e = noted_right bs once y u first-right k (wide k m) e

              go : (j k : ℕ) → j < i + 1 → k < n → Named cs ws bs us n j k → Dec (j < i) → get_or twice k 0 ≡ get_or bs k 0
              go j k m o e (yes d) = twice_at k o (once_at k o (s.links j k d o e))
              go j k m o (inl e) (no d) =
                  let z : j ≡ i = omega arith in
                  twice_at k o (noted_hit bs held x v next-right k (omega (arith, s.size, s.room)) (ap (λ (a : ℕ). cell_next cs a) (sym z) ∙ e))
              go j k m o (inr e) (no d) =
                  let z : j ≡ i = omega arith in
                  noted_hit bs once y u first-right k (wide k o) (y-is ∙ ap (λ (a : ℕ). cell_first cs a) (sym z) ∙ e.1)

      pub noting_next : {held' : List ℕ} → held' ≡ links_noted cs held i → Noting held₀ held' (i + 1)
      noting_next {held' = held'} e = ⊎_elim tree_turn part_turn (h.site i l).own
        where
          tree_turn : TreeAt cs ws bs us n i → Noting held₀ held' (i + 1)
          tree_turn t =
              let other : cell_kind cs i ≡ 2 → ⊥ = λ two. not_part t.type (sym t.kind_is ∙ two) in
              rw (e, links_tree cs held i other)
              (tree_next (leads_right i (get_or bs i 0) t.rest x v t.next_is own_base)
              (cell_first cs i) (v + cell_position cs i) refl
              (leads_right i t.start t.kids (cell_first cs i) (v + cell_position cs i) t.first_is (omega (arith, own_base, t.start_is))))

          part_turn : PartAt cs ws bs us n i → Noting held₀ held' (i + 1)
          part_turn t =
              rw (e, links_part cs held i t.kind_is)
              (part_next (leads_right i (get_or bs i 0) t.rest x v t.next_is own_base) t.kind_is)

    pub noting_end : n ≤ i → Based held n (handed_in cs ws)
    noting_end l k m = known k (omega arith) m

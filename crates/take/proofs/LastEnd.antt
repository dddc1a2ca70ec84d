-- The first-level trees end where the last first-level record ends. Assumes nothing.
use mathlib.Core.Path.{◌≡◌, refl, sym, ◌∙◌, subst}
use mathlib.Core.Bool.{Bool, true, false, ◌&&◌, ◌||◌, true≢false}
use mathlib.Core.List.{[]}
use Rattle.std.specs.Prelude.{Option, None, Some}
use Prim.Native.Nat.{ℕ, zero, suc, ◌+◌, ◌-◌, ◌≤◌}
use native.Mathlib.Omega.{arith}
use native.Mathlib.Nat.{le_refl}
use lib.Dec.{T as So, ltb, eqb, eqb→eq}
use Rattle.records.specs.Forest.{Forest, empty, add, behind, Nested}
use Rattle.records.proofs.ParseLaws.{and_left, and_right}
use Rattle.tree.specs.Trees.{Trees, nil, tree, part, ◌⊕◌, is_nil, last_end}
use Rattle.tree.specs.Items.{Items, mark, span, same, repeats, items, first, leftmost}
use Rattle.tree.specs.Pack.{run_from, run_part}
use Rattle.tree.specs.Balance.{in_set, same_type, lone, is_tree, joined, balance}
use Rattle.tree.specs.Groups.{Gathered, fresh, gather, rest_closed, finish}
use Rattle.tree.specs.Flat.{too_deep, flattened, flat}
use Rattle.tree.specs.Build.{walk, first_level}
use Rattle.tree.proofs.ItemLaws.{leftmost-≤, fits_items, own_none}
use Rattle.tree.proofs.ListingLaws.{⊕-nil}
use Rattle.cursor.specs.Spells.{Marked}
use Rattle.cursor.proofs.Start.{marked_items}
use Rattle.tree.specs.Ordered.{Fits}

-- siblings after others
last-⊕ : (d : ℕ) (ts us : Trees) → last_end d (ts ⊕ us) ≡ last_end (last_end d ts) us
unfolding last_end ◌⊕◌
last-⊕ d nil us = refl
last-⊕ d (tree t s l kids rest) us = last-⊕ (s + l) rest us
last-⊕ d (part s l ws rest) us = last-⊕ (s + l) rest us

-- where there are some, nothing else decides
last_some : (d d' : ℕ) (ts : Trees) → is_nil ts ≡ false → last_end d ts ≡ last_end d' ts
unfolding last_end is_nil
last_some d d' nil h = absurd (true≢false h)
last_some d d' (tree t s l kids rest) h = refl
last_some d d' (part s l ws rest) h = refl

-- a finished tree ends with its record
last_alone : (i s l d : ℕ) (ts : Trees) → So (is_tree (in_set false (Some i)) s l ts) → (last_end d ts ≡ s + l) × (is_nil ts ≡ false)
unfolding is_tree lone last_end is_nil
last_alone i s l d nil h = absurd h
last_alone i s l d (tree u s' l' kids nil) h =
    let r = and_right (same_type (in_set false (Some i)) u) (eqb s s' && eqb l l') h in
    let a = eqb→eq s s' (and_left (eqb s s') (eqb l l') r) in
    let c = eqb→eq l l' (and_right (eqb s s') (eqb l l') r) in
    (omega (arith, a, c), refl)
last_alone i s l d (tree u s' l' kids (tree u'' s'' l'' kids'' rest)) h = absurd h
last_alone i s l d (tree u s' l' kids (part s'' l'' ws rest)) h = absurd h
last_alone i s l d (part s' l' ws rest) h = absurd h

last_joined : (i s l d : ℕ) (kids : Trees) → (last_end d (joined (in_set false (Some i)) s l kids) ≡ s + l) × (is_nil (joined (in_set false (Some i)) s l kids) ≡ false)
unfolding joined last_end is_nil
last_joined i s l d kids = go (is_tree (in_set false (Some i)) s l kids) refl
  where
    go : (x : Bool) → is_tree (in_set false (Some i)) s l kids ≡ x
        → (last_end d (elim x [ true ↦ kids | false ↦ tree (Some i) s l kids nil ]) ≡ s + l) × (is_nil (elim x [ true ↦ kids | false ↦ tree (Some i) s l kids nil ]) ≡ false)
    go true e = last_alone i s l d kids (subst So (sym e) tt)
    go false e = (refl, refl)

last_finish : (F i s e d : ℕ) (g : Gathered) → s ≤ e → (last_end d (finish F i s e g) ≡ e) × (is_nil (finish F i s e g) ≡ false)
unfolding finish balance last_end is_nil
last_finish F i s e d g h = go (ltb i F || is_nil g.groups)
  where
    end : s + (e - s) ≡ e
    end = omega arith

    go : (x : Bool) → (last_end d (elim x [ true ↦ tree (Some i) s (e - s) (g.loose ⊕ g.groups) nil | false ↦ balance (in_set false (Some i)) (in_set false (Some i)) s (e - s) (rest_closed i s g).groups ]) ≡ e)
        × (is_nil (elim x [ true ↦ tree (Some i) s (e - s) (g.loose ⊕ g.groups) nil | false ↦ balance (in_set false (Some i)) (in_set false (Some i)) s (e - s) (rest_closed i s g).groups ]) ≡ false)
    go true = (end, refl)
    go false = let j = last_joined i s (e - s) d _ in (j.0 ∙ end, j.1)

-- some children are there, and the last one stays
record Stays (S : ℕ) (g g' : Gathered) : Type 0 where
  some_child : is_nil g'.loose ≡ false
  last : last_end S g'.loose ≡ last_end S g.loose
  no_group : g'.groups ≡ g.groups

front_some : (ts us : Trees) → is_nil us ≡ false → is_nil (ts ⊕ us) ≡ false
unfolding is_nil ◌⊕◌
front_some nil us h = h
front_some (tree t s l kids rest) us h = refl
front_some (part s l ws rest) us h = refl

stays_front : (S : ℕ) (ts : Trees) (g : Gathered) → is_nil g.loose ≡ false → Stays S g (gather (λ us. ts ⊕ us) g)
unfolding gather
stays_front S ts g h = record {
  some_child = front_some ts g.loose h;
  last = last-⊕ S ts g.loose ∙ last_some (last_end S ts) S g.loose h;
  no_group = refl;
}

stays_part : (S F i s e : ℕ) (kids more : Items) (g : Gathered) → is_nil g.loose ≡ false → Stays S g (gather (run_part F i s e kids more) g)
unfolding gather run_part is_nil last_end
stays_part S F i s e kids more g h = record { some_child = refl; last = last_some _ S g.loose h; no_group = refl }

stays_then : (S : ℕ) (g g' g'' : Gathered) → Stays S g g' → Stays S g' g'' → Stays S g g''
stays_then S g g' g'' a b = record { some_child = b.some_child; last = b.last ∙ a.last; no_group = b.no_group ∙ a.no_group }

none_alone : (i : ℕ) → same None i ≡ true → ⊥
unfolding same
none_alone i h = true≢false (sym h)

last_walk : (S F b : ℕ) (its : Items) (d k : ℕ) (g : Gathered) → Marked F None its → is_nil g.loose ≡ false → Stays S g (walk F b its d k None g)
unfolding walk
last_walk S F b Items.nil d zero g m h = record { some_child = h; last = refl; no_group = refl }
last_walk S F b Items.nil d (suc k) g m h = record { some_child = h; last = refl; no_group = refl }
last_walk S F b (mark i s e n rest) d k g m h = absurd (none_alone i m.alone)
last_walk S F b (span i s e kids rest) d (suc k) g m h = last_walk S F b rest d k g m.rest h
last_walk S F b (span i s e kids rest) d zero g m h =
    go (run_from F b None i s e kids rest) (λ k g' a. stays_then S g g' (walk F b rest d k None g') a (last_walk S F b rest d k g' m.rest a.some_child))
  where
    inner : Gathered
    inner = elim (too_deep d) [ true ↦ flat b (repeats F i) (flattened kids []) false [] 0 (fresh e) | false ↦ walk F b kids (suc d) zero (repeats F i) (fresh e) ]

    go : (o : Option ℕ) → ((k : ℕ) (g' : Gathered) → Stays S g g' → Stays S g (walk F b rest d k None g'))
        → Stays S g (elim o as (λ x. Gathered) [
          | Some k ↦ walk F b rest d k None (gather (run_part F i s e kids (first k rest)) g)
          | None ↦ walk F b rest d zero None (gather (λ ts. finish F i s e inner ⊕ ts) g)
        ])
    go (Some k) ih = ih k (gather (run_part F i s e kids (first k rest)) g) (stays_part S F i s e kids (first k rest) g h)
    go None ih = ih zero (gather (λ ts. finish F i s e inner ⊕ ts) g) (stays_front S (finish F i s e inner) g h)

-- what is gathered first, of a list whose last first-level record ends at e
record Begins (S e : ℕ) (g : Gathered) : Type 0 where
  some_child : is_nil g.loose ≡ false
  last : last_end S g.loose ≡ e
  no_group : g.groups ≡ nil

begins_then : (S e : ℕ) (g g' : Gathered) → Begins S e g → Stays S g g' → Begins S e g'
begins_then S e g g' a b = record { some_child = b.some_child; last = b.last ∙ a.last; no_group = b.no_group ∙ a.no_group }

begins_part : (S E F i s e : ℕ) (kids more : Items) → leftmost s more ≤ e → Begins S e (gather (run_part F i s e kids more) (fresh E))
unfolding gather run_part fresh is_nil last_end
begins_part S E F i s e kids more h = record { some_child = refl; last = omega arith; no_group = refl }

begins_tree : (S E F i s e : ℕ) (inner : Gathered) → s ≤ e → Begins S e (gather (λ ts. finish F i s e inner ⊕ ts) (fresh E))
unfolding gather fresh
begins_tree S E F i s e inner h =
    let j = last_finish F i s e S inner h in
    rw (⊕-nil (finish F i s e inner)) (record { some_child = j.1; last = j.0; no_group = refl })

begins_walk : (S E F T b i s e lo hi : ℕ) (kids rest : Items) → Fits F T lo hi (span i s e kids rest) → Marked F None (span i s e kids rest) → Begins S e (walk F b (span i s e kids rest) 0 0 None (fresh E))
unfolding walk
begins_walk S E F T b i s e lo hi kids rest f m =
    go (run_from F b None i s e kids rest) (λ k g a. begins_then S e g (walk F b rest 0 k None g) a (last_walk S F b rest 0 k g m.rest a.some_child))
  where
    inner : Gathered
    inner = elim (too_deep 0) [ true ↦ flat b (repeats F i) (flattened kids []) false [] 0 (fresh e) | false ↦ walk F b kids 1 zero (repeats F i) (fresh e) ]

    go : (o : Option ℕ) → ((k : ℕ) (g : Gathered) → Begins S e g → Begins S e (walk F b rest 0 k None g))
        → Begins S e (elim o as (λ x. Gathered) [
          | Some k ↦ walk F b rest 0 k None (gather (run_part F i s e kids (first k rest)) (fresh E))
          | None ↦ walk F b rest 0 zero None (gather (λ ts. finish F i s e inner ⊕ ts) (fresh E))
        ])
    go (Some k) ih = ih k _ (begins_part S E F i s e kids (first k rest) (omega (arith, leftmost-≤ F T k s lo s rest (le_refl s) f.rest, f.ordered)))
    go None ih = ih zero _ (begins_tree S E F i s e inner f.ordered)

-- "last child's position plus length, or 0"
pub last_first_level : (T F b S : ℕ) (f : Forest) → Nested T S (behind S f) f → last_end S (first_level F b S f) ≡ behind S f
unfolding first_level items behind walk fresh last_end ◌⊕◌ same
last_first_level T F b S empty n = refl
last_first_level T F b S (add before i s e kids) n =
    let a = begins_walk S e F T b i s e S e (items F (repeats F i) kids Items.nil) (items F None before Items.nil)
    (fits_items F T None (own_none F) (add before i s e kids) S e S Items.nil n (le_refl S))
    (marked_items F None (add before i s e kids) Items.nil tt tt) in
    rw (a.no_group, ⊕-nil) a.last

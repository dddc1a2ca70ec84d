-- Trees of a repeat tree's own type among what it gathers, which balancing may go by: only a long record below depth
-- 2,500 becomes one, since a finished tree has the id of its record. Assumes nothing.
use mathlib.Core.Path.{◌≡◌, refl, sym, subst, ◌∙◌}
use mathlib.Core.Bool.{Bool, true, false, ◌&&◌, ◌||◌, true≢false}
use Rattle.std.specs.Prelude.{Option, None, Some}
use Prim.Native.Nat.{ℕ, suc, ◌+◌, ◌-◌, ◌*◌, ◌≤◌}
use native.Mathlib.Omega.{arith}
use native.Mathlib.Nat.{le_refl}
use lib.Dec.{T as So, ltb, eqb, eqb→eq}
use Rattle.records.specs.Forest.{Forest, empty, add, count}
use Rattle.records.proofs.ParseLaws.{and_left}
use Rattle.tree.specs.Trees.{Trees, nil, tree, part, ◌⊕◌, is_nil}
use Rattle.tree.specs.Items.{Items, mark, span, same, repeats, items}
use Rattle.tree.specs.Balance.{SetType, in_set, equal_types, same_type, all_of, total, lone, is_tree, joined, balance}
use Rattle.tree.specs.Groups.{Gathered, close, rest_closed, finish}
use Rattle.tree.proofs.BalanceLaws.{total_pos_tree, total_pos_part}
use Rattle.tree.proofs.FuelLaws.{total-⊕}
use Rattle.tree.specs.Well.{own_total}

module _ (t : SetType) where
  own_nil : total t nil ≤ own_total t nil
  unfolding total own_total
  own_nil = le_refl 0

  pub own-total-⊕ : (ts us : Trees) → own_total t (ts ⊕ us) ≡ own_total t ts + own_total t us
  unfolding own_total ◌⊕◌
  own-total-⊕ nil us = omega arith
  own-total-⊕ (tree u s l kids rest) us = omega (arith, own-total-⊕ rest us)
  own-total-⊕ (part s l ws rest) us = own-total-⊕ rest us

  all_own : (ts : Trees) → So (all_of t ts) → total t ts ≤ own_total t ts
  unfolding own_total all_of ◌⊕◌
  all_own nil h = own_nil
  all_own (tree u s l kids rest) h =
      omega (arith, total-⊕ t c rest, go (same_type t u) h (λ a. all_own rest a))
    where
      c : Trees
      c = tree u s l kids nil

      go : (x : Bool) → So (x && all_of t rest) → (So (all_of t rest) → total t rest ≤ own_total t rest)
          → total t c + total t rest ≤ elim x [ true ↦ total t c | false ↦ 0 ] + own_total t rest
      go true a ih = omega (arith, ih a)
      go false a ih = absurd a
  all_own (part s l ws rest) h = absurd h

  -- a group over the children ts
  pub total_group : (u : Option ℕ) (s l : ℕ) (ts rest : Trees) → total t (tree u s l ts rest) ≤ suc (own_total t ts + total t rest)
  unfolding total
  total_group u s l ts rest = go (same_type t u) (all_of t ts) refl
    where
      go : (x y : Bool) → all_of t ts ≡ y → elim (x && y) [ true ↦ suc (total t ts) | false ↦ 1 ] + total t rest ≤ suc (own_total t ts + total t rest)
      go true true e = omega (arith, all_own ts (subst So (sym e) tt))
      go true false e = omega arith
      go false y e = omega arith

-- some siblings have a size
pub total_some : (t : SetType) (ts : Trees) → is_nil ts ≡ false → 1 ≤ total t ts
unfolding is_nil
total_some t nil h = absurd (true≢false h)
total_some t (tree u s l kids rest) h = total_pos_tree t u s l kids rest
total_some t (part s l ws rest) h = total_pos_part t s l ws rest

pub total_rest_closed : (t : SetType) (i s : ℕ) (g : Gathered) → is_nil g.groups ≡ false → 1 ≤ total t (rest_closed i s g).groups
unfolding rest_closed close
total_rest_closed t i s g h = go (is_nil g.loose)
  where
    go : (x : Bool) → 1 ≤ total t (elim x as (λ y. Gathered) [ true ↦ g | false ↦ close i s g ]).groups
    go true = total_some t g.groups h
    go false = total_pos_tree t (Some i) s (g.edge - s) g.loose g.groups

-- a finished tree has its record's id
same_some : (own : Option ℕ) (i : ℕ) → equal_types own (Some i) ≡ same own i
unfolding equal_types same
same_some None i = refl
same_some (Some r) i = refl

-- a type that is not the own one, and one equal to it
other_type : (own : Option ℕ) (i : ℕ) (u : Option ℕ) → same own i ≡ false → So (equal_types (Some i) u) → equal_types own u ≡ false
unfolding equal_types same
other_type None i None h e = absurd e
other_type None i (Some j) h e = refl
other_type (Some r) i None h e = refl
other_type (Some r) i (Some j) h e = rw (eqb→eq i j e) at h

pub own_tree : (own : SetType) (u : Option ℕ) (s l : ℕ) (kids : Trees) → same_type own u ≡ false → own_total own (tree u s l kids nil) ≡ 0
unfolding own_total
own_tree own u s l kids h = go (same_type own u) h
  where
    go : (x : Bool) → x ≡ false → elim x [ true ↦ total own (tree u s l kids nil) | false ↦ 0 ] + 0 ≡ 0
    go true h = absurd (true≢false h)
    go false h = refl

own_alone : (own : Option ℕ) (i s l : ℕ) (ts : Trees) → same own i ≡ false → So (is_tree (in_set false (Some i)) s l ts) → own_total (in_set false own) ts ≡ 0
unfolding is_tree lone
own_alone own i s l nil h e = absurd e
own_alone own i s l (tree u s' l' kids nil) h e = own_tree (in_set false own) u s' l' kids (other_type own i u h (and_left (equal_types (Some i) u) (eqb s s' && eqb l l') e))
own_alone own i s l (tree u s' l' kids (tree u'' s'' l'' kids'' rest)) h e = absurd e
own_alone own i s l (tree u s' l' kids (part s'' l'' ws rest)) h e = absurd e
own_alone own i s l (part s' l' ws rest) h e = absurd e

own_joined : (own : Option ℕ) (i s l : ℕ) (kids : Trees) → same own i ≡ false → own_total (in_set false own) (joined (in_set false (Some i)) s l kids) ≡ 0
unfolding joined
own_joined own i s l kids h = go (is_tree (in_set false (Some i)) s l kids) refl
  where
    go : (x : Bool) → is_tree (in_set false (Some i)) s l kids ≡ x → own_total (in_set false own) (elim x [ true ↦ kids | false ↦ tree (Some i) s l kids nil ]) ≡ 0
    go true e = own_alone own i s l kids h (subst So (sym e) tt)
    go false e = own_tree (in_set false own) (Some i) s l kids (same_some own i ∙ h)

pub own_finish : (own : Option ℕ) (F i s e : ℕ) (g : Gathered) → same own i ≡ false → own_total (in_set false own) (finish F i s e g) ≡ 0
unfolding finish balance
own_finish own F i s e g h = go (ltb i F || is_nil g.groups)
  where
    go : (x : Bool) → own_total (in_set false own) (elim x [ true ↦ tree (Some i) s (e - s) (g.loose ⊕ g.groups) nil | false ↦ balance (in_set false (Some i)) (in_set false (Some i)) s (e - s) (rest_closed i s g).groups ]) ≡ 0
    go true = own_tree (in_set false own) (Some i) s (e - s) (g.loose ⊕ g.groups) (same_some own i ∙ h)
    go false = own_joined own i s (e - s) _ h

-- marks have the parent's own repeat id, and spans have not
abbrev pub Owned : (F : ℕ) (own : Option ℕ) → Items → Type 0
Owned F own Items.nil = Unit {0}
Owned F own (mark i s e n its) = (same own i ≡ true) × Owned F own its
Owned F own (span i s e kids its) = (same own i ≡ false) × Owned F (repeats F i) kids × Owned F own its

pub owned_items : (F : ℕ) (own : Option ℕ) (f : Forest) (acc : Items) → Owned F own acc → Owned F own (items F own f acc)
unfolding items
owned_items F own empty acc a = a
owned_items F own (add before i s e kids) acc a =
    let earlier = owned_items F own before acc a in
    go (same own i) refl earlier (owned_items F own kids (items F own before acc) earlier) (owned_items F (repeats F i) kids Items.nil tt)
  where
    go : (x : Bool) → same own i ≡ x → Owned F own (items F own before acc) → Owned F own (items F own kids (items F own before acc)) → Owned F (repeats F i) (items F (repeats F i) kids Items.nil)
        → Owned F own (elim x [
          | true ↦ mark i s e (4 * suc (count kids)) (items F own kids (items F own before acc))
          | false ↦ span i s e (items F (repeats F i) kids Items.nil) (items F own before acc)
        ])
    go true h b m k = (h, m)
    go false h b m k = (h, k, b)

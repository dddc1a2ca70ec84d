-- The open links after a cell that breaks no rule: those before it without the one that names it, and its own. Assumes nothing.
use mathlib.Core.Path.{◌≡◌, refl, sym, ap, subst, ◌∙◌}
use mathlib.Core.Bool.{Bool, true, false, true≢false}
use mathlib.Core.List.{List, ◌∷◌}
use mathlib.Core.Logic.{◌⊎◌, inl, inr}
use Rattle.std.specs.Prelude.{None, Some}
use Prim.Native.Nat.{ℕ, suc, ◌+◌, ◌≤◌, ◌<◌}
use native.Mathlib.Omega.{arith}
use native.Mathlib.Decide.{ℕ_discrete}
use borrow.Author.Tests.{eqb-true, eqb-false}
use lib.Dec.{eqb}
use lib.ListN.{length}
use Rattle.rules.specs.Cell.{Cell, is_part, first_child}
use Rattle.rules.specs.Rules.{cell, Leads, On, begins, goes_on, Below, child, deeper, Starts}
use Rattle.rules.specs.Lowest.{Named, named, link_broken, next_named, first_named}
use Rattle.rules.proofs.Keeping.{leads}
use Rattle.rules.proofs.Links.{below_next}
use Rattle.rules.proofs.Opens.{Open, links, ahead, In, room_of, ByFirst, ByNext, Under, Opens, Complete, ahead_most, under_map, pop}

module _ (ks : List Cell) (S : ℕ) where
  -- Links after the cell c, without its first: z is any descendant of c that is below whatever c is below.
  pub record Nexts (c : ℕ) (named-are : List Named) : Type 0 where
    pub opens : List Open
    pub are : links opens ≡ named-are
    pub hold : Opens ks S (suc c) opens
    pub under : (z : ℕ) → ((x : ℕ) → Below ks x c → Below ks x z) → Below ks c z → Under ks S (suc c) c z opens

  -- and with its first
  pub record Both (c : ℕ) (before : List Open) (named-are : List Named) : Type 0 where
    pub opens : List Open
    pub are : links opens ≡ named-are
    pub hold : Opens ks S (suc c) opens
    pub kept : (b : Bool) (y : ℕ) → In b y before → In b y opens
    pub new : (first_child (cell ks c) ≡ 0 → ⊥) → In false c opens

  -- only a tree has a first child
  child_of : (k : Cell) → (first_child k ≡ 0 → ⊥) → first_child k ≡ k.first
  unfolding first_child
  child_of k ne = go (is_part k) ne
    where
      go : (p : Bool) → (◌≡◌ {A = ℕ} (elim p [ true ↦ 0 | false ↦ k.first ]) 0 → ⊥) → ◌≡◌ {A = ℕ} (elim p [ true ↦ 0 | false ↦ k.first ]) k.first
      go true ne = absurd (ne refl)
      go false ne = refl

  module _ (c : ℕ) (d : Named) (before : List Open) (hold : Opens ks S (suc c) before)
      (under : (z : ℕ) → ((x : ℕ) → Below ks x c → Below ks x z) → Below ks c z → Under ks S (suc c) c z before)
      (starts : Starts ks S c (d.base + (cell ks c).position)) (ok : link_broken (length ks) c (first_child (cell ks c)) ≡ false) where
    first_open : Open
    first_open = record {
      link = record { cell = (cell ks c).first; after = 0; within = room_of ks S c; base = d.base + (cell ks c).position };
      source = c;
      by_next = false;
      owner = c;
    }

    module _ (ne : first_child (cell ks c) ≡ 0 → ⊥) where
      leads_on : Leads ks c (cell ks c).first
      leads_on = subst (Leads ks c) (child_of (cell ks c) ne) (leads (length ks) c (first_child (cell ks c)) ok ne)

      first_on : On ks c (cell ks c).first
      first_on = begins (cell ks c).first (child_of (cell ks c) ne) leads_on

      first_hold : Opens ks S (suc c) (first_open ∷ before)
      unfolding first_open
      first_hold = record {
        fact = record {
          from = leads_on.0;
          to = leads_on.1;
          early = omega arith;
          mine = omega arith;
          on = first_on;
          starts = starts;
          room = refl;
          how = inl (record { kind_is = refl; names = child_of (cell ks c) ne; own = refl; after_is = refl; just = refl });
        };
        under = under (cell ks c).first (λ x e. deeper c (cell ks c).first e first_on) (child (cell ks c).first first_on);
        older = hold;
      }

    pub push_first : Both c before (first_named c d (cell ks c) (links before))
    unfolding first_named first_open room_of
    push_first = go (eqb (first_child (cell ks c)) 0) refl
      where
        go : (b : Bool) → eqb (first_child (cell ks c)) 0 ≡ b
            → Both c before (elim b [
              | true ↦ links before
              | false ↦
                  record {
                    cell = (cell ks c).first;
                    after = 0;
                    within = elim (eqb c 1) [ true ↦ None | false ↦ Some (cell ks c).len ];
                    base = d.base + (cell ks c).position;
                  } ∷ links before
            ])
        go true e = record { opens = before; are = refl; hold = hold; kept = λ b y i. i; new = λ ne. absurd (ne (eqb-true (first_child (cell ks c)) 0 e)) }
        go false e = record {
          opens = first_open ∷ before;
          are = refl;
          hold = first_hold (eqb-false (first_child (cell ks c)) 0 e);
          kept = λ b y i. inr i;
          new = λ ne. inl (refl, refl);
        }

  -- The cell c is the one that the latest link o names, and it has no other link to it.
  module _ (c : ℕ) (o : Open) (os : List Open) (h : Opens ks S c (o ∷ os)) (here : o.link.cell ≡ c) (alone : named c (links os) ≡ false)
      (ok : link_broken (length ks) c (cell ks c).next ≡ false) where
    under_here : Under ks S (ahead o) o.owner c os
    under_here = subst (λ z. Under ks S (ahead o) o.owner z os) here h.under

    on_here : On ks o.owner c
    on_here = subst (On ks o.owner) here h.fact.on

    popped : Opens ks S (suc c) os
    popped = pop ks S c (ahead o) o.owner os h.older under_here alone

    next_open : Open
    next_open = record {
      link = record { cell = (cell ks c).next; after = (cell ks c).position + (cell ks c).len; within = o.link.within; base = o.link.base };
      source = c;
      by_next = true;
      owner = o.owner;
    }

    under_old : (z : ℕ) → ((x : ℕ) → Below ks x c → Below ks x z) → Under ks S (suc c) c z os
    under_old z f = under_map ks S (ahead o) (suc c) o.owner c c z os (omega (arith, ahead_most ks S c o h.fact)) (omega (arith, h.fact.mine, h.fact.early)) f under_here

    next_hold : ((cell ks c).next ≡ 0 → ⊥) → Opens ks S (suc c) (next_open ∷ os)
    unfolding next_open
    next_hold ne =
        let l = leads (length ks) c (cell ks c).next ok ne in
        record {
          fact = record {
            from = l.0;
            to = l.1;
            early = omega arith;
            mine = omega (arith, h.fact.mine, h.fact.early);
            on = goes_on c (cell ks c).next on_here refl l;
            starts = h.fact.starts;
            room = h.fact.room;
            how = inr (record { kind_is = refl; names = refl; on_source = on_here; after_is = refl; between = λ x a b. absurd (omega arith) });
          };
          under = under_map ks S (ahead o) c o.owner o.owner c (cell ks c).next os (ahead_most ks S c o h.fact) (omega arith)
              (λ x e. below_next ks x c (cell ks c).next e refl l) under_here;
          older = popped;
        }

    next_under : (z : ℕ) → ((x : ℕ) → Below ks x c → Below ks x z) → Below ks c z → Under ks S (suc c) c z (next_open ∷ os)
    unfolding next_open
    next_under z f g = record { is_next = refl; before = omega arith; parent = omega (arith, h.fact.mine, h.fact.early); holds = g; others = under_old z f }

    pub record After (named-are : List Named) : Type 0 where
      pub nexts : Nexts c named-are
      pub kept : (b : Bool) (y : ℕ) → In b y os → In b y nexts.opens
      pub new : ((cell ks c).next ≡ 0 → ⊥) → In true c nexts.opens

    pub push_next : After (next_named o.link (cell ks c) (links os))
    unfolding next_named next_open
    push_next = go (eqb (cell ks c).next 0) refl
      where
        go : (b : Bool) → eqb (cell ks c).next 0 ≡ b
            → After (elim b [
              | true ↦ links os
              | false ↦ record { cell = (cell ks c).next; after = (cell ks c).position + (cell ks c).len; within = o.link.within; base = o.link.base } ∷ links os
            ])
        go true e = record {
          nexts = record { opens = os; are = refl; hold = popped; under = λ z f g. under_old z f };
          kept = λ b y i. i;
          new = λ ne. absurd (ne (eqb-true (cell ks c).next 0 e));
        }
        go false e = record {
          nexts = record { opens = next_open ∷ os; are = refl; hold = next_hold (eqb-false (cell ks c).next 0 e); under = next_under };
          kept = λ b y i. inr i;
          new = λ ne. inl (refl, refl);
        }

    -- all links from c and the cells before it are among those that are open then
    pub complete_next : Complete ks S c (o ∷ os) → (opens : List Open) → ((b : Bool) (y : ℕ) → In b y os → In b y opens)
        → ((first_child (cell ks c) ≡ 0 → ⊥) → In false c opens) → (((cell ks c).next ≡ 0 → ⊥) → In true c opens) → Complete ks S (suc c) opens
    complete_next full opens kept first next = record {
      firsts = λ y a l m. at_first y a l m (ℕ_discrete y c);
      nexts = λ y a l m. at_next y a l m (ℕ_discrete y c);
    }
      where
        at_first : (y : ℕ) → y < suc c → Leads ks y (first_child (cell ks y)) → suc c ≤ first_child (cell ks y) → Dec (y ≡ c) → In false y opens
        at_first y a l m (yes e) = subst (λ x. In false x opens) (sym e) (first (λ z. let q : first_child (cell ks y) ≡ first_child (cell ks c) = ap (λ x. first_child (cell ks x)) e in omega arith))
        at_first y a l m (no e) = go (full.firsts y (omega arith) l (omega arith))
          where
            go : In false y (o ∷ os) → In false y opens
            go (inr i) = kept false y i
            go (inl (k, s)) = how h.fact.how
              where
                how : ByFirst ks S c o ⊎ ByNext ks S c o → In false y opens
                how (inl f) = let z : first_child (cell ks y) ≡ c = sym (ap (λ x. first_child (cell ks x)) s) ∙ (f.names ∙ here) in absurd (omega arith)
                how (inr f) = absurd (true≢false (sym f.kind_is ∙ k))

        at_next : (y : ℕ) → y < suc c → Leads ks y (cell ks y).next → suc c ≤ (cell ks y).next → Dec (y ≡ c) → In true y opens
        at_next y a l m (yes e) = subst (λ x. In true x opens) (sym e) (next (λ z. let q : (cell ks y).next ≡ (cell ks c).next = ap (λ x. (cell ks x).next) e in omega arith))
        at_next y a l m (no e) = go (full.nexts y (omega arith) l (omega arith))
          where
            go : In true y (o ∷ os) → In true y opens
            go (inr i) = kept true y i
            go (inl (k, s)) = how h.fact.how
              where
                how : ByFirst ks S c o ⊎ ByNext ks S c o → In true y opens
                how (inl f) = absurd (true≢false (sym k ∙ f.kind_is))
                how (inr f) = let z : (cell ks y).next ≡ c = sym (ap (λ x. (cell ks x).next) s) ∙ (f.names ∙ here) in absurd (omega arith)

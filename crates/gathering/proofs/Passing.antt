-- A record of the own id passed over, and the children left over: each way through the tests. Assumes nothing.
use mathlib.Core.Path.{◌≡◌, refl, ap}
use mathlib.Core.Bool.{Bool, true, false}
use mathlib.Core.List.{List}
use Prim.Native.Nat.{ℕ, ◌+◌, ◌≤◌, ◌<◌}
use native.Mathlib.Omega.{arith}
use borrow.Author.Tests.{le-leb, lt-leb}
use Rattle.tree.specs.Trees.{Trees, nil, tree, part, is_nil}
use Rattle.tree.specs.Groups.{Gathered, close, pass, rest_closed}
use Rattle.store.specs.Store.{Holds, Same}
use Rattle.gathering.specs.Gathering.{Closed, PassedOver, RestClosed}

-- an address is 0 where there is no tree
pub none_at : (w : List ℕ) (base top low n : ℕ) (ts : Trees) → Holds false w base top low n ts → n ≡ 0 → ts ≡ nil
none_at w base top low n nil h e = refl
none_at w base top low n (tree t s l kids rest) h e = absurd (omega (arith, h.node.live))
none_at w base top low n (part s l ws rest) h e = absurd (omega (arith, h.node.live))

pub some_at : (w : List ℕ) (base top low n : ℕ) (ts : Trees) → Holds false w base top low n ts → (n ≡ 0 → ⊥) → is_nil ts ≡ false
unfolding is_nil
some_at w base top low n nil h e = absurd (e h)
some_at w base top low n (tree t s l kids rest) h e = refl
some_at w base top low n (part s l ws rest) h e = refl

pass_made : (b i e : ℕ) (g : Gathered) → e + b ≤ g.edge → pass b i e g ≡ close i e g
unfolding pass
pass_made b i e g h = ap (λ (x : Bool). elim x as (λ y. Gathered) [ true ↦ close i e g | false ↦ g ]) (le-leb (e + b) g.edge h)

pass_not : (b i e : ℕ) (g : Gathered) → g.edge < e + b → pass b i e g ≡ g
unfolding pass
pass_not b i e g h = ap (λ (x : Bool). elim x as (λ y. Gathered) [ true ↦ close i e g | false ↦ g ]) (lt-leb (e + b) g.edge h)

rest_made : (i s : ℕ) (g : Gathered) → is_nil g.loose ≡ false → rest_closed i s g ≡ close i s g
unfolding rest_closed
rest_made i s g h = ap (λ (x : Bool). elim x as (λ y. Gathered) [ true ↦ g | false ↦ close i s g ]) h

rest_not : (i s : ℕ) (g : Gathered) → is_nil g.loose ≡ true → rest_closed i s g ≡ g
unfolding rest_closed
rest_not i s g h = ap (λ (x : Bool). elim x as (λ y. Gathered) [ true ↦ g | false ↦ close i s g ]) h

nil_is : (ts : Trees) → ts ≡ nil → is_nil ts ≡ true
unfolding is_nil
nil_is ts e = rw e

pub same_whole : (w : List ℕ) (top low : ℕ) → Same w w 0 top low
same_whole w top low = record { size = refl; below = λ j l m. refl; above = λ j l. refl }

module _ {w w' : List ℕ} {top i e groups loose edge rtop rgroups rloose redge : ℕ} where
  pub passed_close : {b : ℕ} → e + b ≤ edge → Closed w w' top i e groups loose edge rtop rgroups rloose redge
      → PassedOver w w' top i e b groups loose edge rtop rgroups rloose redge
  passed_close {b} h c = record {
    grown = omega (arith, c.top_is);
    few = omega (arith, c.top_is);
    kept = c.kept;
    holds = λ base low g live above free p.
        rw (pass_made b i e g (omega (arith, p.edge_is)), c.top_is) (c.holds base low g live above free p);
  }

  pub rest_close : (loose ≡ 0 → ⊥) → Closed w w' top i e groups loose edge rtop rgroups rloose redge
      → RestClosed w w' top i e groups loose edge rtop rgroups rloose redge
  rest_close h c = record {
    grown = omega (arith, c.top_is);
    few = omega (arith, c.top_is);
    kept = c.kept;
    holds = λ base low g live above free p.
        rw (rest_made i e g (some_at w base top low loose g.loose p.loose_at h), c.top_is) (c.holds base low g live above free p);
  }

module _ {w : List ℕ} {top i e groups loose edge : ℕ} where
  pub passed_on : {b : ℕ} → edge < e + b → PassedOver w w top i e b groups loose edge top groups loose edge
  passed_on {b} h = record {
    grown = omega arith;
    few = omega arith;
    kept = same_whole w top (top + 10);
    holds = λ base low g live above free p. rw (pass_not b i e g (omega (arith, p.edge_is))) p;
  }

  pub rest_on : loose ≡ 0 → RestClosed w w top i e groups loose edge top groups loose edge
  rest_on h = record {
    grown = omega arith;
    few = omega arith;
    kept = same_whole w top (top + 10);
    holds = λ base low g live above free p.
        rw (rest_not i e g (nil_is g.loose (none_at w base top low loose g.loose p.loose_at h))) p;
  }

-- The links that the one-pass form holds open before it reads the cell c: where each comes from, and that they are all the
-- links from cells before c to c or a later cell. Assumes nothing.
use mathlib.Core.Path.{◌≡◌, refl, sym, ap, subst, ◌∙◌}
use mathlib.Core.Bool.{Bool, true, false, ◌||◌, true≢false}
use mathlib.Core.List.{List, [], ◌∷◌}
use mathlib.Core.Logic.{◌⊎◌, inl, inr}
use Rattle.std.specs.Prelude.{Option, None, Some}
use Prim.Native.Nat.{ℕ, suc, ◌+◌, ◌≤◌, ◌<◌}
use native.Mathlib.Omega.{arith}
use native.Mathlib.Decide.{ℕ_discrete}
use borrow.Author.Tests.{eq-eqb, eqb-true, eqb-false}
use lib.Dec.{eqb}
use lib.ListN.{length}
use Rattle.rules.specs.Cell.{Cell, first_child}
use Rattle.rules.specs.Rules.{cell, Leads, On, Below, Starts}
use Rattle.rules.specs.Lowest.{Named, named}
use Rattle.rules.proofs.Tests.{neither, or_true}

-- An open link: what the one-pass form keeps of it; the cell that holds it; is it that cell's next? And the parent of the cell
-- that it names.
pub record Open : Type 0 where
  pub link : Named
  pub source : ℕ
  pub by_next : Bool
  pub owner : ℕ

abbrev pub links : List Open → List Named
links [] = []
links (o ∷ os) = o.link ∷ links os

-- older links come from cells before this number: a next stands under the first of the same cell
abbrev pub ahead : Open → ℕ
ahead o = elim o.by_next [ true ↦ o.source | false ↦ suc o.source ]

-- one of the open links is the first or the next of the cell y
abbrev pub In : (b : Bool) (y : ℕ) → List Open → Type 0
In b y [] = ⊥
In b y (o ∷ os) = ((o.by_next ≡ b) × (o.source ≡ y)) ⊎ In b y os

module _ (ks : List Cell) (S : ℕ) where
  -- the length that children of p end within
  unfoldable pub room_of : ℕ → Option ℕ
  room_of p = elim (eqb p 1) [ true ↦ None | false ↦ Some (cell ks p).len ]

  pub record ByFirst (c : ℕ) (o : Open) : Type 0 where
    pub kind_is : o.by_next ≡ false
    pub names : first_child (cell ks o.source) ≡ o.link.cell
    pub own : o.owner ≡ o.source
    pub after_is : o.link.after ≡ 0
    pub just : suc o.source ≡ c

  pub record ByNext (c : ℕ) (o : Open) : Type 0 where
    pub kind_is : o.by_next ≡ true
    pub names : (cell ks o.source).next ≡ o.link.cell
    pub on_source : On ks o.owner o.source
    pub after_is : o.link.after ≡ (cell ks o.source).position + (cell ks o.source).len
    pub between : (x : ℕ) → o.source < x → x < c → Below ks o.source x

  pub record Fact (c : ℕ) (o : Open) : Type 0 where
    pub from : c ≤ o.link.cell
    pub to : o.link.cell ≤ length ks
    pub early : o.source < c
    pub mine : o.owner ≤ o.source
    pub on : On ks o.owner o.link.cell
    pub starts : Starts ks S o.owner o.link.base
    pub room : o.link.within ≡ room_of o.owner
    pub how : ByFirst c o ⊎ ByNext c o

  -- The older links os: nexts of cells before `below`, whose parents come before `own`; z is a descendant of each such cell.
  abbrev pub Under : (below own z : ℕ) → List Open → Type 0
  Under below own z [] = Unit {0}
  Under below own z (o ∷ os) = record {
    is_next : o.by_next ≡ true;
    before : o.source < below;
    parent : o.owner < own;
    holds : Below ks o.source z;
    others : Under below own z os;
  }

  abbrev pub Opens : (c : ℕ) → List Open → Type 0
  Opens c [] = Unit {0}
  Opens c (o ∷ os) = record { fact : Fact c o; under : Under (ahead o) o.owner o.link.cell os; older : Opens c os }

  -- every link from a cell before c to c or a later cell is open
  pub record Complete (c : ℕ) (os : List Open) : Type 0 where
    pub firsts : (y : ℕ) → y < c → Leads ks y (first_child (cell ks y)) → c ≤ first_child (cell ks y) → In false y os
    pub nexts : (y : ℕ) → y < c → Leads ks y (cell ks y).next → c ≤ (cell ks y).next → In true y os

  pub ahead_next : (c : ℕ) (o : Open) → ByNext c o → ahead o ≡ o.source
  ahead_next c o h = rw h.kind_is

  pub ahead_most : (c : ℕ) (o : Open) → Fact c o → ahead o ≤ c
  ahead_most c o f = go o.by_next
    where
      go : (b : Bool) → elim b [ true ↦ o.source | false ↦ suc o.source ] ≤ c
      go true = omega (arith, f.early)
      go false = omega (arith, f.early)

  pub under_map : (a b p q y z : ℕ) (os : List Open) → a ≤ b → p ≤ q → ((x : ℕ) → Below ks x y → Below ks x z) → Under a p y os → Under b q z os
  under_map a b p q y z [] l m f h = tt
  under_map a b p q y z (o ∷ os) l m f h = record {
    is_next = h.is_next;
    before = omega (arith, h.before);
    parent = omega (arith, h.parent);
    holds = f o.source h.holds;
    others = under_map a b p q y z os l m f h.others;
  }

  pub in_under : (b : Bool) (y below own z : ℕ) (os : List Open) → In b y os → Under below own z os → (b ≡ true) × (y < below)
  in_under b y below own z [] i h = absurd i
  in_under b y below own z (o ∷ os) (inl (k, s)) h = (sym k ∙ h.is_next, omega (arith, h.before))
  in_under b y below own z (o ∷ os) (inr i) h = in_under b y below own z os i h.others

  -- what is open is named
  pub in_first : (c y : ℕ) (os : List Open) → Opens c os → In false y os → named (first_child (cell ks y)) (links os) ≡ true
  unfolding named
  in_first c y [] h i = absurd i
  in_first c y (o ∷ os) h (inl (k, s)) = go h.fact.how
    where
      go : ByFirst c o ⊎ ByNext c o → (eqb o.link.cell (first_child (cell ks y)) || named (first_child (cell ks y)) (links os)) ≡ true
      go (inl f) = rw (eq-eqb o.link.cell (first_child (cell ks y)) (sym f.names ∙ ap (λ x. first_child (cell ks x)) s))
      go (inr f) = absurd (true≢false (sym f.kind_is ∙ k))
  in_first c y (o ∷ os) h (inr i) = rw (in_first c y os h.older i) (or_true (eqb o.link.cell (first_child (cell ks y))))

  pub in_next : (c y : ℕ) (os : List Open) → Opens c os → In true y os → named (cell ks y).next (links os) ≡ true
  unfolding named
  in_next c y [] h i = absurd i
  in_next c y (o ∷ os) h (inl (k, s)) = go h.fact.how
    where
      go : ByFirst c o ⊎ ByNext c o → (eqb o.link.cell (cell ks y).next || named (cell ks y).next (links os)) ≡ true
      go (inl f) = absurd (true≢false (sym k ∙ f.kind_is))
      go (inr f) = rw (eq-eqb o.link.cell (cell ks y).next (sym f.names ∙ ap (λ x. (cell ks x).next) s))
  in_next c y (o ∷ os) h (inr i) = rw (in_next c y os h.older i) (or_true (eqb o.link.cell (cell ks y).next))

  -- what is named among the older links is open
  pub record Older (c own z : ℕ) : Type 0 where
    pub open_link : Open
    pub fact : Fact c open_link
    pub here : open_link.link.cell ≡ c
    pub is_next : open_link.by_next ≡ true
    pub parent : open_link.owner < own
    pub holds : Below ks open_link.source z

  pub find : (c below own z : ℕ) (os : List Open) → Opens c os → Under below own z os → named c (links os) ≡ true → Older c own z
  unfolding named
  find c below own z [] h u n = absurd (true≢false (sym n))
  find c below own z (o ∷ os) h u n = go (eqb o.link.cell c) refl n (λ m. find c below own z os h.older u.others m)
    where
      go : (b : Bool) → eqb o.link.cell c ≡ b → b || named c (links os) ≡ true → (named c (links os) ≡ true → Older c own z) → Older c own z
      go true e n r = record { open_link = o; fact = h.fact; here = eqb-true o.link.cell c e; is_next = u.is_next; parent = u.parent; holds = u.holds }
      go false e n r = r n

  -- the older links once the cell c is read
  fact_suc : (c : ℕ) (o : Open) → Fact c o → o.by_next ≡ true → Below ks o.source c → (o.link.cell ≡ c → ⊥) → Fact (suc c) o
  fact_suc c o f k d ne = record {
    from = omega (arith, f.from);
    to = f.to;
    early = omega (arith, f.early);
    mine = f.mine;
    on = f.on;
    starts = f.starts;
    room = f.room;
    how = go f.how;
  }
    where
      go : ByFirst c o ⊎ ByNext c o → ByFirst (suc c) o ⊎ ByNext (suc c) o
      go (inl h) = absurd (true≢false (sym k ∙ h.kind_is))
      go (inr h) = inr (record { kind_is = h.kind_is; names = h.names; on_source = h.on_source; after_is = h.after_is; between = λ x a b. at x a b (ℕ_discrete x c) })
        where
          at : (x : ℕ) → o.source < x → x < suc c → Dec (x ≡ c) → Below ks o.source x
          at x a b (yes e) = subst (Below ks o.source) (sym e) d
          at x a b (no e) = h.between x a (omega arith)

  pub pop : (c below own : ℕ) (os : List Open) → Opens c os → Under below own c os → named c (links os) ≡ false → Opens (suc c) os
  unfolding named
  pop c below own [] h u n = tt
  pop c below own (o ∷ os) h u n =
      let (x, y) = neither (eqb o.link.cell c) (named c (links os)) n in
      record {
        fact = fact_suc c o h.fact u.is_next u.holds (eqb-false o.link.cell c x);
        under = h.under;
        older = pop c below own os h.older u.others y;
      }

-- What a group becomes once it is placed, by how many trees it has and by its size. Assumes nothing.
use mathlib.Core.Path.{◌≡◌, refl, sym, ap, ◌∙◌}
use mathlib.Core.Bool.{Bool, true, false}
use mathlib.Core.List.{List}
use Prim.Native.Nat.{ℕ, ◌+◌, ◌-◌, ◌≤◌, ◌<◌}
use native.Mathlib.Omega.{arith}
use borrow.Author.Tests.{lt-ltb, le-ltb}
use lib.Dec.{ltb}
use lib.ListN.{get_or}
use Rattle.tree.specs.Trees.{Trees, nil, tree, part, ◌⊕◌, siblings, kids_of, first_start, last_end}
use Rattle.tree.specs.Balance.{SetType, total, share, groups, lone, joined, placed, each, balance}
use Rattle.tree.proofs.FuelLaws.{total_kids, divided_by, divided_again}
use Rattle.store.specs.Store.{Holds}
use Rattle.balance_core.specs.Rows.{Ends}
use Rattle.balance_core.proofs.Lists.{siblings_none}

pub one_lone : (g : Trees) → siblings g ≡ 1 → lone g ≡ true
unfolding siblings lone
one_lone nil e = refl
one_lone (tree t s l kids nil) e = refl
one_lone (tree t s l kids (tree u s' l' ks more)) e = absurd (omega arith)
one_lone (tree t s l kids (part s' l' ws more)) e = absurd (omega arith)
one_lone (part s l ws nil) e = refl
one_lone (part s l ws (tree u s' l' ks more)) e = absurd (omega arith)
one_lone (part s l ws (part s' l' ws' more)) e = absurd (omega arith)

pub many_lone : (g : Trees) → 2 ≤ siblings g → lone g ≡ false
unfolding siblings lone
many_lone nil e = absurd (omega arith)
many_lone (tree t s l kids nil) e = absurd (omega arith)
many_lone (tree t s l kids (tree u s' l' ks more)) e = refl
many_lone (tree t s l kids (part s' l' ws more)) e = refl
many_lone (part s l ws nil) e = absurd (omega arith)
many_lone (part s l ws (tree u s' l' ks more)) e = refl
many_lone (part s l ws (part s' l' ws' more)) e = refl

module _ (t : SetType) (m : ℕ) (g : Trees) where
  placed_by : (again : ℕ → Trees → Trees) (x y : Bool) → lone g ≡ x → ltb m (total t g) ≡ y
      → placed again t m g ≡ elim x [ true ↦ elim y [ true ↦ again m (kids_of g) | false ↦ g ] | false ↦ joined t (first_start g) (last_end 0 g - first_start g) (again (share (total t g)) g) ]
  unfolding placed
  placed_by again x y e f =
      ap (λ (b : Bool). elim b [ true ↦ elim (ltb m (total t g)) [ true ↦ again m (kids_of g) | false ↦ g ] | false ↦ joined t (first_start g) (last_end 0 g - first_start g) (again (share (total t g)) g) ]) e
      ∙ ap (λ (b : Bool). elim x [ true ↦ elim b [ true ↦ again m (kids_of g) | false ↦ g ] | false ↦ joined t (first_start g) (last_end 0 g - first_start g) (again (share (total t g)) g) ]) f

  -- a lone child stays
  pub placed_kept : siblings g ≡ 1 → total t g ≤ m → placed (divided_by t) t m g ≡ g
  placed_kept o l = placed_by (divided_by t) true false (one_lone g o) (le-ltb m (total t g) l)

  -- or gives way to the groups of its children
  pub placed_inner : siblings g ≡ 1 → m < total t g → 1 ≤ m → placed (divided_by t) t m g ≡ each (placed (divided_by t) t m) (groups t m (kids_of g))
  placed_inner o l pos =
      placed_by (divided_by t) true true (one_lone g o) (lt-ltb m (total t g) l)
      ∙ divided_again t m (kids_of g) pos (omega (arith, total_kids t g (omega arith) (one_lone g o)))

  -- several become a balanced tree
  pub placed_several : 2 ≤ siblings g → placed (divided_by t) t m g ≡ balance t t (first_start g) (last_end 0 g - first_start g) g
  unfolding balance divided_by
  placed_several o = placed_by (divided_by t) false (ltb m (total t g)) (many_lone g o) refl

pub kids_ends : (g : Trees) → Ends g → Ends (kids_of g)
unfolding kids_of
kids_ends nil e = tt
kids_ends (tree u s l kids rest) e = e.inner
kids_ends (part s l ws rest) e = tt

module _ (f : Bool) (w : List ℕ) (base top low n : ℕ) where
  -- the children of the first tree of a list, where it weighs more than 1
  pub kids_held : (t : SetType) (g rest : Trees) → siblings g ≡ 1 → 1 < total t g → Holds f w base top low n (g ⊕ rest) → Holds f w base top low (get_or w (n + 4) 0) (kids_of g)
  unfolding siblings kids_of ◌⊕◌ total
  kids_held t nil rest o h k = absurd (omega arith)
  kids_held t (tree u s l kids more) rest o h k = k.first
  kids_held t (part s l ws more) rest o h k = let z : more ≡ nil = siblings_none more (omega arith) in absurd (omega (arith, ap (total t) z, h))

  pub start_held : (g rest : Trees) → 1 ≤ siblings g → Holds f w base top low n (g ⊕ rest) → first_start g ≡ get_or w (n + 2) 0
  unfolding siblings first_start ◌⊕◌
  start_held nil rest o h = absurd (omega arith)
  start_held (tree u s l kids more) rest o h = sym h.node.start_at
  start_held (part s l ws more) rest o h = sym h.node.start_at

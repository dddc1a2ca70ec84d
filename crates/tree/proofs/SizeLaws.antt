-- How many cells trees come to where a part costs what is said of its words: 1 as it stands, one for four words once it
-- is materialised. Balancing adds fewer trees than the total of balanced sizes. Assumes nothing.
use mathlib.Core.Path.{◌≡◌, refl, sym, ap, subst, ◌∙◌}
use mathlib.Core.Bool.{Bool, true, false, true≢false}
use mathlib.Core.List.{List, [], ◌∷◌}
use Prim.Native.Nat.{ℕ, zero, suc, ◌+◌, ◌-◌, ◌/◌, ◌≤◌, ◌<◌}
use native.Mathlib.Omega.{arith}
use native.Mathlib.Nat.{le_refl}
use lib.Dec.{T as So, ltb, ltb→lt}
use lib.ListN.{length}
use Rattle.tree.specs.Trees.{Trees, nil, tree, part, ◌⊕◌, nodes, kids_of, first_start, last_end}
use Rattle.tree.specs.Balance.{SetType, total, share, groups, lone, is_tree, joined, placed, each, divide, balance}
use Rattle.tree.specs.Materialise.{within, beyond, unpack, materialise}
use Rattle.tree.proofs.ListingLaws.{⊕-nil}
use Rattle.tree.proofs.PackLaws.{nodes-⊕}
use Rattle.tree.proofs.BalanceLaws.{each_groups, share_pos}
use Rattle.tree.proofs.FuelLaws.{total-⊕, Group, Groups, groups_small, total_kids, several_pos, share-≤}

-- trees, and what the parts cost
unfoldable pub size : (c : List ℕ → ℕ) → Trees → ℕ
size c nil = 0
size c (tree t s l kids rest) = suc (size c kids + size c rest)
size c (part s l ws rest) = c ws + size c rest

-- as they stand a part is one cell
abbrev pub one : List ℕ → ℕ
one ws = 1

-- once materialised it is one for each of its records
abbrev pub quarter : List ℕ → ℕ
quarter ws = length ws / 4

pub size_one : (ts : Trees) → nodes ts ≡ size one ts
unfolding size nodes
size_one nil = refl
size_one (tree t s l kids rest) = omega (arith, size_one kids, size_one rest)
size_one (part s l ws rest) = omega (arith, size_one rest)

nodes_split : (ts : Trees) (n : ℕ) → nodes (within ts n) + nodes (beyond ts n) ≡ nodes ts
unfolding nodes within beyond
nodes_split nil n = refl
nodes_split (tree t s l kids rest) zero = omega arith
nodes_split (tree t s l kids rest) (suc n) = omega (arith, nodes_split rest (n - nodes kids))
nodes_split (part s l ws rest) zero = omega arith
nodes_split (part s l ws rest) (suc n) = omega (arith, nodes_split rest n)

-- a part becomes one tree for four words
pub nodes_unpack : (p off : ℕ) (ws : List ℕ) → nodes (unpack p off ws) ≡ length ws / 4
unfolding unpack nodes
nodes_unpack p off [] = refl
nodes_unpack p off (i ∷ []) = refl
nodes_unpack p off (i ∷ s ∷ []) = refl
nodes_unpack p off (i ∷ s ∷ e ∷ []) = refl
nodes_unpack p off (i ∷ s ∷ e ∷ n ∷ ws) =
    omega (arith, nodes_split (unpack p (off + 4) ws) ((n - (off + 4)) / 4), nodes_unpack p (off + 4) ws)

-- the cells of the materialised tree, as a function of the tree
pub nodes_materialise : (ts : Trees) → nodes (materialise ts) ≡ size quarter ts
unfolding materialise nodes size
nodes_materialise nil = refl
nodes_materialise (tree t s l kids rest) = omega (arith, nodes_materialise kids, nodes_materialise rest)
nodes_materialise (part s l ws rest) = omega (arith, nodes-⊕ (unpack s 0 ws) (materialise rest), nodes_unpack s 0 ws, nodes_materialise rest)

pub size-⊕ : (c : List ℕ → ℕ) (ts us : Trees) → size c (ts ⊕ us) ≡ size c ts + size c us
unfolding ◌⊕◌ size
size-⊕ c nil us = omega arith
size-⊕ c (tree t s l kids rest) us = omega (arith, size-⊕ c rest us)
size-⊕ c (part s l ws rest) us = omega (arith, size-⊕ c rest us)

module _ (t : SetType) where
  -- several trees make two groups or more
  pub two_groups : (g : Trees) → lone g ≡ false → 2 ≤ length (groups t (share (total t g)) g)
  unfolding each lone
  two_groups g o = go (groups t (share (total t g)) g) (each_groups t (share (total t g)) g) (groups_small t (share (total t g)) g)
    where
      go : (gs : List Trees) → each (λ x. x) gs ≡ g → Groups t (share (total t g)) (total t g) gs → 2 ≤ length gs
      go [] e a = absurd (true≢false (ap lone e ∙ o))
      go (h ∷ []) e a =
          let same : h ≡ g = sym (⊕-nil h) ∙ e in
          let less = a.0.small (ap lone same ∙ o) in
          absurd (omega (arith, ap (total t) same, share-≤ (total t g)))
      go (h ∷ h' ∷ gs) e a = omega arith

  -- some siblings make a group
  pub some_group : (m : ℕ) (ts : Trees) → 1 ≤ total t ts → 1 ≤ length (groups t m ts)
  unfolding each total
  some_group m ts h = go (groups t m ts) (each_groups t m ts)
    where
      go : (gs : List Trees) → each (λ x. x) gs ≡ ts → 1 ≤ length gs
      go [] e = absurd (omega (arith, ap (total t) e))
      go (g ∷ gs) e = omega arith

-- Balancing adds fewer inner trees than the total, whatever a part costs.
module _ (c : List ℕ → ℕ) (t : SetType) where
  size_joined : (s l : ℕ) (kids : Trees) → size c (joined t s l kids) ≤ suc (size c kids)
  unfolding joined size
  size_joined s l kids = go (is_tree t s l kids)
    where
      go : (x : Bool) → size c (elim x [ true ↦ kids | false ↦ tree t.type s l kids nil ]) ≤ suc (size c kids)
      go true = omega arith
      go false = omega arith

  size_each : (m n : ℕ) (f : Trees → Trees) (gs : List Trees) → Groups t m n gs
      → ((g : Trees) → Group t m n g → suc (size c (f g)) ≤ size c g + total t g)
      → size c (each f gs) + length gs ≤ size c (each (λ x. x) gs) + total t (each (λ x. x) gs)
  unfolding each size total
  size_each m n f [] a h = omega arith
  size_each m n f (g ∷ gs) a h =
      omega (arith, h g a.0, size_each m n f gs a.1 h, size-⊕ c (f g) (each f gs), size-⊕ c g (each (λ x. x) gs), total-⊕ t g (each (λ x. x) gs))

  size_kids : (g : Trees) → 1 < total t g → lone g ≡ true → suc (size c (kids_of g)) ≤ size c g
  unfolding size kids_of total lone
  size_kids nil h o = absurd (omega arith)
  size_kids (tree u s l kids rest) h o = omega arith
  size_kids (part s l ws nil) h o = absurd (omega arith)
  size_kids (part s l ws (tree u' s' l' kids' rest)) h o = absurd (true≢false (sym o))
  size_kids (part s l ws (part s' l' ws' rest)) h o = absurd (true≢false (sym o))

  size_placed : (m n : ℕ) (again : ℕ → Trees → Trees) (g : Trees) → 1 ≤ m → m ≤ n → Group t m n g
      → ((m' : ℕ) (ts : Trees) → 1 ≤ m' → m' ≤ total t ts → total t ts < n → size c (again m' ts) + length (groups t m' ts) ≤ size c ts + total t ts)
      → suc (size c (placed again t m g)) ≤ size c g + total t g
  unfolding placed
  size_placed m n again g pos le a h = go (lone g) refl (ltb m (total t g)) refl
    where
      go : (x : Bool) → lone g ≡ x → (y : Bool) → ltb m (total t g) ≡ y
          → suc (size c (elim x [ true ↦ elim y [ true ↦ again m (kids_of g) | false ↦ g ] | false ↦ joined t (first_start g) (last_end 0 g - first_start g) (again (share (total t g)) g) ]))
          ≤ size c g + total t g
      go true o true q =
          let big = ltb→lt m (total t g) (subst So (sym q) tt) in
          let k = total_kids t g (omega arith) o in
          omega (arith, size_kids g (omega arith) o, h m (kids_of g) pos (omega arith) (omega (arith, a.part_of)))
      go true o false q = omega (arith, a.filled)
      go false o y q =
          let inner = h (share (total t g)) g (share_pos (total t g) (several_pos t g o)) (share-≤ (total t g)) (omega (arith, a.small o)) in
          omega (arith, two_groups t g o, size_joined (first_start g) (last_end 0 g - first_start g) (again (share (total t g)) g))

  pub size_divide : (n m : ℕ) (ts : Trees) → 1 ≤ m → m ≤ total t ts → total t ts < n
      → size c (divide n t m ts) + length (groups t m ts) ≤ size c ts + total t ts
  unfolding divide
  size_divide zero m ts pos le h = absurd (omega arith)
  size_divide (suc n) m ts pos le h =
      let again : ℕ → Trees → Trees = λ m' ts'. divide n t m' ts' in
      rw each_groups at (size_each m (total t ts) (placed again t m) (groups t m ts) (groups_small t m ts)
      (λ g a. size_placed m (total t ts) again g pos le a (λ m' ts' pos' le' lt'. size_divide n m' ts' pos' le' (omega arith))))

  -- a balanced tree: itself, its children and fewer inner trees than their total
  pub size_balance : (s l : ℕ) (ts : Trees) → 1 ≤ total t ts → size c (balance t t s l ts) ≤ size c ts + total t ts
  unfolding balance
  size_balance s l ts h =
      let m = share (total t ts) in
      let n = suc (total t ts) in
      let d = size_divide n m ts (share_pos (total t ts) h) (share-≤ (total t ts)) (le_refl n) in
      omega (arith, some_group t m ts h, size_joined s l (divide n t m ts))

-- Dividing never runs out of fuel: any number above the total gives the same trees. A group of several is below the
-- share, and a lone child's children weigh less than it. Assumes nothing.
use mathlib.Core.Path.{◌≡◌, refl, sym, ap, ap₂, subst}
use mathlib.Core.Bool.{Bool, true, false, ◌&&◌, true≢false}
use mathlib.Core.List.{List, [], ◌∷◌}
use Prim.Native.Nat.{ℕ, zero, suc, ◌+◌, ◌-◌, ◌≤◌, ◌<◌}
use native.Mathlib.Omega.{arith}
use native.Mathlib.Nat.{le_refl}
use lib.Dec.{T as So, ltb, ltb→lt}
use Rattle.tree.specs.Trees.{Trees, nil, tree, part, ◌⊕◌, kids_of, first_start, last_end}
use Rattle.tree.specs.Balance.{SetType, same_type, all_of, total, share, grows, groups_from, groups, lone, joined, placed, each, divide}
use Rattle.tree.proofs.BalanceLaws.{total_pos_tree, total_pos_part, total_part, share_pos}

pub total-⊕ : (t : SetType) (ts us : Trees) → total t (ts ⊕ us) ≡ total t ts + total t us
unfolding total ◌⊕◌
total-⊕ t nil us = omega arith
total-⊕ t (tree u s l kids rest) us = go (same_type t u && all_of t kids) (total-⊕ t rest us)
  where
    go : (x : Bool) → total t (rest ⊕ us) ≡ total t rest + total t us
        → elim x [ true ↦ suc (total t kids) | false ↦ 1 ] + total t (rest ⊕ us)
        ≡ (elim x [ true ↦ suc (total t kids) | false ↦ 1 ] + total t rest) + total t us
    go true h = omega arith
    go false h = omega arith
total-⊕ t (part s l ws rest) us = omega (arith, total-⊕ t rest us)

-- a group that grows stays below the share
grows_below : (n w m : ℕ) → grows n w m ≡ true → n + w < m
unfolding grows
grows_below n w m x = ltb→lt _ _ (subst So (sym x) tt)

module _ (t : SetType) (m : ℕ) where
  -- A group is a lone child, or its total is below the share; it is part of siblings of the total n.
  pub record Group (n : ℕ) (g : Trees) : Type 0 where
    pub small : lone g ≡ false → total t g < m
    pub part_of : total t g ≤ n
    pub filled : 1 ≤ total t g

  abbrev pub Groups : (n : ℕ) → List Trees → Type 0
  Groups n [] = Unit {0}
  Groups n (g ∷ gs) = Group n g × Groups n gs

  groups_up : (n n' : ℕ) (gs : List Trees) → n ≤ n' → Groups n gs → Groups n' gs
  groups_up n n' [] h a = tt
  groups_up n n' (g ∷ gs) h a = (record { small = a.0.small; part_of = omega (arith, a.0.part_of); filled = a.0.filled }, groups_up n n' gs h a.1)

  abbrev Small : Trees → Type 0
  Small g = lone g ≡ false → total t g < m

  -- the group at hand, of size k, grows only below the share
  groups_step : (cur c rest : Trees) (k w n : ℕ) → 1 ≤ k → 1 ≤ w → total t cur ≡ k → total t c ≡ w → Small cur → Small c → k + (w + total t rest) ≤ n
      → (x : Bool) → grows k w m ≡ x
      → (total t (cur ⊕ c) ≡ k + w → Small (cur ⊕ c) → (k + w) + total t rest ≤ n → Groups n (groups_from t m (cur ⊕ c) (k + w) rest))
      → (total t c ≡ w → Small c → w + total t rest ≤ n → Groups n (groups_from t m c w rest))
      → Groups n (elim x [ true ↦ groups_from t m (cur ⊕ c) (k + w) rest | false ↦ cur ∷ groups_from t m c w rest ])
  groups_step cur c rest k w n pos pos' p q small alone h true x grow new =
      let both : total t (cur ⊕ c) ≡ k + w = omega (arith, total-⊕ t cur c) in
      grow both (λ o. omega (arith, grows_below k w m x)) (omega arith)
  groups_step cur c rest k w n pos pos' p q small alone h false x grow new =
      (record { small = small; part_of = omega arith; filled = omega arith }, new q alone (omega arith))

  groups_small_from : (cur : Trees) (k n : ℕ) (ts : Trees) → 1 ≤ k → total t cur ≡ k → Small cur → k + total t ts ≤ n → Groups n (groups_from t m cur k ts)
  unfolding groups_from ◌⊕◌ lone
  groups_small_from cur k n nil pos p small h = (record { small = small; part_of = omega arith; filled = omega arith }, tt)
  groups_small_from cur k n (tree u s l kids rest) pos p small h =
      let c = tree u s l kids nil in
      let w = total t c in
      groups_step cur c rest k w n pos (total_pos_tree t u s l kids nil) p refl small (λ o. absurd (true≢false o)) (omega (arith, total-⊕ t c rest)) (grows k w m) refl
      (λ p' small' h'. groups_small_from (cur ⊕ c) (k + w) n rest (omega arith) p' small' h') (λ p' small' h'. groups_small_from c w n rest (total_pos_tree t u s l kids nil) p' small' h')
  groups_small_from cur k n (part s l ws rest) pos p small h =
      let c = part s l ws nil in
      groups_step cur c rest k 1 n pos (le_refl 1) p (total_part t s l ws) small (λ o. absurd (true≢false o)) (omega (arith, total-⊕ t c rest, total_part t s l ws)) (grows k 1 m) refl
      (λ p' small' h'. groups_small_from (cur ⊕ c) (k + 1) n rest (omega arith) p' small' h') (λ p' small' h'. groups_small_from c 1 n rest (le_refl 1) p' small' h')

  pub groups_small : (ts : Trees) → Groups (total t ts) (groups t m ts)
  unfolding groups ◌⊕◌ lone
  groups_small nil = tt
  groups_small (tree u s l kids rest) =
      let c = tree u s l kids nil in
      groups_small_from c (total t c) (total t (tree u s l kids rest)) rest (total_pos_tree t u s l kids nil) refl (λ o. absurd (true≢false o)) (omega (arith, total-⊕ t c rest))
  groups_small (part s l ws rest) =
      let c = part s l ws nil in
      groups_small_from c 1 (total t (part s l ws rest)) rest (le_refl 1) (total_part t s l ws) (λ o. absurd (true≢false o)) (omega (arith, total-⊕ t c rest, total_part t s l ws))

-- a lone child's children weigh less than it
pub total_kids : (t : SetType) (g : Trees) → 1 < total t g → lone g ≡ true → suc (total t (kids_of g)) ≡ total t g
unfolding total kids_of lone
total_kids t nil h o = absurd (omega arith)
total_kids t (tree u s l kids nil) h o = go (same_type t u && all_of t kids) h
  where
    go : (x : Bool) → 1 < elim x [ true ↦ suc (total t kids) | false ↦ 1 ] + 0 → suc (total t kids) ≡ elim x [ true ↦ suc (total t kids) | false ↦ 1 ] + 0
    go true h = omega arith
    go false h = absurd (omega arith)
total_kids t (tree u s l kids (tree u' s' l' kids' rest)) h o = absurd (true≢false (sym o))
total_kids t (tree u s l kids (part s' l' ws' rest)) h o = absurd (true≢false (sym o))
total_kids t (part s l ws nil) h o = absurd (omega arith)
total_kids t (part s l ws (tree u' s' l' kids' rest)) h o = absurd (true≢false (sym o))
total_kids t (part s l ws (part s' l' ws' rest)) h o = absurd (true≢false (sym o))

pub share-≤ : (n : ℕ) → share n ≤ n
unfolding share
share-≤ n = omega arith

pub several_pos : (t : SetType) (g : Trees) → lone g ≡ false → 1 ≤ total t g
unfolding lone
several_pos t nil o = absurd (true≢false o)
several_pos t (tree u s l kids rest) o = total_pos_tree t u s l kids rest
several_pos t (part s l ws rest) o = total_pos_part t s l ws rest

each_same : (t : SetType) (m n : ℕ) (f f' : Trees → Trees) (gs : List Trees) → Groups t m n gs → ((g : Trees) → Group t m n g → f g ≡ f' g) → each f gs ≡ each f' gs
unfolding each
each_same t m n f f' [] a h = refl
each_same t m n f f' (g ∷ gs) a h = ap₂ ◌⊕◌ (h g a.0) (each_same t m n f f' gs a.1 h)

module _ (t : SetType) where
  placed_same : (m n : ℕ) (again again' : ℕ → Trees → Trees) (g : Trees) → 1 ≤ m → m ≤ n → Group t m n g
      → ((m' : ℕ) (ts : Trees) → 1 ≤ m' → m' ≤ total t ts → total t ts < n → again m' ts ≡ again' m' ts)
      → placed again t m g ≡ placed again' t m g
  unfolding placed
  placed_same m n again again' g pos le a h = go (lone g) refl (ltb m (total t g)) refl
    where
      go : (x : Bool) → lone g ≡ x → (y : Bool) → ltb m (total t g) ≡ y
          → ◌≡◌ {A = Trees} (elim x [ true ↦ elim y [ true ↦ again m (kids_of g) | false ↦ g ] | false ↦ joined t (first_start g) (last_end 0 g - first_start g) (again (share (total t g)) g) ])
          (elim x [ true ↦ elim y [ true ↦ again' m (kids_of g) | false ↦ g ] | false ↦ joined t (first_start g) (last_end 0 g - first_start g) (again' (share (total t g)) g) ])
      go true o true q =
          let big = ltb→lt m (total t g) (subst So (sym q) tt) in
          let k = total_kids t g (omega arith) o in
          h m (kids_of g) pos (omega arith) (omega (arith, a.part_of))
      go true o false q = refl
      go false o y q = ap (joined t (first_start g) (last_end 0 g - first_start g)) (h (share (total t g)) g (share_pos (total t g) (several_pos t g o)) (share-≤ (total t g)) (omega (arith, a.small o)))

  pub enough : (n n' m : ℕ) (ts : Trees) → 1 ≤ m → m ≤ total t ts → total t ts < n → total t ts < n' → divide n t m ts ≡ divide n' t m ts
  unfolding divide
  enough zero n' m ts pos le h h' = absurd (omega arith)
  enough (suc n) zero m ts pos le h h' = absurd (omega arith)
  enough (suc n) (suc n') m ts pos le h h' =
      each_same t m (total t ts) (placed (λ m₁ ts₁. divide n t m₁ ts₁) t m) (placed (λ m₁ ts₁. divide n' t m₁ ts₁) t m) (groups t m ts) (groups_small t m ts)
      (λ g a. placed_same m (total t ts) (λ m₁ ts₁. divide n t m₁ ts₁) (λ m₁ ts₁. divide n' t m₁ ts₁) g pos le a
      (λ m₁ ts₁ pos₁ le₁ lt₁. enough n n' m₁ ts₁ pos₁ le₁ (omega arith) (omega arith)))

-- Siblings divided with as much fuel as they need: no law after this one looks at it.
unfoldable pub divided_by : (t : SetType) (m : ℕ) → Trees → Trees
divided_by t m ts = divide (suc (total t ts)) t m ts

-- groups first, and each is placed, divided in turn by the same rule
pub divided_again : (t : SetType) (m : ℕ) (ts : Trees) → 1 ≤ m → m ≤ total t ts → divided_by t m ts ≡ each (placed (divided_by t) t m) (groups t m ts)
unfolding divided_by divide
divided_again t m ts pos le =
    each_same t m (total t ts) (placed (λ m₁ ts₁. divide (total t ts) t m₁ ts₁) t m) (placed (λ m₁ ts₁. divide (suc (total t ts₁)) t m₁ ts₁) t m) (groups t m ts) (groups_small t m ts)
    (λ g a. placed_same t m (total t ts) (λ m₁ ts₁. divide (total t ts) t m₁ ts₁) (λ m₁ ts₁. divide (suc (total t ts₁)) t m₁ ts₁) g pos le a
    (λ m₁ ts₁ pos₁ le₁ lt₁. enough t (total t ts) (suc (total t ts₁)) m₁ ts₁ pos₁ le₁ lt₁ (le_refl (suc (total t ts₁)))))

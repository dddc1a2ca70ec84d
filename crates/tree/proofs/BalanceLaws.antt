-- Balancing keeps whatever is read off siblings in order and passes through trees of the balance type, so the listing
-- where that type is not listed. By induction on the fuel. Assumes nothing.
use mathlib.Core.Path.{◌≡◌, refl, sym, ap, ap₂, ◌∙◌}
use mathlib.Core.Bool.{Bool, true, false, ◌&&◌}
use mathlib.Core.List.{List, [], ◌∷◌, ◌++◌, append-nil}
use Rattle.std.specs.Prelude.{Option, None, Some}
use Prim.Native.Nat.{ℕ, zero, suc, ◌+◌, ◌≤◌, ◌<◌}
use native.Mathlib.Omega.{arith}
use lib.Dec.{T, ltb, ltb→lt, eqb→eq, eqb_refl}
use Rattle.tree.specs.Trees.{Trees, nil, tree, part, ◌⊕◌, kids_of}
use Rattle.tree.specs.Listing.{node_line, node_below}
use Rattle.tree.specs.Balance.{SetType, in_set, equal_types, type_under, same_type, all_of, total, share, grows, groups_from, groups, lone, is_tree, joined, placed, each, divide, balance}
use Rattle.tree.proofs.ListingLaws.{⊕-assoc, view, view-⊕, view_nil, view_tree}
use Rattle.tree.proofs.PackLaws.{line_repeat, below_repeat}

-- trees of this type are not listed
abbrev pub Hidden : (F : ℕ) → Option ℕ → Type 0
Hidden F None = Unit {0}
Hidden F (Some i) = ltb i F ≡ false

pub view_hidden : (F d : ℕ) (t : Option ℕ) (s l : ℕ) (kids rest : Trees) → Hidden F t
    → view F d (tree t s l kids rest) ≡ view F d kids ++ view F d rest
unfolding node_line node_below
view_hidden F d None s l kids rest h = view_tree F d None s l kids rest
view_hidden F d (Some i) s l kids rest h =
    rw (view_tree F d (Some i) s l kids rest, line_repeat F d i s (s + l) h, below_repeat F d i h)

-- the groups side by side are the siblings
module _ (t : SetType) (m : ℕ) where
  groups_step : (cur : Trees) (n : ℕ) (c rest : Trees) (w : ℕ) (x : Bool)
      → each (λ g. g) (groups_from t m (cur ⊕ c) (n + w) rest) ≡ (cur ⊕ c) ⊕ rest
      → each (λ g. g) (groups_from t m c w rest) ≡ c ⊕ rest
      → each (λ g. g) (elim x [ true ↦ groups_from t m (cur ⊕ c) (n + w) rest | false ↦ cur ∷ groups_from t m c w rest ]) ≡ cur ⊕ (c ⊕ rest)
  unfolding each
  groups_step cur n c rest w true grow new = grow ∙ ⊕-assoc cur c rest
  groups_step cur n c rest w false grow new = ap (λ ts. cur ⊕ ts) new

  each_groups_from : (cur : Trees) (n : ℕ) (ts : Trees) → each (λ g. g) (groups_from t m cur n ts) ≡ cur ⊕ ts
  unfolding each groups_from ◌⊕◌
  each_groups_from cur n nil = refl
  each_groups_from cur n (tree u s l kids rest) =
      let c = tree u s l kids nil in
      let w = total t c in
      groups_step cur n c rest w (grows n w m) (each_groups_from (cur ⊕ c) (n + w) rest) (each_groups_from c w rest)
  each_groups_from cur n (part s l ws rest) =
      let c = part s l ws nil in
      groups_step cur n c rest 1 (grows n 1 m) (each_groups_from (cur ⊕ c) (n + 1) rest) (each_groups_from c 1 rest)

  pub each_groups : (ts : Trees) → each (λ g. g) (groups t m ts) ≡ ts
  unfolding each groups ◌⊕◌
  each_groups nil = refl
  each_groups (tree u s l kids rest) = let c = tree u s l kids nil in each_groups_from c (total t c) rest
  each_groups (part s l ws rest) = each_groups_from (part s l ws nil) 1 rest

-- a type that equals a hidden one is hidden
pub same_hidden : (F : ℕ) (t u : Option ℕ) → T (equal_types t u) → Hidden F t → Hidden F u
unfolding equal_types
same_hidden F None None e h = tt
same_hidden F None (Some i) e h = absurd e
same_hidden F (Some r) None e h = absurd e
same_hidden F (Some r) (Some i) e h = rw (eqb→eq r i e) at h

-- types that compare equal are the same
pub equal_is : (t u : Option ℕ) → T (equal_types t u) → t ≡ u
unfolding equal_types
equal_is None None e = refl
equal_is None (Some i) e = absurd e
equal_is (Some r) None e = absurd e
equal_is (Some r) (Some i) e = ap Some (eqb→eq r i e)

-- a type goes into balanced sizes only as what it counts as
module _ (f : Bool) (t u : Option ℕ) (e : type_under f t ≡ type_under f u) where
  pub all_of_counted : (ts : Trees) → all_of (in_set f t) ts ≡ all_of (in_set f u) ts
  unfolding all_of
  all_of_counted nil = refl
  all_of_counted (tree v s l kids rest) = rw (e, all_of_counted rest)
  all_of_counted (part s l ws rest) = refl

  pub total_counted : (ts : Trees) → total (in_set f t) ts ≡ total (in_set f u) ts
  unfolding total
  total_counted nil = refl
  total_counted (tree v s l kids rest) =
      let same = ap₂ ◌&&◌ (ap (λ (x : Option ℕ). equal_types x (type_under f v)) e) (all_of_counted kids) in
      ap₂ ◌+◌ (ap₂ (λ (x : Bool) (n : ℕ). elim x [ true ↦ suc n | false ↦ 1 ]) same (total_counted kids)) (total_counted rest)
  total_counted (part s l ws rest) = ap suc (total_counted rest)

one_pos : (x : Bool) (k r : ℕ) → 1 ≤ elim x [ true ↦ suc k | false ↦ 1 ] + r
one_pos true k r = omega arith
one_pos false k r = omega arith

one_big : (x y : Bool) (k : ℕ) → 1 < elim (x && y) [ true ↦ suc k | false ↦ 1 ] + 0 → T x
one_big true y k h = tt
one_big false y k h = absurd (omega arith)

pub total_pos_tree : (t : SetType) (u : Option ℕ) (s l : ℕ) (kids rest : Trees) → 1 ≤ total t (tree u s l kids rest)
unfolding total
total_pos_tree t u s l kids rest = one_pos (same_type t u && all_of t kids) (total t kids) (total t rest)

pub total_pos_part : (t : SetType) (s l : ℕ) (ws : List ℕ) (rest : Trees) → 1 ≤ total t (part s l ws rest)
unfolding total
total_pos_part t s l ws rest = omega arith

pub total_part : (t : SetType) (s l : ℕ) (ws : List ℕ) → total t (part s l ws nil) ≡ 1
unfolding total
total_part t s l ws = refl

-- a lone tree of a size above 1 is of the balance type
big_same : (t : SetType) (u : Option ℕ) (s l : ℕ) (kids : Trees) → 1 < total t (tree u s l kids nil) → T (same_type t u)
unfolding total
big_same t u s l kids h = one_big (same_type t u) (all_of t kids) (total t kids) h

pub share_pos : (n : ℕ) → 1 ≤ n → 1 ≤ share n
unfolding share
share_pos n h = omega arith

equal_refl : (t : Option ℕ) → T (equal_types t t)
unfolding equal_types
equal_refl None = tt
equal_refl (Some i) = eqb_refl i

pub same_refl : (t : SetType) → T (same_type t t.type)
same_refl t = equal_refl (type_under t.none_first t.type)

-- Whatever is read off siblings one after the other, and passes through trees of the balance type t, is kept.
module _ (off : Trees → List ℕ) (off_nil : off nil ≡ []) (off-⊕ : (ts us : Trees) → off (ts ⊕ us) ≡ off ts ++ off us) (t : SetType)
    (off-open : (u : Option ℕ) (s l : ℕ) (kids rest : Trees) → T (same_type t u) → off (tree u s l kids rest) ≡ off kids ++ off rest) where
  kept_each : (f : Trees → Trees) (gs : List Trees) → ((g : Trees) → off (f g) ≡ off g) → off (each f gs) ≡ off (each (λ g. g) gs)
  unfolding each
  kept_each f [] h = refl
  kept_each f (g ∷ gs) h = rw (off-⊕ (f g) (each f gs), h g, kept_each f gs h, off-⊕ g (each (λ x. x) gs))

  kept_joined : (s l : ℕ) (kids : Trees) → off (joined t s l kids) ≡ off kids
  unfolding joined
  kept_joined s l kids = go (is_tree t s l kids)
    where
      go : (x : Bool) → off (elim x [ true ↦ kids | false ↦ tree t.type s l kids nil ]) ≡ off kids
      go true = refl
      go false = rw (off-open t.type s l kids nil (same_refl t), off_nil) (append-nil (off kids))

  module _ (again : ℕ → Trees → Trees) (keeps : (m : ℕ) (ts : Trees) → 1 ≤ m → off (again m ts) ≡ off ts) where
    kept_several : (g : Trees) (s l : ℕ) → 1 ≤ total t g → off (joined t s l (again (share (total t g)) g)) ≡ off g
    kept_several g s l h = kept_joined s l (again (share (total t g)) g) ∙ keeps (share (total t g)) g (share_pos (total t g) h)

    kept_placed : (m : ℕ) → 1 ≤ m → (g : Trees) → off (placed again t m g) ≡ off g
    unfolding placed lone kids_of
    kept_placed m h nil = go (ltb m (total t nil))
      where
        go : (x : Bool) → off (elim x [ true ↦ again m nil | false ↦ nil ]) ≡ off nil
        go true = keeps m nil h
        go false = refl
    kept_placed m h (tree u s l kids nil) = go (ltb m (total t (tree u s l kids nil))) refl
      where
        go : (x : Bool) → ltb m (total t (tree u s l kids nil)) ≡ x → off (elim x [ true ↦ again m kids | false ↦ tree u s l kids nil ]) ≡ off (tree u s l kids nil)
        go true e =
            let big : T (ltb m (total t (tree u s l kids nil))) = rw e tt in
            let same = big_same t u s l kids (omega (arith, ltb→lt)) in
            rw (keeps m kids h, off-open u s l kids nil same, off_nil) (sym (append-nil (off kids)))
        go false e = refl
    kept_placed m h (part s l ws nil) = go (ltb m (total t (part s l ws nil))) refl
      where
        go : (x : Bool) → ltb m (total t (part s l ws nil)) ≡ x → off (elim x [ true ↦ again m nil | false ↦ part s l ws nil ]) ≡ off (part s l ws nil)
        go true e =
            let big : T (ltb m (total t (part s l ws nil))) = rw e tt in
            absurd (omega (arith, ltb→lt, total_part t s l ws))
        go false e = refl
    kept_placed m h (tree u s l kids (tree u' s' l' kids' rest)) = kept_several _ _ _ (total_pos_tree t u s l kids _)
    kept_placed m h (tree u s l kids (part s' l' ws' rest)) = kept_several _ _ _ (total_pos_tree t u s l kids _)
    kept_placed m h (part s l ws (tree u' s' l' kids' rest)) = kept_several _ _ _ (total_pos_part t s l ws _)
    kept_placed m h (part s l ws (part s' l' ws' rest)) = kept_several _ _ _ (total_pos_part t s l ws _)

  kept_divide : (n m : ℕ) (ts : Trees) → 1 ≤ m → off (divide n t m ts) ≡ off ts
  unfolding divide
  kept_divide zero m ts h = refl
  kept_divide (suc n) m ts h =
      let again : ℕ → Trees → Trees = λ m' ts'. divide n t m' ts' in
      kept_each (placed again t m) (groups t m ts) (kept_placed again (λ m' ts' h'. kept_divide n m' ts' h') m h) ∙ ap off (each_groups t m ts)

  -- siblings divided under their own share
  pub kept_divided : (n : ℕ) (ts : Trees) → off (divide (suc n) t (share (total t ts)) ts) ≡ off ts
  unfolding divide groups each
  kept_divided n nil = refl
  kept_divided n (tree u s l kids rest) = kept_divide (suc n) (share (total t (tree u s l kids rest))) (tree u s l kids rest) (share_pos _ (total_pos_tree t u s l kids rest))
  kept_divided n (part s l ws rest) = kept_divide (suc n) (share (total t (part s l ws rest))) (part s l ws rest) (share_pos _ (total_pos_part t s l ws rest))

  pub kept_balance : (s l : ℕ) (ts : Trees) → off (balance t t s l ts) ≡ off ts
  unfolding balance
  kept_balance s l ts = kept_joined s l (divide (suc (total t ts)) t (share (total t ts)) ts) ∙ kept_divided (total t ts) ts

-- so the listing is, where the balance type is not listed itself
pub view_balance : (F d : ℕ) (t : Option ℕ) → Hidden F t → (s l : ℕ) (ts : Trees) → view F d (balance (in_set false t) (in_set false t) s l ts) ≡ view F d ts
view_balance F d t hidden s l ts =
    kept_balance (view F d) (view_nil F d) (view-⊕ F d) (in_set false t) (λ u s' l' kids rest same. view_hidden F d u s' l' kids rest (same_hidden F t u same hidden)) s l ts

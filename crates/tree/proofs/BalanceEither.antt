-- Balancing is the same on either set, with none in place 0 or without, where no tree is of kind 3: of two ids both sets
-- say the same. By induction on the fuel. Assumes nothing.
use mathlib.Core.Path.{◌≡◌, refl, sym, ap, ap₂, ◌∙◌}
use mathlib.Core.Bool.{Bool, true, false, ◌&&◌}
use mathlib.Core.List.{List, [], ◌∷◌, ◌++◌, append_assoc, append-eq-nil_iff, cons≢nil}
use Rattle.std.specs.Prelude.{Option, None, Some}
use Prim.Native.Nat.{ℕ, zero, suc, ◌+◌, ◌-◌}
use lib.Dec.{T, ltb, eqb-zero-suc, eqb-suc-zero}
use Rattle.tree.specs.Trees.{Trees, nil, tree, part, ◌⊕◌, kids_of, first_start, last_end}
use Rattle.tree.specs.Balance.{SetType, in_set, equal_types, same_type, all_of, total, share, grows, groups_from, groups, lone, is_tree, joined, placed, each, divide, balance}
use Rattle.tree.proofs.BalanceLaws.{each_groups, kept_divided, kept_balance}

-- the starts of the trees of `NodeType::none` among siblings and their descendants, in order; parts hold none
unfoldable pub nones : Trees → List ℕ
nones nil = []
nones (tree None s l kids rest) = s ∷ (nones kids ++ nones rest)
nones (tree (Some i) s l kids rest) = nones kids ++ nones rest
nones (part s l ws rest) = nones rest

-- trees without kind 3
abbrev pub Free : Trees → Type 0
Free ts = nones ts ≡ []

pub nones-⊕ : (ts us : Trees) → nones (ts ⊕ us) ≡ nones ts ++ nones us
unfolding nones ◌⊕◌
nones-⊕ nil us = refl
nones-⊕ (tree None s l kids rest) us = simp (nones-⊕ rest us, append_assoc)
nones-⊕ (tree (Some i) s l kids rest) us = simp (nones-⊕ rest us, append_assoc)
nones-⊕ (part s l ws rest) us = nones-⊕ rest us

pub free_nil : Free nil
unfolding nones
free_nil = refl

pub free-⊕ : (ts us : Trees) → Free ts → Free us → Free (ts ⊕ us)
free-⊕ ts us a b = nones-⊕ ts us ∙ append-eq-nil_iff.1 (a, b)

free_split : (ts us : Trees) → Free (ts ⊕ us) → Free ts × Free us
free_split ts us h = append-eq-nil_iff.0 (sym (nones-⊕ ts us) ∙ h)

pub free_tree : (i s l : ℕ) (kids rest : Trees) → Free kids → Free rest → Free (tree (Some i) s l kids rest)
unfolding nones
free_tree i s l kids rest a b = append-eq-nil_iff.1 (a, b)

pub free_part : (s l : ℕ) (ws : List ℕ) (rest : Trees) → Free rest → Free (part s l ws rest)
unfolding nones
free_part s l ws rest h = h

-- a tree without kind 3 has an id, and so have all below it and behind it
free_none : (s l : ℕ) (kids rest : Trees) → Free (tree None s l kids rest) → ⊥
unfolding nones
free_none s l kids rest h = cons≢nil h

free_behind : (s l : ℕ) (ws : List ℕ) (rest : Trees) → Free (part s l ws rest) → Free rest
unfolding nones
free_behind s l ws rest h = h

free_some : (j s l : ℕ) (kids rest : Trees) → Free (tree (Some j) s l kids rest) → Free kids × Free rest
unfolding nones
free_some j s l kids rest h = append-eq-nil_iff.0 h

free_kids : (ts : Trees) → Free ts → Free (kids_of ts)
unfolding kids_of
free_kids nil h = h
free_kids (tree None s l kids rest) h = absurd (free_none s l kids rest h)
free_kids (tree (Some j) s l kids rest) h = (free_some j s l kids rest h).0
free_kids (part s l ws rest) h = free_nil

-- dividing and balancing by an id, under a set without none, make no tree of kind 3
module _ (i : ℕ) where
  through : (v : Option ℕ) (s l : ℕ) (kids rest : Trees) → T (same_type (in_set false (Some i)) v) → nones (tree v s l kids rest) ≡ nones kids ++ nones rest
  unfolding nones equal_types
  through None s l kids rest h = absurd h
  through (Some j) s l kids rest h = refl

  free_divide : (n : ℕ) (ts : Trees) → Free ts → Free (divide n (in_set false (Some i)) (share (total (in_set false (Some i)) ts)) ts)
  unfolding nones divide
  free_divide zero ts h = h
  free_divide (suc n) ts h = kept_divided nones refl nones-⊕ (in_set false (Some i)) through n ts ∙ h

  pub free_balance : (s l : ℕ) (ts : Trees) → Free ts → Free (balance (in_set false (Some i)) (in_set false (Some i)) s l ts)
  unfolding nones
  free_balance s l ts h = kept_balance nones refl nones-⊕ (in_set false (Some i)) through s l ts ∙ h

-- of two ids both sets say the same
same_either : (none_first : Bool) (i j : ℕ) → same_type (in_set none_first (Some i)) (Some j) ≡ same_type (in_set false (Some i)) (Some j)
unfolding equal_types
same_either false i j = refl
same_either true zero zero = refl
same_either true zero (suc j) = sym (eqb-zero-suc j)
same_either true (suc i) zero = sym (eqb-suc-zero i)
same_either true (suc i) (suc j) = refl

module _ (none_first : Bool) (i : ℕ) where
  -- the balance type under the set at hand, and under the one without none
  abbrev t : SetType
  t = in_set none_first (Some i)

  abbrev u : SetType
  u = in_set false (Some i)

  all_either : (ts : Trees) → Free ts → all_of t ts ≡ all_of u ts
  unfolding all_of
  all_either nil h = refl
  all_either (tree None s l kids rest) h = absurd (free_none s l kids rest h)
  all_either (tree (Some j) s l kids rest) h = ap₂ ◌&&◌ (same_either none_first i j) (all_either rest (free_some j s l kids rest h).1)
  all_either (part s l ws rest) h = refl

  total_either : (ts : Trees) → Free ts → total t ts ≡ total u ts
  unfolding total
  total_either nil h = refl
  total_either (tree None s l kids rest) h = absurd (free_none s l kids rest h)
  total_either (tree (Some j) s l kids rest) h =
      let (a, b) = free_some j s l kids rest h in
      rw (same_either none_first i j, all_either kids a) (go (same_type u (Some j) && all_of u kids) (total_either kids a) (total_either rest b))
    where
      go : (x : Bool) → total t kids ≡ total u kids → total t rest ≡ total u rest
          → elim x [ true ↦ suc (total t kids) | false ↦ 1 ] + total t rest ≡ elim x [ true ↦ suc (total u kids) | false ↦ 1 ] + total u rest
      go true a b = ap₂ (λ (n k : ℕ). suc n + k) a b
      go false a b = ap (λ (k : ℕ). 1 + k) b
  total_either (part s l ws rest) h = ap suc (total_either rest (free_behind s l ws rest h))

  -- one more sibling c, of the size w, which is the size v under the set without none
  groups_step : (m : ℕ) (cur : Trees) (n : ℕ) (c rest : Trees) (w v : ℕ) → w ≡ v
      → ((cur' : Trees) (k : ℕ) → groups_from t m cur' k rest ≡ groups_from u m cur' k rest)
      → ◌≡◌ {A = List Trees} (elim (grows n w m) [ true ↦ groups_from t m (cur ⊕ c) (n + w) rest | false ↦ cur ∷ groups_from t m c w rest ])
      (elim (grows n v m) [ true ↦ groups_from u m (cur ⊕ c) (n + v) rest | false ↦ cur ∷ groups_from u m c v rest ])
  groups_step m cur n c rest w v e h =
      ap (λ (k : ℕ). elim (grows n k m) as (λ y. List Trees) [ true ↦ groups_from t m (cur ⊕ c) (n + k) rest | false ↦ cur ∷ groups_from t m c k rest ]) e
      ∙ go (grows n v m)
    where
      go : (x : Bool) → ◌≡◌ {A = List Trees} (elim x [ true ↦ groups_from t m (cur ⊕ c) (n + v) rest | false ↦ cur ∷ groups_from t m c v rest ])
          (elim x [ true ↦ groups_from u m (cur ⊕ c) (n + v) rest | false ↦ cur ∷ groups_from u m c v rest ])
      go true = h (cur ⊕ c) (n + v)
      go false = ap (λ gs. cur ∷ gs) (h c v)

  groups_from_either : (m : ℕ) (cur : Trees) (n : ℕ) (ts : Trees) → Free ts → groups_from t m cur n ts ≡ groups_from u m cur n ts
  unfolding groups_from
  groups_from_either m cur n nil h = refl
  groups_from_either m cur n (tree None s l kids rest) h = absurd (free_none s l kids rest h)
  groups_from_either m cur n (tree (Some j) s l kids rest) h =
      let (a, b) = free_some j s l kids rest h in
      let c = tree (Some j) s l kids nil in
      let e = total_either c (free_tree j s l kids nil a free_nil) in
      groups_step m cur n c rest (total t c) (total u c) e (λ cur' k. groups_from_either m cur' k rest b)
  groups_from_either m cur n (part s l ws rest) h =
      groups_step m cur n (part s l ws nil) rest 1 1 refl (λ cur' k. groups_from_either m cur' k rest (free_behind s l ws rest h))

  groups_either : (m : ℕ) (ts : Trees) → Free ts → groups t m ts ≡ groups u m ts
  unfolding groups
  groups_either m nil h = refl
  groups_either m (tree None s l kids rest) h = absurd (free_none s l kids rest h)
  groups_either m (tree (Some j) s l kids rest) h =
      let (a, b) = free_some j s l kids rest h in
      let c = tree (Some j) s l kids nil in
      rw (total_either c (free_tree j s l kids nil a free_nil)) (groups_from_either m c (total u c) rest b)
  groups_either m (part s l ws rest) h = groups_from_either m (part s l ws nil) 1 rest (free_behind s l ws rest h)

  is_tree_either : (s l : ℕ) (ts : Trees) → Free ts → is_tree t s l ts ≡ is_tree u s l ts
  unfolding is_tree
  is_tree_either s l nil h = refl
  is_tree_either s l (tree None s' l' kids rest) h = absurd (free_none s' l' kids rest h)
  is_tree_either s l (tree (Some j) s' l' kids rest) h = rw (same_either none_first i j)
  is_tree_either s l (part s' l' ws rest) h = refl

  joined_either : (s l : ℕ) (kids : Trees) → Free kids → joined t s l kids ≡ joined u s l kids
  unfolding joined
  joined_either s l kids h = rw (is_tree_either s l kids h, joined)

  each_either : (f f' : Trees → Trees) (gs : List Trees) → Free (each (λ g. g) gs) → ((g : Trees) → Free g → f g ≡ f' g) → each f gs ≡ each f' gs
  unfolding each
  each_either f f' [] h e = refl
  each_either f f' (g ∷ gs) h e =
      let (a, b) = free_split g (each (λ x. x) gs) h in
      ap₂ ◌⊕◌ (e g a) (each_either f f' gs b e)

  -- what a group becomes, where siblings divided in turn are the same
  placed_either : (again again' : ℕ → Trees → Trees) → ((m : ℕ) (ts : Trees) → Free ts → again m ts ≡ again' m ts)
      → ((ts : Trees) → Free ts → Free (again' (share (total u ts)) ts))
      → (m : ℕ) (g : Trees) → Free g → placed again t m g ≡ placed again' u m g
  unfolding placed
  placed_either again again' e free m g h =
      ap (λ (k : ℕ). elim (lone g) as (λ y. Trees) [ true ↦ elim (ltb m k) as (λ y. Trees) [ true ↦ again m (kids_of g) | false ↦ g ] | false ↦ joined t s l (again (share k) g) ]) (total_either g h)
      ∙ go (lone g) (ltb m (total u g))
    where
      s : ℕ
      s = first_start g

      l : ℕ
      l = last_end 0 g - first_start g

      n : ℕ
      n = share (total u g)

      go : (x y : Bool)
          → ◌≡◌ {A = Trees} (elim x [ true ↦ elim y [ true ↦ again m (kids_of g) | false ↦ g ] | false ↦ joined t s l (again n g) ])
          (elim x [ true ↦ elim y [ true ↦ again' m (kids_of g) | false ↦ g ] | false ↦ joined u s l (again' n g) ])
      go true true = e m (kids_of g) (free_kids g h)
      go true false = refl
      go false y = ap (joined t s l) (e n g h) ∙ joined_either s l (again' n g) (free g h)

  divide_either : (n m : ℕ) (ts : Trees) → Free ts → divide n t m ts ≡ divide n u m ts
  unfolding divide
  divide_either zero m ts h = refl
  divide_either (suc n) m ts h =
      let again : ℕ → Trees → Trees = λ m' ts'. divide n t m' ts' in
      let again' : ℕ → Trees → Trees = λ m' ts'. divide n u m' ts' in
      rw (groups_either m ts h)
      (each_either (placed again t m) (placed again' u m) (groups u m ts) (ap nones (each_groups u m ts) ∙ h)
      (placed_either again again' (λ m' ts' h'. divide_either n m' ts' h') (λ ts' h'. free_divide i n ts' h') m))

-- a tree over trees without kind 3 is balanced alike on either set
pub balance_either : (none_first : Bool) (i s l : ℕ) (ts : Trees) → nones ts ≡ []
    → balance (in_set none_first (Some i)) (in_set none_first (Some i)) s l ts ≡ balance (in_set false (Some i)) (in_set false (Some i)) s l ts
unfolding balance
balance_either none_first i s l ts h =
    let n = total (in_set false (Some i)) ts in
    rw (total_either none_first i ts h, divide_either none_first i (suc n) (share n) ts h) (joined_either none_first i s l _ (free_divide i (suc n) ts h))

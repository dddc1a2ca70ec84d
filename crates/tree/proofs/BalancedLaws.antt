-- `Tree::balance` on either set: up to 8 children are untouched; else the top stays and its children are divided. Packed words and the
-- cell rules stay; what stays of a listing is in BalanceLists. Nine or more children never end as one, so the top is never taken away.
-- Assumes nothing.
use mathlib.Core.Path.{◌≡◌, refl, sym, ap, subst, ◌∙◌}
use mathlib.Core.Bool.{Bool, true, false, ◌&&◌}
use mathlib.Core.List.{List, [], ◌∷◌, ◌++◌, append-nil}
use Rattle.std.specs.Prelude.{Option, None, Some}
use Prim.Native.Nat.{ℕ, zero, suc, ◌+◌, ◌-◌, ◌*◌, ◌≤◌, ◌<◌}
use native.Mathlib.Decide.{dec_le}
use native.Mathlib.Omega.{arith}
use native.Mathlib.Nat.{le_refl}
use lib.Dec.{T as So, ltb, leb, ltb→lt}
use lib.ListN.{length}
use borrow.Author.Tests.{le-leb, lt-leb}
use Rattle.tree.specs.Trees.{Trees, nil, tree, part, ◌⊕◌, nodes, siblings, kids_of, first_start, last_end}
use Rattle.tree.specs.Balance.{SetType, in_set, type_under, same_type, all_of, total, share, groups, lone, is_tree, joined, placed, each, divide, balance, balanced}
use Rattle.tree.specs.Cells.{relative, packed, cells, tree_cells}
use Rattle.tree.specs.Calls.{written, balance_cells}
use Rattle.tree.proofs.BalanceLaws.{equal_is, kept_divided, share_pos}
use Rattle.tree.proofs.FuelLaws.{Group, Groups, groups_small, total_kids, several_pos, share-≤}
use Rattle.tree.proofs.SizeLaws.{two_groups, some_group, size, one, size_one, size_divide}
use Rattle.tree.proofs.WordLaws.{packed-⊕}
use Rattle.tree.proofs.WellLaws.{well_divide}
use Rattle.tree.proofs.KeptLaws.{Kept, kept_read}
use Rattle.tree.specs.Well.{Parts, Sound}

-- some siblings stay some siblings
siblings-⊕ : (ts us : Trees) → siblings (ts ⊕ us) ≡ siblings ts + siblings us
unfolding siblings ◌⊕◌
siblings-⊕ nil us = omega arith
siblings-⊕ (tree t s l kids rest) us = omega (arith, siblings-⊕ rest us)
siblings-⊕ (part s l ws rest) us = omega (arith, siblings-⊕ rest us)

module _ (t : SetType) where
  some_siblings : (ts : Trees) → 1 ≤ total t ts → 1 ≤ siblings ts
  unfolding total siblings
  some_siblings nil h = absurd (omega arith)
  some_siblings (tree u s l kids rest) h = omega arith
  some_siblings (part s l ws rest) h = omega arith

  each_siblings : (m n : ℕ) (f : Trees → Trees) (gs : List Trees) → Groups t m n gs → ((g : Trees) → Group t m n g → 1 ≤ siblings (f g)) → length gs ≤ siblings (each f gs)
  unfolding each siblings
  each_siblings m n f [] a h = omega arith
  each_siblings m n f (g ∷ gs) a h = omega (arith, siblings-⊕ (f g) (each f gs), h g a.0, each_siblings m n f gs a.1 h)

  some_joined : (s l : ℕ) (kids : Trees) → 1 ≤ siblings kids → 1 ≤ siblings (joined t s l kids)
  unfolding joined siblings
  some_joined s l kids h = go (is_tree t s l kids)
    where
      go : (x : Bool) → 1 ≤ siblings (elim x [ true ↦ kids | false ↦ tree t.type s l kids nil ])
      go true = h
      go false = omega arith

  some_placed : (again : ℕ → Trees → Trees) → ((m : ℕ) (ts : Trees) → 1 ≤ m → 1 ≤ total t ts → 1 ≤ siblings (again m ts))
      → (m n : ℕ) → 1 ≤ m → (g : Trees) → Group t m n g → 1 ≤ siblings (placed again t m g)
  unfolding placed
  some_placed again h m n pos g a = go (lone g) refl (ltb m (total t g)) refl
    where
      go : (x : Bool) → lone g ≡ x → (y : Bool) → ltb m (total t g) ≡ y
          → 1 ≤ siblings (elim x [ true ↦ elim y [ true ↦ again m (kids_of g) | false ↦ g ] | false ↦ joined t (first_start g) (last_end 0 g - first_start g) (again (share (total t g)) g) ])
      go true o true q =
          let big = ltb→lt m (total t g) (subst So (sym q) tt) in
          h m (kids_of g) pos (omega (arith, total_kids t g (omega arith) o))
      go true o false q = some_siblings g a.filled
      go false o y q = some_joined (first_start g) (last_end 0 g - first_start g) (again (share (total t g)) g) (h (share (total t g)) g (share_pos (total t g) a.filled) a.filled)

  -- dividing gives a sibling or more for each group
  some_each : (again : ℕ → Trees → Trees) → ((m : ℕ) (ts : Trees) → 1 ≤ m → 1 ≤ total t ts → 1 ≤ siblings (again m ts))
      → (m : ℕ) (ts : Trees) → 1 ≤ m → length (groups t m ts) ≤ siblings (each (placed again t m) (groups t m ts))
  some_each again h m ts pos =
      each_siblings m (total t ts) (placed again t m) (groups t m ts) (groups_small t m ts) (some_placed again h m (total t ts) pos)

  some_divided : (n m : ℕ) (ts : Trees) → 1 ≤ m → 1 ≤ total t ts → 1 ≤ siblings (divide n t m ts)
  unfolding divide
  some_divided zero m ts pos h = some_siblings ts h
  some_divided (suc n) m ts pos h =
      let again : ℕ → Trees → Trees = λ m' ts'. divide n t m' ts' in
      omega (arith, some_group t m ts h, some_each again (λ m' ts' p q. some_divided n m' ts' p q) m ts pos)

  several_divided : (n : ℕ) (ts : Trees) → lone ts ≡ false → 2 ≤ siblings (divide (suc n) t (share (total t ts)) ts)
  unfolding divide
  several_divided n ts o =
      let again : ℕ → Trees → Trees = λ m' ts'. divide n t m' ts' in
      omega (
        arith,
        two_groups t ts o,
        some_each again (λ m' ts' p q. some_divided n m' ts' p q) (share (total t ts)) ts (share_pos (total t ts) (several_pos t ts o)),
      )

-- two siblings are not one tree alone
several : (ts : Trees) → 2 ≤ siblings ts → lone ts ≡ false
unfolding lone siblings
several nil h = absurd (omega arith)
several (tree u s l kids nil) h = absurd (omega arith)
several (tree u s l kids (tree u' s' l' kids' rest)) h = refl
several (tree u s l kids (part s' l' ws' rest)) h = refl
several (part s l ws nil) h = absurd (omega arith)
several (part s l ws (tree u' s' l' kids' rest)) h = refl
several (part s l ws (part s' l' ws' rest)) h = refl

not_alone : (t : SetType) (s l : ℕ) (ts : Trees) → lone ts ≡ false → is_tree t s l ts ≡ false
unfolding is_tree
not_alone t s l nil o = refl
not_alone t s l (tree u s' l' kids rest) o = rw o
not_alone t s l (part s' l' ws rest) o = refl

joined_several : (t : SetType) (s l : ℕ) (ts : Trees) → lone ts ≡ false → joined t s l ts ≡ tree t.type s l ts nil
unfolding joined
joined_several t s l ts o = rw (not_alone t s l ts o, joined)

-- no balanced size is above the number of cells
pub total_nodes : (t : SetType) (ts : Trees) → total t ts ≤ nodes ts
unfolding total nodes
total_nodes t nil = le_refl 0
total_nodes t (tree u s l kids rest) = go (same_type t u && all_of t kids) (total_nodes t kids) (total_nodes t rest)
  where
    go : (x : Bool) → total t kids ≤ nodes kids → total t rest ≤ nodes rest → elim x [ true ↦ suc (total t kids) | false ↦ 1 ] + total t rest ≤ suc (nodes kids + nodes rest)
    go true h h' = omega arith
    go false h h' = omega arith
total_nodes t (part s l ws rest) = omega (arith, total_nodes t rest)

-- a type that counts as none
counts_none : (f : Bool) (u : Option ℕ) → So (same_type (in_set f None) u) → type_under f u ≡ None
counts_none false u e = sym (equal_is None u e)
counts_none true u e = sym (equal_is None (type_under true u) e)

module _ (f : Bool) where
  -- the balance type
  abbrev t : SetType
  t = in_set f None

  -- the children of a balanced tree that has more than 8
  unfoldable pub divided : Trees → Trees
  divided kids = divide (suc (total t kids)) t (share (total t kids)) kids

  pub untouched : (top : Option ℕ) (s l : ℕ) (kids rest : Trees) → siblings kids ≤ 8 → balanced f (tree top s l kids rest) ≡ tree top s l kids rest
  unfolding balanced
  untouched top s l kids rest h = rw (le-leb (siblings kids) 8 h, balanced)

  pub wide : (top : Option ℕ) (s l : ℕ) (kids rest : Trees) → 8 < siblings kids → balanced f (tree top s l kids rest) ≡ tree top s l (divided kids) rest
  unfolding balanced balance divided ◌⊕◌
  wide top s l kids rest h =
      let two = several_divided t (total t kids) kids (several kids (omega arith)) in
      rw (lt-leb (siblings kids) 8 h, balanced)
      (ap (λ (u : Trees). u ⊕ rest) (joined_several (in_set f top) s l (divide (suc (total t kids)) t (share (total t kids)) kids) (several _ two)))

  -- the children of a balanced tree
  unfoldable pub rebuilt : Trees → Trees
  rebuilt kids = elim (leb (siblings kids) 8) [ true ↦ kids | false ↦ divided kids ]

  -- the top stays
  pub balanced_is : (top : Option ℕ) (s l : ℕ) (kids rest : Trees) → balanced f (tree top s l kids rest) ≡ tree top s l (rebuilt kids) rest
  unfolding rebuilt
  balanced_is top s l kids rest = go (dec_le (siblings kids) 8)
    where
      go : Dec (siblings kids ≤ 8) → balanced f (tree top s l kids rest) ≡ tree top s l (elim (leb (siblings kids) 8) [ true ↦ kids | false ↦ divided kids ]) rest
      go (yes h) = untouched top s l kids rest h ∙ rw (le-leb (siblings kids) 8 h)
      go (no h) = wide top s l kids rest (omega arith) ∙ rw (lt-leb (siblings kids) 8 (omega arith))

  size_divided : (kids : Trees) → 1 ≤ total t kids → size one (divided kids) ≤ size one kids + total t kids
  unfolding divided
  size_divided kids pos =
      let n = total t kids in
      omega (arith, size_divide one t (suc n) (share n) kids (share_pos n pos) (share-≤ n) (le_refl (suc n)))

  -- Whatever is read off siblings one after the other and passes through trees that count as `NodeType::none` is kept.
  module _ (off : Trees → List ℕ) (off_nil : off nil ≡ []) (off-⊕ : (ts us : Trees) → off (ts ⊕ us) ≡ off ts ++ off us)
      (off-none : (u : Option ℕ) (s l : ℕ) (kids rest : Trees) → type_under f u ≡ None → off (tree u s l kids rest) ≡ off kids ++ off rest) where
    pub divided_keeps : (kids : Trees) → off (divided kids) ≡ off kids
    unfolding divided
    divided_keeps kids = kept_divided off off_nil off-⊕ t (λ u s l ks r e. off-none u s l ks r (counts_none f u e)) (total t kids) kids

    pub rebuilt_keeps : (kids : Trees) → off (rebuilt kids) ≡ off kids
    unfolding rebuilt
    rebuilt_keeps kids = go (leb (siblings kids) 8)
      where
        go : (x : Bool) → off (elim x [ true ↦ kids | false ↦ divided kids ]) ≡ off kids
        go true = refl
        go false = divided_keeps kids

  -- the packed words
  packed_rebuilt : (kids : Trees) → packed (rebuilt kids) ≡ packed kids
  unfolding packed
  packed_rebuilt kids = rebuilt_keeps packed refl packed-⊕ (λ u s l ks r e. refl) kids

  pub packed_balanced : (ts : Trees) → packed (balanced f ts) ≡ packed ts
  unfolding balanced packed
  packed_balanced nil = refl
  packed_balanced (part s l ws rest) = refl
  packed_balanced (tree top s l kids rest) = ap packed (balanced_is top s l kids rest) ∙ ap (λ ws. ws ++ packed rest) (packed_rebuilt kids)

  -- ids and ranges
  sound_rebuilt : (T lo hi : ℕ) (kids : Trees) → Sound T lo hi kids → Sound T lo hi (rebuilt kids)
  unfolding rebuilt divided
  sound_rebuilt T lo hi kids w = go (leb (siblings kids) 8)
    where
      go : (x : Bool) → Sound T lo hi (elim x [ true ↦ kids | false ↦ divide (suc (total t kids)) t (share (total t kids)) kids ])
      go true = w
      go false = well_divide T (Parts T) t tt (suc (total t kids)) (share (total t kids)) lo hi kids w

  -- balancing not quite doubles the cells
  pub few_balanced : (top : Option ℕ) (s l : ℕ) (kids : Trees) → nodes (balanced f (tree top s l kids nil)) ≤ 2 * nodes kids + 1
  unfolding nodes
  few_balanced top s l kids = go (dec_le (siblings kids) 8)
    where
      go : Dec (siblings kids ≤ 8) → nodes (balanced f (tree top s l kids nil)) ≤ 2 * nodes kids + 1
      go (yes h) = omega (arith, ap nodes (untouched top s l kids nil h))
      go (no h) =
          let pos = several_pos t kids (several kids (omega arith)) in
          omega (
            arith,
            ap nodes (wide top s l kids nil (omega arith)),
            size_one kids,
            size_one (divided kids),
            size_divided kids pos,
            total_nodes t kids,
          )

  -- On cells and words that keep the cell rules: what balancing writes keeps them.
  pub balance_keeps : (T hi : ℕ) (cs ws : List ℕ) → Kept T hi cs ws → Kept T hi (balance_cells f cs ws).cells (balance_cells f cs ws).words
  unfolding balance_cells written tree_cells packed
  balance_keeps T hi cs ws k =
      let same = ap (balanced f) (kept_read T hi cs ws k) ∙ balanced_is (Some k.top) 0 k.length k.kids nil in
      record {
        top = k.top;
        length = k.length;
        kids = rebuilt k.kids;
        known = k.known;
        sound = sound_rebuilt T 0 hi k.kids k.sound;
        cells_are = ap (λ (u : Trees). cells 1 0 (relative 0 u)) same;
        words_are = ap packed same ∙ append-nil (packed (rebuilt k.kids));
      }

  pub kids_rebuilt : (T hi : ℕ) (cs ws : List ℕ) (k : Kept T hi cs ws) → (balance_keeps T hi cs ws k).kids ≡ rebuilt k.kids
  unfolding balance_keeps
  kids_rebuilt T hi cs ws k = refl

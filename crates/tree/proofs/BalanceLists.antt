-- What balancing keeps of a listing. Without none in place 0 of the set it lists as before. With it a node of id 0 may go, and those
-- inside it then stand one level higher; with id 0 left out of lines and of depth, in parts too, the lines are the same for every F.
-- Assumes nothing.
use mathlib.Core.Path.{◌≡◌, refl, sym, ap, ap₂, subst, ◌∙◌}
use mathlib.Core.Bool.{Bool, true, false}
use mathlib.Core.List.{List, ◌++◌}
use Rattle.std.specs.Prelude.{Option, None, Some}
use Prim.Native.Nat.{ℕ, ◌+◌}
use lib.ListN.{length}
use Rattle.records.specs.Forest.{line, depth_below}
use Rattle.tree.specs.Trees.{Trees, nil, tree, part, ◌⊕◌, siblings, kids_of, first_start, last_end}
use Rattle.tree.specs.Materialise.{materialise}
use Rattle.tree.specs.Listing.{node_line, node_below, listing, lines}
use Rattle.tree.specs.Balance.{type_under, equal_types, all_of, total, share, grows, groups_from, groups, lone, is_tree, joined, placed, each, divide, balance, balanced}
use Rattle.tree.specs.Cells.{absolute, decode}
use Rattle.tree.specs.Calls.{balance_cells, list_cells}
use Rattle.tree.proofs.ListingLaws.{listing-⊕, materialise-⊕, view, view-⊕, view_nil, view_tree}
use Rattle.tree.proofs.BalanceLaws.{Hidden, view_hidden}
use Rattle.tree.proofs.CellLaws.{shift, shift-⊕, materialise_shift}
use Rattle.tree.proofs.KeptLaws.{Kept, kept_from}
use Rattle.tree.proofs.BalancedLaws.{balanced_is, rebuilt, rebuilt_keeps, balance_keeps, kids_rebuilt}

-- siblings with each type as it counts under a set: where place 0 of the set is none, id 0 is none
unfoldable pub as_counted : (none_first : Bool) → Trees → Trees
as_counted f nil = nil
as_counted f (tree t s l kids rest) = tree (type_under f t) s l (as_counted f kids) (as_counted f rest)
as_counted f (part s l ws rest) = part s l ws (as_counted f rest)

-- the lines of cells and packed words, with id 0 left out of lines and of depth where place 0 of the set is none
unfoldable pub list_counted : (none_first : Bool) (F S : ℕ) (cs ws : List ℕ) → List ℕ
list_counted f F S cs ws = lines F (as_counted f (materialise (absolute S (decode ws cs))))

-- without none in place 0 nothing is left out
as_it_is : (ts : Trees) → as_counted false ts ≡ ts
unfolding as_counted
as_it_is nil = refl
as_it_is (tree t s l kids rest) = ap₂ (tree t s l) (as_it_is kids) (as_it_is rest)
as_it_is (part s l ws rest) = ap (part s l ws) (as_it_is rest)

pub list_all : (F S : ℕ) (cs ws : List ℕ) → list_counted false F S cs ws ≡ list_cells F S cs ws
unfolding list_counted list_cells
list_all F S cs ws = ap (lines F) (as_it_is (materialise (absolute S (decode ws cs))))

module _ (f : Bool) where
  as-counted-⊕ : (ts us : Trees) → as_counted f (ts ⊕ us) ≡ as_counted f ts ⊕ as_counted f us
  unfolding as_counted ◌⊕◌
  as-counted-⊕ nil us = refl
  as-counted-⊕ (tree t s l kids rest) us = ap (tree (type_under f t) s l (as_counted f kids)) (as-counted-⊕ rest us)
  as-counted-⊕ (part s l ws rest) us = ap (part s l ws) (as-counted-⊕ rest us)

  -- what siblings come to once they are materialised, counted from S and listed without id 0
  seen : (F d S : ℕ) → Trees → List ℕ
  seen F d S ts = listing F d (as_counted f (shift S (materialise ts)))

  seen-⊕ : (F d S : ℕ) (ts us : Trees) → seen F d S (ts ⊕ us) ≡ seen F d S ts ++ seen F d S us
  unfolding seen
  seen-⊕ F d S ts us =
      ap (λ (v : Trees). listing F d (as_counted f (shift S v))) (materialise-⊕ ts us)
      ∙ (ap (λ (v : Trees). listing F d (as_counted f v)) (shift-⊕ S (materialise ts) (materialise us))
      ∙ (ap (listing F d) (as-counted-⊕ (shift S (materialise ts)) (shift S (materialise us)))
      ∙ listing-⊕ F d (as_counted f (shift S (materialise ts))) (as_counted f (shift S (materialise us)))))

  -- a tree that counts as none has no line, and its children keep their depth
  seen_none : (F d S : ℕ) (u : Option ℕ) (s l : ℕ) (kids rest : Trees) → type_under f u ≡ None
      → seen F d S (tree u s l kids rest) ≡ seen F d S kids ++ seen F d S rest
  unfolding seen materialise shift as_counted listing node_line node_below
  seen_none F d S u s l kids rest e = rw e

  seen_rebuilt : (F d S : ℕ) (kids : Trees) → seen F d S (rebuilt f kids) ≡ seen F d S kids
  unfolding seen materialise shift as_counted listing
  seen_rebuilt F d S kids = rebuilt_keeps f (seen F d S) refl (seen-⊕ F d S) (seen_none F d S) kids

  -- the lines of cells that keep the rules
  kept_seen : (T hi F S : ℕ) (cs ws : List ℕ) (k : Kept T hi cs ws) → list_counted f F S cs ws ≡ seen F 0 S k.kids
  unfolding list_counted lines kids_of seen as_counted shift materialise
  kept_seen T hi F S cs ws k =
      ap (λ (v : Trees). lines F (as_counted f (materialise v))) (kept_from T hi S cs ws k)
      ∙ ap (λ (v : Trees). listing F 0 (as_counted f v)) (materialise_shift S k.kids)

  -- On cells and words that keep the cell rules: with id 0 left out where place 0 of the set is none, the result lists as the tree.
  pub balance_lists_counted : (T hi : ℕ) (cs ws : List ℕ) → Kept T hi cs ws → (F S : ℕ)
      → list_counted f F S (balance_cells f cs ws).cells (balance_cells f cs ws).words ≡ list_counted f F S cs ws
  balance_lists_counted T hi cs ws k F S =
      kept_seen T hi F S (balance_cells f cs ws).cells (balance_cells f cs ws).words (balance_keeps f T hi cs ws k)
      ∙ (ap (seen F 0 S) (kids_rebuilt f T hi cs ws k) ∙ seen_rebuilt F 0 S k.kids ∙ sym (kept_seen T hi F S cs ws k))

-- On a set without none in place 0 balancing keeps the listing.
pub balance_lists : (T hi : ℕ) (cs ws : List ℕ) → Kept T hi cs ws → (F S : ℕ)
    → list_cells F S (balance_cells false cs ws).cells (balance_cells false cs ws).words ≡ list_cells F S cs ws
balance_lists T hi cs ws k F S =
    sym (list_all F S (balance_cells false cs ws).cells (balance_cells false cs ws).words)
    ∙ (balance_lists_counted false T hi cs ws k F S ∙ list_all F S cs ws)

-- So it is of trees as they stand: each ordinary node keeps its id, its range, its place in the order and its depth.
view_rebuilt : (F d : ℕ) (kids : Trees) → view F d (rebuilt false kids) ≡ view F d kids
view_rebuilt F d kids =
    rebuilt_keeps false (view F d) (view_nil F d) (view-⊕ F d) (λ u s l ks r e. view_hidden F d u s l ks r (subst (Hidden F) (sym e) tt)) kids

pub view_balanced : (F d : ℕ) (ts : Trees) → view F d (balanced false ts) ≡ view F d ts
unfolding balanced
view_balanced F d nil = refl
view_balanced F d (part s l ws rest) = refl
view_balanced F d (tree t s l kids rest) =
    ap (view F d) (balanced_is false t s l kids rest)
    ∙ (view_tree F d t s l (rebuilt false kids) rest
    ∙ (ap (λ ls. (node_line F d t s (s + l) ++ ls) ++ view F d rest) (view_rebuilt F (node_below F d t) kids) ∙ sym (view_tree F d t s l kids rest)))

-- A node of id 0 goes: a top with eight leaves of id 1 and a ninth child of id 0 that holds three leaves of kind 3. Where place 0 of the
-- set is none, the ninth counts as none and is divided in place.
unfoldable pub ninth : Trees
ninth = tree (Some 0) 8 3 (tree None 8 1 nil (tree None 9 1 nil (tree None 10 1 nil nil))) nil

abbrev leaf : ℕ → Trees → Trees
leaf s rest = tree (Some 1) s 1 nil rest

unfoldable pub nine : Trees
nine = tree (Some 1) 0 11 (leaf 0 (leaf 1 (leaf 2 (leaf 3 (leaf 4 (leaf 5 (leaf 6 (leaf 7 ninth)))))))) nil

-- nine lines before and on a set without none, eight on a set with it
pub one_goes : (length (lines 2 nine) ≡ 36) × (length (lines 2 (balanced false nine)) ≡ 36) × (length (lines 2 (balanced true nine)) ≡ 32)
unfolding nine ninth lines listing node_line node_below line depth_below ◌⊕◌ siblings kids_of first_start last_end equal_types all_of total share grows groups_from groups lone is_tree joined placed each divide balance balanced
one_goes = (refl, refl, refl)

-- Listing and materialising siblings one after the other. By induction on the trees. Assumes nothing.
use mathlib.Core.Path.{◌≡◌, refl, sym, ap, ◌∙◌}
use mathlib.Core.List.{List, [], ◌++◌, append_assoc}
use Rattle.std.specs.Prelude.{Option}
use Prim.Native.Nat.{ℕ, ◌+◌}
use Rattle.tree.specs.Trees.{Trees, nil, tree, part, ◌⊕◌}
use Rattle.tree.specs.Materialise.{unpack, materialise}
use Rattle.tree.specs.Listing.{node_line, node_below, listing}

pub ⊕-nil : (ts : Trees) → ts ⊕ nil ≡ ts
unfolding ◌⊕◌
⊕-nil nil = refl
⊕-nil (tree t s l kids rest) = ap (tree t s l kids) (⊕-nil rest)
⊕-nil (part s l ws rest) = ap (part s l ws) (⊕-nil rest)

pub ⊕-assoc : (ts us vs : Trees) → (ts ⊕ us) ⊕ vs ≡ ts ⊕ (us ⊕ vs)
unfolding ◌⊕◌
⊕-assoc nil us vs = refl
⊕-assoc (tree t s l kids rest) us vs = ap (tree t s l kids) (⊕-assoc rest us vs)
⊕-assoc (part s l ws rest) us vs = ap (part s l ws) (⊕-assoc rest us vs)

pub listing-⊕ : (F d : ℕ) (ts us : Trees) → listing F d (ts ⊕ us) ≡ listing F d ts ++ listing F d us
unfolding ◌⊕◌ listing
listing-⊕ F d nil us = refl
listing-⊕ F d (tree t s l kids rest) us = simp (listing-⊕ F d rest us, append_assoc)
listing-⊕ F d (part s l ws rest) us = listing-⊕ F d rest us

pub materialise-⊕ : (ts us : Trees) → materialise (ts ⊕ us) ≡ materialise ts ⊕ materialise us
unfolding ◌⊕◌ materialise
materialise-⊕ nil us = refl
materialise-⊕ (tree t s l kids rest) us = ap (tree t s l (materialise kids)) (materialise-⊕ rest us)
materialise-⊕ (part s l ws rest) us = ap (◌⊕◌ (unpack s 0 ws)) (materialise-⊕ rest us) ∙ sym (⊕-assoc (unpack s 0 ws) (materialise rest) (materialise us))

-- what a tree comes to once it is materialised and listed
unfoldable pub view : (F d : ℕ) → Trees → List ℕ
view F d ts = listing F d (materialise ts)

pub view-⊕ : (F d : ℕ) (ts us : Trees) → view F d (ts ⊕ us) ≡ view F d ts ++ view F d us
unfolding view
view-⊕ F d ts us = rw (materialise-⊕, listing-⊕)

pub view_nil : (F d : ℕ) → view F d nil ≡ []
unfolding view listing materialise
view_nil F d = refl

pub view_tree : (F d : ℕ) (t : Option ℕ) (s l : ℕ) (kids rest : Trees)
    → view F d (tree t s l kids rest) ≡ (node_line F d t s (s + l) ++ view F (node_below F d t) kids) ++ view F d rest
unfolding view listing materialise
view_tree F d t s l kids rest = refl

pub view_part : (F d s l : ℕ) (ws : List ℕ) (rest : Trees)
    → view F d (part s l ws rest) ≡ listing F d (unpack s 0 ws) ++ view F d rest
unfolding view materialise
view_part F d s l ws rest = listing-⊕ F d (unpack s 0 ws) (materialise rest)

-- Materialising: "no kind 2 stays, each packed record becomes a tree of its id and range under the record or tree that
-- held it".
use Rattle.std.specs.Prelude.{List, [], ◌∷◌, ℕ, zero, suc, ◌+◌, ◌-◌, ◌/◌}
use Rattle.std.specs.Prelude.{Some}
use Rattle.words.specs.Words.{record_width}
use Rattle.tree.specs.Trees.{Trees, nil, tree, part, ◌⊕◌, nodes}

-- of siblings, the first ones, which hold n trees with their descendants; and those after them
unfoldable pub within : Trees → (n : ℕ) → Trees
within nil n = nil
within (tree t s l kids rest) zero = nil
within (tree t s l kids rest) (suc n) = tree t s l kids (within rest (n - nodes kids))
within (part s l ws rest) zero = nil
within (part s l ws rest) (suc n) = part s l ws (within rest n)

unfoldable pub beyond : Trees → (n : ℕ) → Trees
beyond nil n = nil
beyond (tree t s l kids rest) zero = tree t s l kids rest
beyond (tree t s l kids rest) (suc n) = beyond rest (n - nodes kids)
beyond (part s l ws rest) zero = part s l ws rest
beyond (part s l ws rest) (suc n) = beyond rest n

-- The trees of a part that starts at p, from word `off` on. The records behind one up to its end index stand in it.
unfoldable pub unpack : (p off : ℕ) → List ℕ → Trees
unpack p off [] = nil
unpack p off (i ∷ []) = nil
unpack p off (i ∷ s ∷ []) = nil
unpack p off (i ∷ s ∷ e ∷ []) = nil
unpack p off (i ∷ s ∷ e ∷ n ∷ ws) =
    let ts = unpack p (off + record_width) ws in
    let k = (n - (off + record_width)) / record_width in
    tree (Some i) (p + s) (e - s) (within ts k) (beyond ts k)

unfoldable pub materialise : Trees → Trees
materialise nil = nil
materialise (tree t s l kids rest) = tree t s l (materialise kids) (materialise rest)
materialise (part s l ws rest) = unpack s 0 ws ⊕ materialise rest

-- Trees with their parts unpacked: how they are joined, cut and counted, and the marks of their siblings. Assumes nothing.
use mathlib.Core.Path.{◌≡◌, refl, sym, ap, ap₂, ◌∙◌}
use mathlib.Core.List.{List}
use Prim.Native.Nat.{ℕ, zero, suc, ◌+◌, ◌-◌, ◌/◌, ◌≤◌, ◌<◌}
use native.Mathlib.Omega.{arith}
use native.Mathlib.Nat.{add-zero}
use lib.ListN.{length, get_or, length-append}
use Rattle.tree.specs.Trees.{Trees, nil, tree, part, ◌⊕◌, nodes, siblings}
use Rattle.tree.specs.Cells.{relative, absolute, packed, leading, following}
use Rattle.tree.specs.Materialise.{unpack, materialise}
use Rattle.tree.proofs.ListingLaws.{⊕-assoc}
use Rattle.tree.proofs.PackLaws.{nodes-⊕}
use Rattle.tree.proofs.SizeLaws.{nodes_unpack}
use Rattle.tree.proofs.CellLaws.{shift, unpack_shift}
use Rattle.materialize.specs.Steps.{so_far, unpacked, Marks}
use Rattle.materialize.proofs.Handing.{nodes_relative}

pub unpacked-⊕ : (ts us : Trees) → unpacked (ts ⊕ us) ≡ unpacked ts ⊕ unpacked us
unfolding unpacked ◌⊕◌
unpacked-⊕ nil us = refl
unpacked-⊕ (tree t s l kids rest) us = ap (tree t s l (unpacked kids)) (unpacked-⊕ rest us)
unpacked-⊕ (part s l ws rest) us =
    ap (λ x. relative 0 (unpack s 0 ws) ⊕ x) (unpacked-⊕ rest us) ∙ sym (⊕-assoc (relative 0 (unpack s 0 ws)) (unpacked rest) (unpacked us))

pub leading_following : (ts : Trees) (n : ℕ) → leading ts n ⊕ following ts n ≡ ts
unfolding leading following ◌⊕◌
leading_following nil n = refl
leading_following (tree t s l kids rest) zero = refl
leading_following (tree t s l kids rest) (suc n) = ap (tree t s l kids) (leading_following rest n)
leading_following (part s l ws rest) zero = refl
leading_following (part s l ws rest) (suc n) = ap (part s l ws) (leading_following rest n)

pub siblings_following : (ts : Trees) (n : ℕ) → siblings (following ts n) ≡ siblings ts - n
unfolding following siblings
siblings_following nil n = omega arith
siblings_following (tree t s l kids rest) zero = omega arith
siblings_following (tree t s l kids rest) (suc n) = siblings_following rest n ∙ omega arith
siblings_following (part s l ws rest) zero = omega arith
siblings_following (part s l ws rest) (suc n) = siblings_following rest n ∙ omega arith

following_zero : (ts : Trees) → following ts 0 ≡ ts
unfolding following
following_zero nil = refl
following_zero (tree t s l kids rest) = refl
following_zero (part s l ws rest) = refl

-- none are taken
pub following_all : (ts : Trees) (n : ℕ) → siblings ts ≤ siblings ts - n → following ts n ≡ ts
unfolding following siblings
following_all nil n h = refl
following_all (tree t s l kids rest) zero h = refl
following_all (tree t s l kids rest) (suc n) h = absurd (omega arith)
following_all (part s l ws rest) zero h = refl
following_all (part s l ws rest) (suc n) h = absurd (omega arith)

pub marks_following : (w : List ℕ) (ts : Trees) (n : ℕ) → Marks w ts → Marks w (following ts n)
unfolding following
marks_following w nil n h = tt
marks_following w (tree t s l kids rest) zero h = h
marks_following w (tree t s l kids rest) (suc n) h = marks_following w rest n h.after
marks_following w (part s l ws rest) zero h = h
marks_following w (part s l ws rest) (suc n) h = marks_following w rest n h.after

pub marks_frame : (w w' : List ℕ) (ts : Trees) → ((j : ℕ) → j < siblings ts → get_or w' j 0 ≡ get_or w j 0) → Marks w ts → Marks w' ts
unfolding siblings
marks_frame w w' nil f h = tt
marks_frame w w' (tree t s l kids rest) f h = record { at = f (siblings rest) (omega arith) ∙ h.at; after = marks_frame w w' rest (λ j x. f j (omega arith)) h.after }
marks_frame w w' (part s l ws rest) f h = record { at = f (siblings rest) (omega arith) ∙ h.at; after = marks_frame w w' rest (λ j x. f j (omega arith)) h.after }

-- the mark of the last one that is taken
pub mark_at : (w : List ℕ) (ts : Trees) (n : ℕ) → Marks w ts → siblings ts - n < siblings ts → get_or w (siblings ts - n) 0 ≡ siblings (unpacked (following ts n))
unfolding following siblings
mark_at w nil n h l = absurd (omega arith)
mark_at w (tree t s l kids rest) zero h z = absurd (omega arith)
mark_at w (tree t s l kids rest) (suc zero) h z =
    let e : suc (siblings rest) - 1 ≡ siblings rest = omega arith in
    ap (λ (k : ℕ). get_or w k 0) e ∙ h.at ∙ ap (λ x. siblings (unpacked x)) (sym (following_zero rest))
mark_at w (tree t s l kids rest) (suc (suc n)) h z = go rest h.at h.after (mark_at w rest (suc n))
  where
    go : (us : Trees) → get_or w (siblings us) 0 ≡ siblings (unpacked us) → Marks w us
        → (Marks w us → siblings us - suc n < siblings us → get_or w (siblings us - suc n) 0 ≡ siblings (unpacked (following us (suc n))))
        → get_or w (suc (siblings us) - suc (suc n)) 0 ≡ siblings (unpacked (following us (suc n)))
    go nil at m more = ap (λ (k : ℕ). get_or w k 0) (omega arith) ∙ at
    go (tree t₂ s₂ l₂ kids₂ us) at m more =
        let e : suc (suc (siblings us)) - suc (suc n) ≡ suc (siblings us) - suc n = omega arith in
        ap (λ (k : ℕ). get_or w k 0) e ∙ more m (omega arith)
    go (part s₂ l₂ ws₂ us) at m more =
        let e : suc (suc (siblings us)) - suc (suc n) ≡ suc (siblings us) - suc n = omega arith in
        ap (λ (k : ℕ). get_or w k 0) e ∙ more m (omega arith)
mark_at w (part s l ws rest) zero h z = absurd (omega arith)
mark_at w (part s l ws rest) (suc zero) h z =
    let e : suc (siblings rest) - 1 ≡ siblings rest = omega arith in
    ap (λ (k : ℕ). get_or w k 0) e ∙ h.at ∙ ap (λ x. siblings (unpacked x)) (sym (following_zero rest))
mark_at w (part s l ws rest) (suc (suc n)) h z = go rest h.at h.after (mark_at w rest (suc n))
  where
    go : (us : Trees) → get_or w (siblings us) 0 ≡ siblings (unpacked us) → Marks w us
        → (Marks w us → siblings us - suc n < siblings us → get_or w (siblings us - suc n) 0 ≡ siblings (unpacked (following us (suc n))))
        → get_or w (suc (siblings us) - suc (suc n)) 0 ≡ siblings (unpacked (following us (suc n)))
    go nil at m more = ap (λ (k : ℕ). get_or w k 0) (omega arith) ∙ at
    go (tree t₂ s₂ l₂ kids₂ us) at m more =
        let e : suc (suc (siblings us)) - suc (suc n) ≡ suc (siblings us) - suc n = omega arith in
        ap (λ (k : ℕ). get_or w k 0) e ∙ more m (omega arith)
    go (part s₂ l₂ ws₂ us) at m more =
        let e : suc (suc (siblings us)) - suc (suc n) ≡ suc (siblings us) - suc n = omega arith in
        ap (λ (k : ℕ). get_or w k 0) e ∙ more m (omega arith)

-- relative starts after a shift
relative_shift : (k q : ℕ) (ts : Trees) → relative (k + q) (shift k ts) ≡ relative q ts
unfolding relative shift
relative_shift k q nil = refl
relative_shift k q (tree t s l kids rest) =
    let a : (k + s) - (k + q) ≡ s - q = omega arith in
    rw (a, relative_shift k s kids, relative_shift k q rest)
relative_shift k q (part s l ws rest) =
    let a : (k + s) - (k + q) ≡ s - q = omega arith in
    rw (a, relative_shift k q rest)

relative-⊕ : (q : ℕ) (ts us : Trees) → relative q (ts ⊕ us) ≡ relative q ts ⊕ relative q us
unfolding relative ◌⊕◌
relative-⊕ q nil us = refl
relative-⊕ q (tree t s l kids rest) us = ap (tree t (s - q) l (relative s kids)) (relative-⊕ q rest us)
relative-⊕ q (part s l ws rest) us = ap (part (s - q) l ws) (relative-⊕ q rest us)

relative_unpack : (q s : ℕ) (ws : List ℕ) → relative q (unpack (q + s) 0 ws) ≡ relative 0 (unpack s 0 ws)
relative_unpack q s ws =
    ap (λ x. relative q x) (unpack_shift q s 0 ws)
    ∙ ap (λ (k : ℕ). relative k (shift q (unpack s 0 ws))) (sym (add-zero q))
    ∙ relative_shift q 0 (unpack s 0 ws)

-- materialised, with relative starts
pub materialised : (q : ℕ) (ts : Trees) → relative q (materialise (absolute q ts)) ≡ unpacked ts
unfolding unpacked relative materialise absolute
materialised q nil = refl
materialised q (tree t s l kids rest) =
    let a : (q + s) - q ≡ s = omega arith in
    rw (a, materialised (q + s) kids, materialised q rest)
materialised q (part s l ws rest) =
    relative-⊕ q (unpack (q + s) 0 ws) (materialise (absolute q rest))
    ∙ ap₂ ◌⊕◌ (relative_unpack q s ws) (materialised q rest)

pub nodes_so_far : (s : ℕ) (ws : List ℕ) (rest : Trees) → nodes (so_far (unpack s 0 ws) rest) ≡ length ws / 4 + nodes rest
nodes_so_far s ws rest = nodes-⊕ (relative 0 (unpack s 0 ws)) rest ∙ omega (arith, nodes_relative 0 (unpack s 0 ws), nodes_unpack s 0 ws)

-- there are not more than the cells and a quarter of the packed words
pub nodes_unpacked : (ts : Trees) → nodes (unpacked ts) ≤ nodes ts + length (packed ts) / 4
unfolding unpacked nodes packed
nodes_unpacked nil = omega arith
nodes_unpacked (tree t s l kids rest) = omega (arith, nodes_unpacked kids, nodes_unpacked rest, length-append (packed kids) (packed rest))
nodes_unpacked (part s l ws rest) = omega (arith, nodes_so_far s ws (unpacked rest), nodes_unpacked rest, length-append ws (packed rest))

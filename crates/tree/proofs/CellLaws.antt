-- Cells and packed words read back are the trees that were written, and counting starts from another place changes
-- nothing else. By induction on the trees. Assumes nothing.
use mathlib.Core.Path.{◌≡◌, refl, sym, ap, ap₂, ◌∙◌}
use mathlib.Core.List.{List, [], ◌∷◌, ◌++◌, append_assoc, append-nil}
use Rattle.std.specs.Prelude.{Option, None, Some}
use Prim.Native.Nat.{ℕ, zero, suc, ◌+◌, ◌-◌, ◌*◌, ◌/◌, ◌≤◌, ◌<◌}
use native.Mathlib.Omega.{arith}
use native.Mathlib.Nat.{le_refl, zero-add, add-zero}
use lib.ListN.{length, get_or, take, drop, length-append}
use lib.Seq.{take-append_seam, drop-append_seam, get_or-drop, drop-drop}
use Rattle.tree.specs.Trees.{Trees, nil, tree, part, ◌⊕◌, nodes, siblings}
use Rattle.tree.specs.Materialise.{within, beyond, unpack, materialise}
use Rattle.tree.specs.Cells.{cell_width, cell, relative, absolute, packed, kind, id_word, cells, leading, following, cell_tree, decode_from, decode, tree_cells}
use Rattle.tree.proofs.ListingLaws.{⊕-nil}
use Rattle.tree.specs.Well.{Well, Plain}

leading_zero : (us : Trees) → leading us 0 ≡ nil
unfolding leading
leading_zero nil = refl
leading_zero (tree t s l kids rest) = refl
leading_zero (part s l ws rest) = refl

following_zero : (us : Trees) → following us 0 ≡ us
unfolding following
following_zero nil = refl
following_zero (tree t s l kids rest) = refl
following_zero (part s l ws rest) = refl

leading-⊕ : (ts us : Trees) → leading (ts ⊕ us) (siblings ts) ≡ ts
unfolding ◌⊕◌ siblings leading
leading-⊕ nil us = leading_zero us
leading-⊕ (tree t s l kids rest) us = ap (tree t s l kids) (leading-⊕ rest us)
leading-⊕ (part s l ws rest) us = ap (part s l ws) (leading-⊕ rest us)

following-⊕ : (ts us : Trees) → following (ts ⊕ us) (siblings ts) ≡ us
unfolding ◌⊕◌ siblings following
following-⊕ nil us = following_zero us
following-⊕ (tree t s l kids rest) us = following-⊕ rest us
following-⊕ (part s l ws rest) us = following-⊕ rest us

module _ (ws : List ℕ) where
  cell_tree_tree : (t : Option ℕ) (s l a n : ℕ) (ts : Trees) → cell_tree ws (kind t) (id_word t) s l a n ts ≡ tree t s l (leading ts n) (following ts n)
  unfolding cell_tree kind id_word
  cell_tree_tree None s l a n ts = refl
  cell_tree_tree (Some i) s l a n ts = refl

  cell_tree_part : (s l a n : ℕ) (ts : Trees) → cell_tree ws 2 0 s l a n ts ≡ part s l (take n (drop a ws)) ts
  unfolding cell_tree
  cell_tree_part s l a n ts = refl

  -- the first of the cells, read off
  pub decode_cons : (k i s l a n x : ℕ) (cs : List ℕ) → decode ws (cell k i s l a n x ++ cs) ≡ cell_tree ws k i s l a n (decode ws cs)
  unfolding decode decode_from
  decode_cons k i s l a n x cs =
      let e : length (cell k i s l a n x ++ cs) / cell_width ≡ suc (length cs / cell_width) = omega arith in
      rw e

  -- the cell at place c, counted from 0, of n cells: for a reader that goes by cell number
  pub decode_at : (cs : List ℕ) (c n : ℕ) → c < n → decode_from ws (n - c) (drop (c * cell_width) cs)
      ≡ cell_tree ws (get_or cs (c * cell_width) 0) (get_or cs (c * cell_width + 1) 0) (get_or cs (c * cell_width + 2) 0)
      (get_or cs (c * cell_width + 3) 0) (get_or cs (c * cell_width + 4) 0) (get_or cs (c * cell_width + 5) 0)
      (decode_from ws (n - (c + 1)) (drop ((c + 1) * cell_width) cs))
  unfolding decode_from
  decode_at cs c n l =
      let at = c * cell_width in
      let e : n - c ≡ suc (n - (c + 1)) = omega arith in
      let d : drop cell_width (drop at cs) ≡ drop ((c + 1) * cell_width) cs =
      drop-drop cell_width at cs ∙ (let k : at + cell_width ≡ (c + 1) * cell_width = omega arith in ap (λ (i : ℕ). drop i cs) k) in
      rw (e, get_or-drop at cs 0 0, add-zero at, get_or-drop at cs 1 0, get_or-drop at cs 2 0, get_or-drop at cs 3 0, get_or-drop at cs 4 0, get_or-drop at cs 5 0, d)

  -- The cells of ts in front of other cells; `pre` are the packed words before those of ts.
  pub decode_written : (ts : Trees) (c : ℕ) (pre post cs : List ℕ) → ws ≡ pre ++ (packed ts ++ post)
      → decode ws (cells c (length pre) ts ++ cs) ≡ ts ⊕ decode ws cs
  unfolding cells packed ◌⊕◌
  decode_written nil c pre post cs h = refl
  decode_written (tree t s l kids rest) c pre post cs h =
      let c' = c + suc (nodes kids) in
      let w = length pre + length (packed kids) in
      let h₁ : ws ≡ pre ++ (packed kids ++ (packed rest ++ post)) = h ∙ simp append_assoc in
      let h₂ : ws ≡ (pre ++ packed kids) ++ (packed rest ++ post) = h ∙ simp append_assoc in
      let n : w ≡ length (pre ++ packed kids) = sym (length-append pre (packed kids)) in
      let later : decode ws (cells c' w rest ++ cs) ≡ rest ⊕ decode ws cs = rw n (decode_written rest c' (pre ++ packed kids) post cs h₂) in
      let inner = decode_written kids (suc c) pre (packed rest ++ post) (cells c' w rest ++ cs) h₁ in
      decode_cons (kind t) (id_word t) s l _ (siblings kids) _ _
      ∙ rw (append_assoc (cells (suc c) (length pre) kids) (cells c' w rest) cs, inner, later, cell_tree_tree, leading-⊕, following-⊕)
  decode_written (part s l us rest) c pre post cs h =
      let w = length pre + length us in
      let h₁ : ws ≡ pre ++ (us ++ (packed rest ++ post)) = h ∙ simp append_assoc in
      let h₂ : ws ≡ (pre ++ us) ++ (packed rest ++ post) = h ∙ simp append_assoc in
      let n : w ≡ length (pre ++ us) = sym (length-append pre us) in
      let later : decode ws (cells (suc c) w rest ++ cs) ≡ rest ⊕ decode ws cs = rw n (decode_written rest (suc c) (pre ++ us) post cs h₂) in
      let own : take (length us) (drop (length pre) ws) ≡ us =
      ap (λ l. take (length us) (drop (length pre) l)) h₁
      ∙ (ap (take (length us)) (drop-append_seam pre (us ++ (packed rest ++ post))) ∙ take-append_seam us (packed rest ++ post)) in
      decode_cons 2 0 s l (length pre) (length us) _ _
      ∙ cell_tree_part s l (length pre) (length us) (decode ws (cells (suc c) w rest ++ cs)) ∙ ap₂ (λ x y. part s l x y) own later

-- a whole tree read back
pub decode_all : (ts : Trees) → decode (packed ts) (cells 1 0 ts) ≡ ts
unfolding decode decode_from
decode_all ts =
    let h : packed ts ≡ [] ++ (packed ts ++ []) = sym (append-nil (packed ts)) in
    rw append-nil at (decode_written (packed ts) ts 1 [] [] [] h) ∙ ⊕-nil ts

pub packed_relative : (q : ℕ) (ts : Trees) → packed (relative q ts) ≡ packed ts
unfolding packed relative
packed_relative q nil = refl
packed_relative q (tree t s l kids rest) = ap₂ ◌++◌ (packed_relative s kids) (packed_relative q rest)
packed_relative q (part s l ws rest) = ap (λ r. ws ++ r) (packed_relative q rest)

-- Starts moved up by k.
unfoldable pub shift : (k : ℕ) → Trees → Trees
shift k nil = nil
shift k (tree t s l kids rest) = tree t (k + s) l (shift k kids) (shift k rest)
shift k (part s l ws rest) = part (k + s) l ws (shift k rest)

pub absolute_shift : (k q : ℕ) (ts : Trees) → absolute (k + q) ts ≡ shift k (absolute q ts)
unfolding absolute shift
absolute_shift k q nil = refl
absolute_shift k q (tree t s l kids rest) =
    let a : k + q + s ≡ k + (q + s) = omega arith in
    rw (a, absolute_shift k (q + s) kids, absolute_shift k q rest)
absolute_shift k q (part s l ws rest) =
    let a : k + q + s ≡ k + (q + s) = omega arith in
    rw (a, absolute_shift k q rest)

pub shift-⊕ : (k : ℕ) (ts us : Trees) → shift k (ts ⊕ us) ≡ shift k ts ⊕ shift k us
unfolding shift ◌⊕◌
shift-⊕ k nil us = refl
shift-⊕ k (tree t s l kids rest) us = ap (tree t (k + s) l (shift k kids)) (shift-⊕ k rest us)
shift-⊕ k (part s l ws rest) us = ap (part (k + s) l ws) (shift-⊕ k rest us)

pub nodes_shift : (k : ℕ) (ts : Trees) → nodes (shift k ts) ≡ nodes ts
unfolding shift nodes
nodes_shift k nil = refl
nodes_shift k (tree t s l kids rest) = omega (arith, nodes_shift k kids, nodes_shift k rest)
nodes_shift k (part s l ws rest) = omega (arith, nodes_shift k rest)

within_shift : (k : ℕ) (ts : Trees) (n : ℕ) → within (shift k ts) n ≡ shift k (within ts n)
unfolding shift within
within_shift k nil n = refl
within_shift k (tree t s l kids rest) zero = refl
within_shift k (tree t s l kids rest) (suc n) = rw (nodes_shift k kids) (ap (tree t (k + s) l (shift k kids)) (within_shift k rest (n - nodes kids)))
within_shift k (part s l ws rest) zero = refl
within_shift k (part s l ws rest) (suc n) = ap (part (k + s) l ws) (within_shift k rest n)

beyond_shift : (k : ℕ) (ts : Trees) (n : ℕ) → beyond (shift k ts) n ≡ shift k (beyond ts n)
unfolding shift beyond
beyond_shift k nil n = refl
beyond_shift k (tree t s l kids rest) zero = refl
beyond_shift k (tree t s l kids rest) (suc n) =
    ap (λ m. beyond (shift k rest) (n - m)) (nodes_shift k kids) ∙ beyond_shift k rest (n - nodes kids)
beyond_shift k (part s l ws rest) zero = refl
beyond_shift k (part s l ws rest) (suc n) = beyond_shift k rest n

pub unpack_shift : (k p off : ℕ) (ws : List ℕ) → unpack (k + p) off ws ≡ shift k (unpack p off ws)
unfolding shift unpack
unpack_shift k p off [] = refl
unpack_shift k p off (i ∷ []) = refl
unpack_shift k p off (i ∷ s ∷ []) = refl
unpack_shift k p off (i ∷ s ∷ e ∷ []) = refl
unpack_shift k p off (i ∷ s ∷ e ∷ n ∷ ws) =
    let a : k + p + s ≡ k + (p + s) = omega arith in
    let m = (n - (off + 4)) / 4 in
    let ts = unpack p (off + 4) ws in
    rw (a, unpack_shift k p (off + 4) ws, within_shift k ts m, beyond_shift k ts m)

pub materialise_shift : (k : ℕ) (ts : Trees) → materialise (shift k ts) ≡ shift k (materialise ts)
unfolding shift materialise
materialise_shift k nil = refl
materialise_shift k (tree t s l kids rest) = rw (materialise_shift k kids, materialise_shift k rest)
materialise_shift k (part s l ws rest) = rw (unpack_shift k s 0 ws, materialise_shift k rest, shift-⊕ k (unpack s 0 ws) (materialise rest))

-- Where starts are at or after their parents', relative starts are made absolute again.
module _ (T : ℕ) (Inside : ℕ → ℕ → List ℕ → Type 0) where
  pub absolute_relative : (k q lo hi : ℕ) (ts : Trees) → k + q ≤ lo → Well T Inside lo hi (shift k ts) → absolute q (relative q ts) ≡ ts
  unfolding absolute relative shift
  absolute_relative k q lo hi nil h w = refl
  absolute_relative k q lo hi (tree t s l kids rest) h w =
      let a : q + (s - q) ≡ s = omega arith in
      rw (a, absolute_relative k s (k + s) (k + s + l) kids (le_refl (k + s)) w.inner, absolute_relative k q (k + s + l) hi rest (omega arith) w.rest)
  absolute_relative k q lo hi (part s l ws rest) h w =
      let a : q + (s - q) ≡ s = omega arith in
      rw (a, absolute_relative k q (k + s + l) hi rest (omega arith) w.rest)

  -- the same for a tree alone, whose own length is free
  pub absolute_relative_top : (k q hi : ℕ) (t : Option ℕ) (s l : ℕ) (kids : Trees) → q ≤ s → Well T Inside (k + s) hi (shift k kids)
      → absolute q (relative q (tree t s l kids nil)) ≡ tree t s l kids nil
  unfolding absolute relative
  absolute_relative_top k q hi t s l kids h w =
      let a : q + (s - q) ≡ s = omega arith in
      rw (a, absolute_relative k s (k + s) hi kids (le_refl (k + s)) w)

pub shift_zero : (ts : Trees) → shift 0 ts ≡ ts
unfolding shift
shift_zero nil = refl
shift_zero (tree t s l kids rest) = rw (zero-add s, shift_zero kids, shift_zero rest)
shift_zero (part s l ws rest) = rw (zero-add s, shift_zero rest)

pub packed_shift : (k : ℕ) (ts : Trees) → packed (shift k ts) ≡ packed ts
unfolding packed shift
packed_shift k nil = refl
packed_shift k (tree t s l kids rest) = ap₂ ◌++◌ (packed_shift k kids) (packed_shift k rest)
packed_shift k (part s l ws rest) = ap (λ r. ws ++ r) (packed_shift k rest)

-- nothing is packed in trees without parts
pub packed_plain : (T lo hi : ℕ) (ts : Trees) → Plain T lo hi ts → packed ts ≡ []
unfolding packed
packed_plain T lo hi nil w = refl
packed_plain T lo hi (tree t s l kids rest) w = ap₂ ◌++◌ (packed_plain T s (s + l) kids w.inner) (packed_plain T (s + l) hi rest w.rest)
packed_plain T lo hi (part s l ws rest) w = absurd w.inner

-- a cell for each tree and part
pub length_cells : (c w : ℕ) (ts : Trees) → length (cells c w ts) ≡ cell_width * nodes ts
unfolding cells nodes
length_cells c w nil = refl
length_cells c w (tree t s l kids rest) =
    let c' = c + suc (nodes kids) in
    let w' = w + length (packed kids) in
    omega (arith, length-append (cells (suc c) w kids) (cells c' w' rest), length_cells (suc c) w kids, length_cells c' w' rest)
length_cells c w (part s l ws rest) = omega (arith, length_cells (suc c) (w + length ws) rest)

nodes_relative : (q : ℕ) (ts : Trees) → nodes (relative q ts) ≡ nodes ts
unfolding relative nodes
nodes_relative q nil = refl
nodes_relative q (tree t s l kids rest) = omega (arith, nodes_relative s kids, nodes_relative q rest)
nodes_relative q (part s l ws rest) = omega (arith, nodes_relative q rest)

pub length_tree_cells : (S : ℕ) (t : Trees) → length (tree_cells S t) ≡ cell_width * nodes t
unfolding tree_cells
length_tree_cells S t = length_cells 1 0 (relative S t) ∙ ap (λ n. cell_width * n) (nodes_relative S t)

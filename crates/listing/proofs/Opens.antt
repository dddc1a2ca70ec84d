-- Accepted cells read one by one: the trees and parts still to be read, with the start of their parent and their depth, stand for the
-- cells, packed words and lines that are left, and one cell is taken off at a time. Assumes nothing.
use mathlib.Core.Path.{◌≡◌, refl, sym, ap, ap₂, ◌∙◌}
use mathlib.Core.Bool.{true, false, true≢false}
use mathlib.Core.List.{List, [], ◌∷◌, ◌++◌, append_assoc}
use Rattle.std.specs.Prelude.{Option}
use Prim.Native.Nat.{ℕ, suc, ◌+◌, ◌*◌, ◌≤◌, ◌<◌}
use native.Mathlib.Omega.{arith}
use native.Mathlib.Nat.{add-zero}
use lib.ListN.{length, get_or, take, drop, length-append, length-drop}
use lib.Seq.{get_or-drop, drop-drop, take-append_seam, drop_at}
use Rattle.tree.specs.Trees.{Trees, nil, tree, part, nodes, siblings, is_nil}
use Rattle.tree.specs.Materialise.{materialise}
use Rattle.tree.specs.Cells.{cell, absolute, packed, unless_none, kind, id_word, cells, cell_width, cell_kind, cell_id, cell_position, cell_length, cell_first, cell_count, cell_next}
use Rattle.tree.specs.Listing.{node_below, listing}
use Rattle.tree.specs.Well.{Short}
use Rattle.tree.proofs.ListingLaws.{view}
use Rattle.tree.proofs.CellLaws.{length_cells}
use Rattle.rules.specs.PartLowest.{part_kept}

-- siblings that are still to be read: their parts begin at the word `words`, their parent starts at `base`, `depth` is theirs
pub record Open : Type 0 where
  pub words : ℕ
  pub base : ℕ
  pub depth : ℕ
  pub trees : Trees

-- absolute ends fit 32 bits, and parts keep the rules for parts
abbrev pub Fits : (T q : ℕ) → Trees → Type 0
Fits T q nil = Unit {0}
Fits T q (tree t s l kids later) = record { ends : q + s + l ≤ 4294967295; inner : Fits T (q + s) kids; rest : Fits T q later }
Fits T q (part s l us later) = record { ends : q + s + l ≤ 4294967295; kept : part_kept T l us ≡ true; short : Short us; rest : Fits T q later }

-- the packed words from w on begin with those of the trees
pub record PackedAt (ws : List ℕ) (w : ℕ) (ts : Trees) : Type 0 where
  pub later : List ℕ
  pub are : drop w ws ≡ packed ts ++ later
  pub low : w ≤ length ws

pub record Good (T : ℕ) (ws : List ℕ) (o : Open) : Type 0 where
  pub some : is_nil o.trees ≡ false
  pub fits : Fits T o.base o.trees
  pub holds : PackedAt ws o.words o.trees

abbrev pub AllGood : (T : ℕ) (ws : List ℕ) → List Open → Type 0
AllGood T ws [] = Unit {0}
AllGood T ws (o ∷ os) = Good T ws o × AllGood T ws os

-- the cells from cell c on, counted from 1, their packed words and their lines
unfoldable pub left_cells : (c : ℕ) → List Open → List ℕ
left_cells c [] = []
left_cells c (o ∷ os) = cells c o.words o.trees ++ left_cells (c + nodes o.trees) os

unfoldable pub left_packed : List Open → List ℕ
left_packed [] = []
left_packed (o ∷ os) = packed o.trees ++ left_packed os

unfoldable pub left_lines : (F : ℕ) → List Open → List ℕ
left_lines F [] = []
left_lines F (o ∷ os) = view F o.depth (absolute o.base o.trees) ++ left_lines F os

-- siblings put on, if there are any
unfoldable pub push : (w q d : ℕ) → Trees → List Open → List Open
push w q d nil os = os
push w q d (tree t s l kids later) os = record { words = w; base = q; depth = d; trees = tree t s l kids later } ∷ os
push w q d (part s l us later) os = record { words = w; base = q; depth = d; trees = part s l us later } ∷ os

pub push_cells : (c w q d : ℕ) (ts : Trees) (os : List Open) → left_cells c (push w q d ts os) ≡ cells c w ts ++ left_cells (c + nodes ts) os
unfolding push left_cells cells nodes
push_cells c w q d nil os = ap (λ y. left_cells y os) (sym (add-zero c))
push_cells c w q d (tree t s l kids later) os = refl
push_cells c w q d (part s l us later) os = refl

pub push_packed : (w q d : ℕ) (ts : Trees) (os : List Open) → left_packed (push w q d ts os) ≡ packed ts ++ left_packed os
unfolding push left_packed packed
push_packed w q d nil os = refl
push_packed w q d (tree t s l kids later) os = refl
push_packed w q d (part s l us later) os = refl

pub push_lines : (F w q d : ℕ) (ts : Trees) (os : List Open) → left_lines F (push w q d ts os) ≡ view F d (absolute q ts) ++ left_lines F os
unfolding push left_lines absolute view materialise listing
push_lines F w q d nil os = refl
push_lines F w q d (tree t s l kids later) os = refl
push_lines F w q d (part s l us later) os = refl

pub push_good : (T : ℕ) (ws : List ℕ) (w q d : ℕ) (ts : Trees) (os : List Open) → Fits T q ts → PackedAt ws w ts → AllGood T ws os → AllGood T ws (push w q d ts os)
unfolding push is_nil
push_good T ws w q d nil os f h a = a
push_good T ws w q d (tree t s l kids later) os f h a = (record { some = refl; fits = f; holds = h }, a)
push_good T ws w q d (part s l us later) os f h a = (record { some = refl; fits = f; holds = h }, a)

-- what is left after the first cell of siblings: its children, then its later siblings
abbrev pub after_later : (w q d : ℕ) (kids later : Trees) → List Open → List Open
after_later w q d kids later os = push (w + length (packed kids)) q d later os

abbrev pub after_tree : (F w q d : ℕ) (t : Option ℕ) (s : ℕ) (kids later : Trees) → List Open → List Open
after_tree F w q d t s kids later os = push w (q + s) (node_below F d t) kids (after_later w q d kids later os)

abbrev pub after_part : (w q d : ℕ) (us : List ℕ) (later : Trees) → List Open → List Open
after_part w q d us later os = push (w + length us) q d later os

-- the packed words of the children and of the later siblings
packed_split : (ws : List ℕ) (w : ℕ) (us vs later : List ℕ) → drop w ws ≡ (us ++ vs) ++ later → drop (w + length us) ws ≡ vs ++ later
packed_split ws w us vs later h =
    sym (drop-drop (length us) w ws) ∙ (ap (drop (length us)) (h ∙ append_assoc us vs later) ∙ drop_at us (vs ++ later) (length us) refl)

packed_low : (ws : List ℕ) (w : ℕ) (us vs later : List ℕ) → drop w ws ≡ (us ++ vs) ++ later → w ≤ length ws → w + length us ≤ length ws
packed_low ws w us vs later h l =
    let e = ap length h ∙ length-append (us ++ vs) later in
    omega (arith, e, length-append us vs, length-drop w ws)

pub after_tree_good : (T F : ℕ) (ws : List ℕ) (w q d : ℕ) (t : Option ℕ) (s l : ℕ) (kids later : Trees) (os : List Open)
    → Fits T q (tree t s l kids later) → PackedAt ws w (tree t s l kids later) → AllGood T ws os → AllGood T ws (after_tree F w q d t s kids later os)
unfolding packed
after_tree_good T F ws w q d t s l kids later os f h a =
    push_good T ws w (q + s) (node_below F d t) kids (after_later w q d kids later os) f.inner
    (record { later = packed later ++ h.later; are = h.are ∙ append_assoc (packed kids) (packed later) h.later; low = h.low })
    (push_good T ws (w + length (packed kids)) q d later os f.rest
    (record { later = h.later; are = packed_split ws w (packed kids) (packed later) h.later h.are; low = packed_low ws w (packed kids) (packed later) h.later h.are h.low }) a)

pub after_part_good : (T : ℕ) (ws : List ℕ) (w q d s l : ℕ) (us : List ℕ) (later : Trees) (os : List Open)
    → Fits T q (part s l us later) → PackedAt ws w (part s l us later) → AllGood T ws os → AllGood T ws (after_part w q d us later os)
unfolding packed
after_part_good T ws w q d s l us later os f h a =
    push_good T ws (w + length us) q d later os f.rest (record { later = h.later; are = packed_split ws w us (packed later) h.later h.are; low = packed_low ws w us (packed later) h.later h.are h.low }) a

-- the words of a part
pub part_words : (ws : List ℕ) (w s l : ℕ) (us : List ℕ) (later : Trees) → PackedAt ws w (part s l us later) → take (length us) (drop w ws) ≡ us
unfolding packed
part_words ws w s l us later h = ap (take (length us)) (h.are ∙ append_assoc us (packed later) h.later) ∙ take-append_seam us (packed later ++ h.later)

pub part_inside : (ws : List ℕ) (w s l : ℕ) (us : List ℕ) (later : Trees) → PackedAt ws w (part s l us later) → w + length us ≤ length ws
unfolding packed
part_inside ws w s l us later h = packed_low ws w us (packed later) h.later h.are h.low

-- The words of the first cell that is left, cell i counted from 0: a tree, or a part.
pub record Spelt (cs : List ℕ) (i : ℕ) (t : Option ℕ) (s l : ℕ) (kids later : Trees) : Type 0 where
  pub kind_is : cell_kind cs i ≡ kind t
  pub id_is : cell_id cs i ≡ id_word t
  pub position_is : cell_position cs i ≡ s
  pub len_is : cell_length cs i ≡ l
  pub first_is : cell_first cs i ≡ unless_none kids (suc (i + 1))
  pub next_is : cell_next cs i ≡ unless_none later (i + 1 + suc (nodes kids))

pub record SpeltPart (cs : List ℕ) (i w s l : ℕ) (us : List ℕ) (later : Trees) : Type 0 where
  pub kind_is : cell_kind cs i ≡ 2
  pub position_is : cell_position cs i ≡ s
  pub len_is : cell_length cs i ≡ l
  pub first_is : cell_first cs i ≡ w
  pub count_is : cell_count cs i ≡ length us
  pub next_is : cell_next cs i ≡ unless_none later (suc (i + 1))

-- a word of the cell i
module _ (cs : List ℕ) (i : ℕ) (own rest : List ℕ) (h : drop (i * cell_width) cs ≡ own ++ rest) where
  word : (k x : ℕ) → get_or (own ++ rest) k 0 ≡ x → get_or cs (i * cell_width + k) 0 ≡ x
  word k x e = sym (get_or-drop (i * cell_width) cs k 0) ∙ (ap (λ (l : List ℕ). get_or l k 0) h ∙ e)

  word_first : (x : ℕ) → get_or (own ++ rest) 0 0 ≡ x → cell_kind cs i ≡ x
  word_first x e = ap (λ (k : ℕ). get_or cs k 0) (sym (add-zero (i * cell_width))) ∙ word 0 x e

-- the words behind it
behind : (cs : List ℕ) (i : ℕ) → drop ((i + 1) * cell_width) cs ≡ drop cell_width (drop (i * cell_width) cs)
behind cs i =
    let e : (i + 1) * cell_width ≡ i * cell_width + cell_width = omega arith in
    ap (λ (n : ℕ). drop n cs) e ∙ sym (drop-drop cell_width (i * cell_width) cs)

-- there are as many cells as the trees have
pub room : (cs : List ℕ) (i : ℕ) (o : Open) (os : List Open) → drop (i * cell_width) cs ≡ left_cells (i + 1) (o ∷ os) → is_nil o.trees ≡ false → (i + nodes o.trees) * cell_width ≤ length cs
unfolding left_cells is_nil nodes
room cs i o os h some =
    let e = ap length h ∙ length-append (cells (i + 1) o.words o.trees) (left_cells (i + 1 + nodes o.trees) os) in
    omega (arith, e, length_cells (i + 1) o.words o.trees, length-drop (i * cell_width) cs, more o.trees some)
  where
    more : (ts : Trees) → is_nil ts ≡ false → 0 < nodes ts
    more nil e = absurd (true≢false e)
    more (tree t s l kids later) e = omega arith
    more (part s l us later) e = omega arith

module _ (cs : List ℕ) (i w q d : ℕ) (t : Option ℕ) (s l : ℕ) (kids later : Trees) (os : List Open)
    (h : drop (i * cell_width) cs ≡ left_cells (i + 1) (record { words = w; base = q; depth = d; trees = tree t s l kids later } ∷ os)) where
  abbrev own : List ℕ
  own = cell (kind t) (id_word t) s l (unless_none kids (suc (i + 1))) (siblings kids) (unless_none later (i + 1 + suc (nodes kids)))

  abbrev inside : List ℕ
  inside = (cells (suc (i + 1)) w kids ++ cells (i + 1 + suc (nodes kids)) (w + length (packed kids)) later) ++ left_cells (i + 1 + suc (nodes kids + nodes later)) os

  opened : drop (i * cell_width) cs ≡ own ++ inside
  unfolding left_cells cells nodes
  opened = h

  pub spelt : Spelt cs i t s l kids later
  spelt = record {
    kind_is = word_first cs i own inside opened (kind t) refl;
    id_is = word cs i own inside opened 1 (id_word t) refl;
    position_is = word cs i own inside opened 2 s refl;
    len_is = word cs i own inside opened 3 l refl;
    first_is = word cs i own inside opened 4 (unless_none kids (suc (i + 1))) refl;
    next_is = word cs i own inside opened 6 (unless_none later (i + 1 + suc (nodes kids))) refl;
  }

  -- what is left after it
  pub tree_next : (F : ℕ) → drop ((i + 1) * cell_width) cs ≡ left_cells (i + 1 + 1) (after_tree F w q d t s kids later os)
  tree_next F =
      let w' = w + length (packed kids) in
      let c = i + 1 + 1 in
      let n₁ : i + 1 + suc (nodes kids) ≡ c + nodes kids = omega arith in
      let n₂ : i + 1 + suc (nodes kids + nodes later) ≡ c + nodes kids + nodes later = omega arith in
      let n₃ : suc (i + 1) ≡ c = omega arith in
      let b : left_cells c (after_tree F w q d t s kids later os) ≡ cells c w kids ++ (cells (c + nodes kids) w' later ++ left_cells (c + nodes kids + nodes later) os) =
      push_cells c w (q + s) (node_below F d t) kids (after_later w q d kids later os)
      ∙ ap (λ (r : List ℕ). cells c w kids ++ r) (push_cells (c + nodes kids) w' q d later os) in
      behind cs i
      ∙ (ap (drop 7) opened
      ∙ (append_assoc (cells (suc (i + 1)) w kids) (cells (i + 1 + suc (nodes kids)) w' later) (left_cells (i + 1 + suc (nodes kids + nodes later)) os)
      ∙ (ap₂ (λ (x y : ℕ). cells x w kids ++ (cells y w' later ++ left_cells (i + 1 + suc (nodes kids + nodes later)) os)) n₃ n₁
      ∙ (ap (λ (z : ℕ). cells c w kids ++ (cells (c + nodes kids) w' later ++ left_cells z os)) n₂ ∙ sym b))))

module _ (cs : List ℕ) (i w q d s l : ℕ) (us : List ℕ) (later : Trees) (os : List Open)
    (h : drop (i * cell_width) cs ≡ left_cells (i + 1) (record { words = w; base = q; depth = d; trees = part s l us later } ∷ os)) where
  abbrev own_part : List ℕ
  own_part = cell 2 0 s l w (length us) (unless_none later (suc (i + 1)))

  abbrev beside : List ℕ
  beside = cells (suc (i + 1)) (w + length us) later ++ left_cells (i + 1 + suc (nodes later)) os

  opened_part : drop (i * cell_width) cs ≡ own_part ++ beside
  unfolding left_cells cells nodes
  opened_part = h

  pub spelt_part : SpeltPart cs i w s l us later
  spelt_part = record {
    kind_is = word_first cs i own_part beside opened_part 2 refl;
    position_is = word cs i own_part beside opened_part 2 s refl;
    len_is = word cs i own_part beside opened_part 3 l refl;
    first_is = word cs i own_part beside opened_part 4 w refl;
    count_is = word cs i own_part beside opened_part 5 (length us) refl;
    next_is = word cs i own_part beside opened_part 6 (unless_none later (suc (i + 1))) refl;
  }

  pub part_next : drop ((i + 1) * cell_width) cs ≡ left_cells (i + 1 + 1) (after_part w q d us later os)
  part_next =
      let c = i + 1 + 1 in
      let n₂ : i + 1 + suc (nodes later) ≡ c + nodes later = omega arith in
      let n₃ : suc (i + 1) ≡ c = omega arith in
      behind cs i
      ∙ (ap (drop 7) opened_part
      ∙ (ap₂ (λ (x z : ℕ). cells x (w + length us) later ++ left_cells z os) n₃ n₂ ∙ sym (push_cells c (w + length us) q d later os)))

-- no cell is left, or one is
pub none_left : (T : ℕ) (ws : List ℕ) (c : ℕ) (os : List Open) → AllGood T ws os → length (left_cells c os) ≡ 0 → os ≡ []
unfolding left_cells is_nil nodes
none_left T ws c [] a h = refl
none_left T ws c (o ∷ os) a h =
    let e = length-append (cells c o.words o.trees) (left_cells (c + nodes o.trees) os) in
    absurd (more o.trees a.0.some (omega (arith, e, h, length_cells c o.words o.trees)))
  where
    more : (ts : Trees) → is_nil ts ≡ false → nodes ts ≡ 0 → ⊥
    more nil e n = true≢false e
    more (tree t s l kids later) e n = omega arith
    more (part s l us later) e n = omega arith

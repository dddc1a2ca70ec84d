-- The lines of the first cell that is left stand before those of the cells after it, and how many lines there are. Assumes nothing.
use mathlib.Core.Path.{◌≡◌, refl, sym, ap, ap₂, ◌∙◌}
use mathlib.Core.Bool.{Bool, true, false, cond, true≢false}
use mathlib.Core.List.{List, [], ◌∷◌, ◌++◌, append_assoc}
use Rattle.std.specs.Prelude.{Option, None, Some}
use Prim.Native.Nat.{ℕ, zero, suc, ◌+◌, ◌*◌, ◌/◌, ◌≤◌}
use native.Mathlib.Omega.{arith}
use native.Mathlib.Numerals.{add-one}
use borrow.Author.Tests.{eq-eqb, ne_eqb}
use lib.Dec.{ltb, eqb}
use lib.ListN.{length, take, drop, length-append, length-drop}
use Rattle.records.specs.Forest.{line, depth_below}
use Rattle.part.proofs.Faults.{part_whole}
use Rattle.part.specs.Part.{part_check}
use Rattle.tree.specs.Trees.{Trees, nil, tree, part, is_nil}
use Rattle.tree.specs.Cells.{absolute, packed, kind, id_word, cell_width, cell_kind, cell_id, cell_position, cell_length, part_at}
use Rattle.tree.specs.Listing.{node_line, node_below}
use Rattle.tree.proofs.ListingLaws.{view, view_tree, view_part}
use Rattle.rules.specs.PartLowest.{is_accepted, part_kept}
use Rattle.rules.proofs.Tests.{both}
use Rattle.rules.proofs.PartRead.{accepted_is}
use Rattle.part_lines.specs.Steps.{listed_in, listed_part}
use Rattle.part_lines.proofs.Counts.{listed_append, length_listed}
use Rattle.listing.specs.Steps.{is_listed, own_line, cell_lines, lines_from}
use Rattle.listing.proofs.Opens.{Open, PackedAt, AllGood, left_cells, left_packed, left_lines, push_packed, push_lines, after_later, after_tree, after_part, after_tree_good, after_part_good, part_words, Spelt, SpeltPart, spelt, spelt_part, tree_next, part_next, none_left}

-- the line of a cell, by its type
pub own_is : (F : ℕ) (cs : List ℕ) (i q d : ℕ) (t : Option ℕ) (s l : ℕ) → cell_kind cs i ≡ kind t → cell_id cs i ≡ id_word t
    → cell_position cs i ≡ s → cell_length cs i ≡ l → own_line F cs i q d ≡ node_line F d t (q + s) (q + s + l)
unfolding own_line is_listed node_line kind id_word line
own_is F cs i q d None s l a b c e = rw a refl
own_is F cs i q d (Some x) s l a b c e = rw (a, b, c, e) (go (ltb x F))
  where
    go : (y : Bool) → cond y (d ∷ x ∷ (q + s) ∷ (q + s + l) ∷ []) [] ≡ elim y [ true ↦ d ∷ x ∷ (q + s) ∷ (q + s + l) ∷ [] | false ↦ [] ]
    go true = refl
    go false = refl

-- and the depth below it
pub below_is : (F : ℕ) (cs : List ℕ) (i d : ℕ) (t : Option ℕ) → cell_kind cs i ≡ kind t → cell_id cs i ≡ id_word t
    → cond (is_listed F cs i) (d + 1) d ≡ node_below F d t
unfolding is_listed node_below kind id_word depth_below
below_is F cs i d None a b = rw a refl
below_is F cs i d (Some x) a b = rw (a, b) (go (ltb x F))
  where
    go : (y : Bool) → cond y (d + 1) d ≡ elim y [ true ↦ suc d | false ↦ d ]
    go true = add-one d
    go false = refl

-- at most one deeper, and then it has a line
pub below_small : (F d : ℕ) (t : Option ℕ) (s e : ℕ) → (node_below F d t ≤ d + 1) × (node_below F d t * 4 ≤ d * 4 + length (node_line F d t s e))
unfolding node_below depth_below node_line line
below_small F d None s e = (omega arith, omega arith)
below_small F d (Some x) s e = go (ltb x F)
  where
    go : (y : Bool) → (elim y [ true ↦ suc d | false ↦ d ] ≤ d + 1) × (elim y [ true ↦ suc d | false ↦ d ] * 4 ≤ d * 4 + length {A = ℕ} (elim y [ true ↦ d ∷ x ∷ s ∷ e ∷ [] | false ↦ [] ]))
    go true = (omega arith, omega arith)
    go false = (omega arith, omega arith)

-- no tree is of kind 2
pub other_kind : (cs : List ℕ) (i : ℕ) (t : Option ℕ) → cell_kind cs i ≡ kind t → eqb (cell_kind cs i) 2 ≡ false
unfolding kind
other_kind cs i None a = rw a
other_kind cs i (Some x) a = rw a

module _ (F : ℕ) (cs ws : List ℕ) (i q d : ℕ) where
  pub lines_other : (cell_kind cs i ≡ 2 → ⊥) → cell_lines F cs ws i q d ≡ own_line F cs i q d
  unfolding cell_lines
  lines_other other = rw (ne_eqb (cell_kind cs i) 2 other)

  pub lines_tree : (t : Option ℕ) → cell_kind cs i ≡ kind t → cell_lines F cs ws i q d ≡ own_line F cs i q d
  unfolding cell_lines
  lines_tree t a = rw (other_kind cs i t a)

  pub lines_part : cell_kind cs i ≡ 2 → cell_lines F cs ws i q d ≡ listed_part F (q + cell_position cs i) d (part_at cs ws i)
  unfolding cell_lines
  lines_part a = rw (eq-eqb (cell_kind cs i) 2 a)

-- a tree's line comes first
pub tree_lines : (F : ℕ) (cs ws : List ℕ) (i w q d : ℕ) (t : Option ℕ) (s l : ℕ) (kids later : Trees) (os : List Open) → Spelt cs i t s l kids later
    → left_lines F (record { words = w; base = q; depth = d; trees = tree t s l kids later } ∷ os)
    ≡ cell_lines F cs ws i q d ++ left_lines F (after_tree F w q d t s kids later os)
unfolding left_lines absolute
tree_lines F cs ws i w q d t s l kids later os sp =
    let d' = node_below F d t in
    let e = lines_tree F cs ws i q d t sp.kind_is ∙ own_is F cs i q d t s l sp.kind_is sp.id_is sp.position_is sp.len_is in
    let b = push_lines F w (q + s) d' kids (after_later w q d kids later os) in
    let c = push_lines F (w + length (packed kids)) q d later os in
    let xs = node_line F d t (q + s) (q + s + l) in
    let ks = view F d' (absolute (q + s) kids) in
    let ls = view F d (absolute q later) in
    ap (λ (v : List ℕ). v ++ left_lines F os) (view_tree F d t (q + s) l (absolute (q + s) kids) (absolute q later))
    ∙ (append_assoc (xs ++ ks) ls (left_lines F os)
    ∙ (append_assoc xs ks (ls ++ left_lines F os)
    ∙ ap₂ (λ (x y : List ℕ). x ++ y) (sym e) (sym (b ∙ ap (λ (r : List ℕ). ks ++ r) c))))

-- the words of a part's cell are the part's
pub part_is : (cs ws : List ℕ) (i w s l : ℕ) (us : List ℕ) (later : Trees) → SpeltPart cs i w s l us later → PackedAt ws w (part s l us later) → part_at cs ws i ≡ us
part_is cs ws i w s l us later sp h = ap₂ (λ (n a : ℕ). take n (drop a ws)) sp.count_is sp.first_is ∙ part_words ws w s l us later h

-- and so do a part's lines
pub part_lines : (F : ℕ) (cs ws : List ℕ) (i w q d s l : ℕ) (us : List ℕ) (later : Trees) (os : List Open) → SpeltPart cs i w s l us later → PackedAt ws w (part s l us later)
    → left_lines F (record { words = w; base = q; depth = d; trees = part s l us later } ∷ os)
    ≡ cell_lines F cs ws i q d ++ left_lines F (after_part w q d us later os)
unfolding left_lines absolute listed_part
part_lines F cs ws i w q d s l us later os sp h =
    let own = listed_part F (q + s) d us in
    let ls = view F d (absolute q later) in
    let e : cell_lines F cs ws i q d ≡ own =
    lines_part F cs ws i q d sp.kind_is ∙ ap₂ (λ (x : ℕ) (v : List ℕ). listed_part F (q + x) d v) sp.position_is (part_is cs ws i w s l us later sp h) in
    ap (λ (v : List ℕ). v ++ left_lines F os) (view_part F d (q + s) l us (absolute q later))
    ∙ (append_assoc own ls (left_lines F os) ∙ ap₂ (λ (x y : List ℕ). x ++ y) (sym e) (sym (push_lines F (w + length us) q d later os)))

own_length : (F : ℕ) (cs : List ℕ) (i q d : ℕ) → length (own_line F cs i q d) ≡ cond (is_listed F cs i) 4 0
unfolding own_line
own_length F cs i q d = go (is_listed F cs i)
  where
    go : (y : Bool) → length (cond y (d ∷ cell_id cs i ∷ (q + cell_position cs i) ∷ (q + cell_position cs i + cell_length cs i) ∷ []) []) ≡ cond y 4 0
    go true = refl
    go false = refl

-- a part has no line of its own
part_unlisted : (F : ℕ) (cs : List ℕ) (i : ℕ) → cell_kind cs i ≡ 2 → is_listed F cs i ≡ false
unfolding is_listed
part_unlisted F cs i a = rw a

-- the words of a part are those of whole records
whole_part : (T l : ℕ) (us : List ℕ) → part_kept T l us ≡ true → length us ≡ 4 * (length us / 4)
unfolding part_kept
whole_part T l us h =
    let (a, b) = both (is_accepted (part_check us T)) _ h in
    let (counts, ok) = accepted_is (part_check us T) a in
    omega (arith, part_whole us T counts ok)

-- how many lines there are: of cells of their own, and of packed records
module _ (T F : ℕ) (cs ws : List ℕ) where
  abbrev pub Counted : (left i : ℕ) (os : List Open) → Type 0
  Counted left i os = length (left_lines F os) ≡ (lines_from F cs i left + listed_in F (left_packed os)) * 4

  step : (y : Bool) (m n k j : ℕ) → m ≡ cond y 4 0 → n ≡ (k + j) * 4 → m + n ≡ (cond y (k + 1) k + j) * 4
  step true m n k j p q = omega arith
  step false m n k j p q = omega arith

  counted_tree : (left i w q d : ℕ) (t : Option ℕ) (s l : ℕ) (kids later : Trees) (os : List Open) → Spelt cs i t s l kids later
      → Counted left (i + 1) (after_tree F w q d t s kids later os)
      → Counted (suc left) i (record { words = w; base = q; depth = d; trees = tree t s l kids later } ∷ os)
  unfolding lines_from left_packed packed
  counted_tree left i w q d t s l kids later os sp rest =
      let next = after_tree F w q d t s kids later os in
      let x = cell_lines F cs ws i q d in
      let same : left_packed next ≡ (packed kids ++ packed later) ++ left_packed os =
      push_packed w (q + s) (node_below F d t) kids (after_later w q d kids later os)
      ∙ (ap (λ (v : List ℕ). packed kids ++ v) (push_packed (w + length (packed kids)) q d later os) ∙ sym (append_assoc (packed kids) (packed later) (left_packed os))) in
      ap length (tree_lines F cs ws i w q d t s l kids later os sp)
      ∙ (length-append x (left_lines F next)
      ∙ step (is_listed F cs i) (length x) (length (left_lines F next)) (lines_from F cs (i + 1) left) (listed_in F ((packed kids ++ packed later) ++ left_packed os))
      (ap length (lines_tree F cs ws i q d t sp.kind_is) ∙ own_length F cs i q d)
      (rest ∙ ap (λ (v : List ℕ). (lines_from F cs (i + 1) left + listed_in F v) * 4) same))

  counted_part : (left i w q d s l : ℕ) (us : List ℕ) (later : Trees) (os : List Open) → SpeltPart cs i w s l us later → PackedAt ws w (part s l us later) → part_kept T l us ≡ true
      → Counted left (i + 1) (after_part w q d us later os)
      → Counted (suc left) i (record { words = w; base = q; depth = d; trees = part s l us later } ∷ os)
  unfolding lines_from left_packed packed
  counted_part left i w q d s l us later os sp h kept rest =
      let next = after_part w q d us later os in
      let x = cell_lines F cs ws i q d in
      let one : length x ≡ 4 * listed_in F us =
      ap length (lines_part F cs ws i q d sp.kind_is) ∙ (length_listed F (q + cell_position cs i) d (part_at cs ws i) ∙ ap (λ (v : List ℕ). 4 * listed_in F v) (part_is cs ws i w s l us later sp h)) in
      let two : listed_in F ((us ++ packed later) ++ left_packed os) ≡ listed_in F us + listed_in F (left_packed next) =
      ap (listed_in F) (append_assoc us (packed later) (left_packed os) ∙ ap (λ (v : List ℕ). us ++ v) (sym (push_packed (w + length us) q d later os)))
      ∙ listed_append F us (left_packed next) (length us / 4) (whole_part T l us kept) in
      let miss = part_unlisted F cs i sp.kind_is in
      ap length (part_lines F cs ws i w q d s l us later os sp h)
      ∙ (length-append x (left_lines F next) ∙ rw miss (omega (arith, one, two, rest)))

  none_counted : (i : ℕ) (os : List Open) → os ≡ [] → Counted 0 i os
  unfolding lines_from left_lines left_packed listed_in
  none_counted i os e = rw e

  nothing_left : (i left : ℕ) → drop (i * cell_width) cs ≡ left_cells (i + 1) [] → length cs ≡ (i + suc left) * cell_width → ⊥
  unfolding left_cells
  nothing_left i left h e = omega (arith, e, ap length h, length-drop (i * cell_width) cs)

  one_counted : (left i w q d : ℕ) (ts : Trees) (os : List Open) → drop (i * cell_width) cs ≡ left_cells (i + 1) (record { words = w; base = q; depth = d; trees = ts } ∷ os)
      → AllGood T ws (record { words = w; base = q; depth = d; trees = ts } ∷ os)
      → ((next : List Open) → drop ((i + 1) * cell_width) cs ≡ left_cells (i + 1 + 1) next → AllGood T ws next → Counted left (i + 1) next)
      → Counted (suc left) i (record { words = w; base = q; depth = d; trees = ts } ∷ os)
  unfolding is_nil
  one_counted left i w q d nil os h a f = absurd (true≢false a.0.some)
  one_counted left i w q d (tree t s l kids later) os h a f =
      counted_tree left i w q d t s l kids later os (spelt cs i w q d t s l kids later os h)
      (f (after_tree F w q d t s kids later os) (tree_next cs i w q d t s l kids later os h F) (after_tree_good T F ws w q d t s l kids later os a.0.fits a.0.holds a.1))
  one_counted left i w q d (part s l us later) os h a f =
      counted_part left i w q d s l us later os (spelt_part cs i w q d s l us later os h) a.0.holds a.0.fits.kept
      (f (after_part w q d us later os) (part_next cs i w q d s l us later os h) (after_part_good T ws w q d s l us later os a.0.fits a.0.holds a.1))

  pub counted : (left i : ℕ) (os : List Open) → drop (i * cell_width) cs ≡ left_cells (i + 1) os → AllGood T ws os → length cs ≡ (i + left) * cell_width → Counted left i os
  counted zero i os h a e =
      let n : length (left_cells (i + 1) os) ≡ 0 = sym (ap length h) ∙ omega (arith, length-drop (i * cell_width) cs) in
      none_counted i os (none_left T ws (i + 1) os a n)
  counted (suc left) i [] h a e = absurd (nothing_left i left h e)
  counted (suc left) i (o ∷ os) h a e = one_counted left i o.words o.base o.depth o.trees os h a (λ next g b. counted left (i + 1) next g b (omega (arith, e)))

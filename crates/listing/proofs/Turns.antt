-- A turn of the pass that writes the lines: what the words of a cell and those noted for it say, and what is noted for the cells
-- that it names. Assumes nothing.
use mathlib.Core.Path.{◌≡◌, refl, sym, ap, ap₂, subst, ◌∙◌}
use mathlib.Core.Bool.{Bool, true, false, cond, true≢false}
use mathlib.Core.List.{List, [], ◌∷◌, ◌++◌}
use Rattle.std.specs.Prelude.{Option}
use Prim.Native.Nat.{ℕ, zero, suc, ◌+◌, ◌-◌, ◌*◌, ◌≤◌, ◌<◌}
use native.Mathlib.Omega.{arith}
use native.Mathlib.Nat.{add-zero}
use lib.Dec.{eqb}
use borrow.Author.Tests.{eq-eqb, ne_eqb}
use lib.ListN.{length, get_or, drop, set, length-set, length-drop}
use lib.Seq.{get_or-set_same, get_or-set_other}
use Rattle.tree.specs.Trees.{Trees, nil, tree, part, nodes, is_nil}
use Rattle.tree.specs.Cells.{packed, unless_none, cell_width, cell_kind, cell_position, cell_length, cell_first, cell_count, cell_next, part_at}
use Rattle.tree.specs.Listing.{node_line, node_below}
use Rattle.tree.specs.Well.{Short}
use Rattle.rules.specs.PartLowest.{part_kept}
use Rattle.listing.specs.Steps.{cell_lines, noted, child_of, links_noted}
use Rattle.listing.proofs.Opens.{Open, AllGood, left_cells, left_lines, push, after_later, after_tree, after_part, after_tree_good, after_part_good, part_inside, Spelt, SpeltPart, spelt, spelt_part, room, tree_next, part_next, none_left}
use Rattle.listing.proofs.Lines.{own_is, below_is, below_small, other_kind, lines_tree, tree_lines, part_is, part_lines}

-- Two words are noted, within the first m, for each cell that siblings still to be read begin with; i is the first such cell, counted from
-- 0. As many lines as a depth counts are written: `at` words.
abbrev pub Noted : (held : List ℕ) (m at i : ℕ) → List Open → Type 0
Noted held m at i [] = Unit {0}
Noted held m at i (o ∷ os) = record {
  base_at : get_or held (i * 2) 0 ≡ o.base;
  depth_at : get_or held (i * 2 + 1) 0 ≡ o.depth;
  deep : o.depth < i;
  above : o.depth * 4 ≤ at;
  small : i < 4294967295;
  inside : i * 2 + 2 ≤ m;
  rest : Noted held m at (i + nodes o.trees) os;
}

pub noted_same : (held held' : List ℕ) (m at at' i : ℕ) (os : List Open) → at ≤ at' → ((j : ℕ) → i * 2 ≤ j → j < m → get_or held' j 0 ≡ get_or held j 0) → Noted held m at i os → Noted held' m at' i os
noted_same held held' m at at' i [] l e h = tt
noted_same held held' m at at' i (o ∷ os) l e h = record {
  base_at = e (i * 2) (omega arith) (omega (arith, h.inside)) ∙ h.base_at;
  depth_at = e (i * 2 + 1) (omega arith) (omega (arith, h.inside)) ∙ h.depth_at;
  deep = h.deep;
  above = omega (arith, h.above);
  small = h.small;
  inside = h.inside;
  rest = noted_same held held' m at at' (i + nodes o.trees) os l (λ j b c. e j (omega (arith, b)) c) h.rest;
}

pub noted_none : (held : List ℕ) (x q d : ℕ) → x ≡ 0 → noted held x q d ≡ held
unfolding noted
noted_none held x q d e = rw (eq-eqb x 0 e)

pub noted_some : (held : List ℕ) (x q d i : ℕ) → x ≡ suc i → noted held x q d ≡ set (set held (i * 2) q) (i * 2 + 1) d
unfolding noted
noted_some held x q d i e =
    let z : eqb x 0 ≡ false = ne_eqb x 0 (λ y. omega (arith, y)) in
    let n : x - 1 ≡ i = omega arith in
    rw (z, n)

pub noted_length : (held : List ℕ) (x q d : ℕ) → length (noted held x q d) ≡ length held
noted_length held zero q d = ap length (noted_none held 0 q d refl)
noted_length held (suc x) q d = ap length (noted_some held (suc x) q d x refl) ∙ (length-set (set held (x * 2) q) (x * 2 + 1) d ∙ length-set held (x * 2) q)

-- what stands at the cells before cell x is kept
module _ (held : List ℕ) (m at i w q d : ℕ) (ts : Trees) (os : List Open) (r : m ≤ length held) (shallow : d < i) (above : d * 4 ≤ at) where
  some_noted : 0 < nodes ts → is_nil ts ≡ false → i * 2 + 2 ≤ m → i < 4294967295 → Noted held m at (i + nodes ts) os
      → Noted (set (set held (i * 2) q) (i * 2 + 1) d) m at i (record { words = w; base = q; depth = d; trees = ts } ∷ os)
  some_noted more some inside small h = record {
    base_at = get_or-set_other (set held (i * 2) q) (i * 2 + 1) (i * 2) d 0 (λ y. omega (arith, y)) ∙ get_or-set_same held (i * 2) q 0 (omega arith);
    depth_at = get_or-set_same (set held (i * 2) q) (i * 2 + 1) d 0 (rw length-set (omega arith));
    deep = shallow;
    above = above;
    small = small;
    inside = inside;
    rest = noted_same held (set (set held (i * 2) q) (i * 2 + 1) d) m at at (i + nodes ts) os (omega arith) other h;
  }
    where
      other : (j : ℕ) → (i + nodes ts) * 2 ≤ j → j < m → get_or (set (set held (i * 2) q) (i * 2 + 1) d) j 0 ≡ get_or held j 0
      other j l c =
          get_or-set_other (set held (i * 2) q) (i * 2 + 1) j d 0 (λ y. omega (arith, y, l, more))
          ∙ get_or-set_other held (i * 2) j q 0 (λ y. omega (arith, y, l, more))

-- the cells that the trees ts put on begin with
pub noted_push : (held : List ℕ) (m at i w q d : ℕ) (ts : Trees) (os : List Open) (x : ℕ) → x ≡ unless_none ts (suc i) → m ≤ length held → x * 2 ≤ m → x ≤ 4294967295
    → d < i → d * 4 ≤ at → Noted held m at (i + nodes ts) os → Noted (noted held x q d) m at i (push w q d ts os)
unfolding push unless_none nodes is_nil
noted_push held m at i w q d nil os x e r b c s k h = subst (λ y. Noted y m at i os) (sym (noted_none held x q d e)) (subst (λ y. Noted held m at y os) (add-zero i) h)
noted_push held m at i w q d (tree t s l kids later) os x e r b c sh k h =
    subst (λ (y : List ℕ). Noted y m at i (record { words = w; base = q; depth = d; trees = tree t s l kids later } ∷ os)) (sym (noted_some held x q d i e)) (some_noted held m at i w q d (tree t s l kids later) os r sh k (omega arith) refl (omega arith) (omega arith) h)
noted_push held m at i w q d (part s l us later) os x e r b c sh k h =
    subst (λ (y : List ℕ). Noted y m at i (record { words = w; base = q; depth = d; trees = part s l us later } ∷ os)) (sym (noted_some held x q d i e)) (some_noted held m at i w q d (part s l us later) os r sh k (omega arith) refl (omega arith) (omega arith) h)

-- The pass before cell i, with `at` words written: `rest` are the lines still to be written.
pub record State (T F : ℕ) (cs ws held : List ℕ) (m at i : ℕ) (rest : List ℕ) : Type 0 where
  pub opens : List Open
  pub cells_are : drop (i * cell_width) cs ≡ left_cells (i + 1) opens
  pub lines_are : rest ≡ left_lines F opens
  pub good : AllGood T ws opens
  pub notes : Noted held m at i opens

-- a part's cell
pub record PartHere (T : ℕ) (cs ws : List ℕ) (i : ℕ) : Type 0 where
  pub inside : cell_first cs i + cell_count cs i ≤ length ws
  pub kept : part_kept T (cell_length cs i) (part_at cs ws i) ≡ true
  pub short : Short (part_at cs ws i)
  pub few : length (part_at cs ws i) ≤ length ws

-- What a turn at cell i finds in its words, and what it leaves.
pub record Turn (T F : ℕ) (cs ws held : List ℕ) (m at i : ℕ) (rest : List ℕ) (q d : ℕ) : Type 0 where
  pub later : List ℕ
  pub splits : rest ≡ cell_lines F cs ws i q d ++ later
  pub ends : q + cell_position cs i + cell_length cs i ≤ 4294967295
  pub shallow : d < 4294967295
  pub above : d * 4 ≤ at
  pub notes_fit : i * 2 + 2 ≤ m
  pub packed_here : cell_kind cs i ≡ 2 → PartHere T cs ws i
  pub first_room : child_of cs i * cell_width ≤ length cs
  pub next_room : cell_next cs i * cell_width ≤ length cs
  pub goes_on : (at' : ℕ) → at' ≡ at + length (cell_lines F cs ws i q d) → m ≤ length held
      → child_of cs i * 2 ≤ m → cell_next cs i * 2 ≤ m → child_of cs i ≤ 4294967295 → cell_next cs i ≤ 4294967295
      → State T F cs ws (links_noted F cs held i q d) m at' (i + 1) later

-- a link of trees that have a cell within the first m names a cell within the first m
pub link_room : (ts : Trees) (x c m : ℕ) → x ≡ unless_none ts c → c + nodes ts ≤ m + 1 → x ≤ m
unfolding unless_none nodes
link_room nil x c m e h = omega arith
link_room (tree t s l kids later) x c m e h = omega arith
link_room (part s l ws later) x c m e h = omega arith

-- the first child of a tree, and of a part
child_tree : (cs : List ℕ) (i : ℕ) → eqb (cell_kind cs i) 2 ≡ false → child_of cs i ≡ cell_first cs i
unfolding child_of
child_tree cs i a = rw a

child_part : (cs : List ℕ) (i : ℕ) → cell_kind cs i ≡ 2 → child_of cs i ≡ 0
unfolding child_of
child_part cs i a = rw (eq-eqb (cell_kind cs i) 2 a)

pub child_small : (cs : List ℕ) (i m : ℕ) → cell_first cs i ≤ m → child_of cs i ≤ m
unfolding child_of
child_small cs i m h = go (eqb (cell_kind cs i) 2)
  where
    go : (x : Bool) → cond x 0 (cell_first cs i) ≤ m
    go true = omega arith
    go false = h

module _ (T F : ℕ) (cs ws held : List ℕ) (m at i w q d : ℕ) (t : Option ℕ) (s l : ℕ) (kids later : Trees) (os : List Open)
    (h : drop (i * cell_width) cs ≡ left_cells (i + 1) (record { words = w; base = q; depth = d; trees = tree t s l kids later } ∷ os))
    (a : AllGood T ws (record { words = w; base = q; depth = d; trees = tree t s l kids later } ∷ os))
    (n : Noted held m at i (record { words = w; base = q; depth = d; trees = tree t s l kids later } ∷ os)) where
  abbrev o : Open
  o = record { words = w; base = q; depth = d; trees = tree t s l kids later }

  abbrev words_of : Spelt cs i t s l kids later
  words_of = spelt cs i w q d t s l kids later os h

  sizes : nodes (tree t s l kids later) ≡ suc (nodes kids + nodes later)
  unfolding nodes
  sizes = refl

  child_is : child_of cs i ≡ unless_none kids (suc (i + 1))
  child_is = child_tree cs i (other_kind cs i t words_of.kind_is) ∙ words_of.first_is

  first_fits : child_of cs i * cell_width ≤ length cs
  first_fits =
      let k = i + nodes (tree t s l kids later) in
      let r = link_room kids (child_of cs i) (suc (i + 1)) k child_is (omega (arith, sizes)) in
      omega (arith, r, room cs i o os h a.0.some)

  next_fits : cell_next cs i * cell_width ≤ length cs
  next_fits =
      let k = i + nodes (tree t s l kids later) in
      let r = link_room later (cell_next cs i) (i + 1 + suc (nodes kids)) k words_of.next_is (omega (arith, sizes)) in
      omega (arith, r, room cs i o os h a.0.some)

  own : cell_lines F cs ws i q d ≡ node_line F d t (q + s) (q + s + l)
  own = lines_tree F cs ws i q d t words_of.kind_is ∙ own_is F cs i q d t s l words_of.kind_is words_of.id_is words_of.position_is words_of.len_is

  links_are : links_noted F cs held i q d ≡ noted (noted held (cell_next cs i) q d) (child_of cs i) (q + s) (node_below F d t)
  unfolding links_noted
  links_are = rw (words_of.position_is, below_is F cs i d t words_of.kind_is words_of.id_is)

  notes_next : (at' : ℕ) → at' ≡ at + length (cell_lines F cs ws i q d) → m ≤ length held
      → child_of cs i * 2 ≤ m → cell_next cs i * 2 ≤ m → child_of cs i ≤ 4294967295 → cell_next cs i ≤ 4294967295
      → Noted (noted (noted held (cell_next cs i) q d) (child_of cs i) (q + s) (node_below F d t)) m at' (i + 1) (after_tree F w q d t s kids later os)
  notes_next at' e wide ry rx by bx =
      let k = nodes kids in
      let w' = w + length (packed kids) in
      let more : at ≤ at' = omega (arith, e) in
      let (low, lines) = below_small F d t (q + s) (q + s + l) in
      let e₁ : i + 1 + suc k ≡ suc (i + 1 + k) = omega arith in
      let e₂ : i + nodes (tree t s l kids later) ≡ i + 1 + k + nodes later = omega (arith, sizes) in
      let old : Noted held m at' (i + 1 + k + nodes later) os =
      noted_same held held m at at' (i + 1 + k + nodes later) os more (λ j b c. refl) (subst (λ (z : ℕ). Noted held m at z os) e₂ n.rest) in
      let mid : Noted (noted held (cell_next cs i) q d) m at' (i + 1 + k) (after_later w q d kids later os) =
      noted_push held m at' (i + 1 + k) w' q d later os (cell_next cs i) (words_of.next_is ∙ ap (unless_none later) e₁) wide rx bx (omega (arith, n.deep)) (omega (arith, n.above, more)) old in
      noted_push (noted held (cell_next cs i) q d) m at' (i + 1) w (q + s) (node_below F d t) kids (after_later w q d kids later os) (child_of cs i) child_is
      (rw (noted_length held (cell_next cs i) q d) wide) ry by (omega (arith, n.deep, low)) (omega (arith, n.above, lines, e, ap length own)) mid

  tree_turn : Turn T F cs ws held m at i (left_lines F (o ∷ os)) q d
  tree_turn = record {
    later = left_lines F (after_tree F w q d t s kids later os);
    splits = tree_lines F cs ws i w q d t s l kids later os words_of;
    ends = omega (arith, words_of.position_is, words_of.len_is, a.0.fits.ends);
    shallow = omega (arith, n.deep, n.small);
    above = n.above;
    notes_fit = n.inside;
    packed_here = λ e. absurd (true≢false (sym (eq-eqb (cell_kind cs i) 2 e) ∙ other_kind cs i t words_of.kind_is));
    first_room = first_fits;
    next_room = next_fits;
    goes_on = λ at' e wide ry rx by bx.
        rw links_are (record {
          opens = after_tree F w q d t s kids later os;
          cells_are = tree_next cs i w q d t s l kids later os h F;
          lines_are = refl;
          good = after_tree_good T F ws w q d t s l kids later os a.0.fits a.0.holds a.1;
          notes = notes_next at' e wide ry rx by bx;
        });
  }

module _ (T F : ℕ) (cs ws held : List ℕ) (m at i w q d s l : ℕ) (us : List ℕ) (later : Trees) (os : List Open)
    (h : drop (i * cell_width) cs ≡ left_cells (i + 1) (record { words = w; base = q; depth = d; trees = part s l us later } ∷ os))
    (a : AllGood T ws (record { words = w; base = q; depth = d; trees = part s l us later } ∷ os))
    (n : Noted held m at i (record { words = w; base = q; depth = d; trees = part s l us later } ∷ os)) where
  abbrev p : Open
  p = record { words = w; base = q; depth = d; trees = part s l us later }

  abbrev part_words_of : SpeltPart cs i w s l us later
  part_words_of = spelt_part cs i w q d s l us later os h

  part_sizes : nodes (part s l us later) ≡ suc (nodes later)
  unfolding nodes
  part_sizes = refl

  is_part : part_at cs ws i ≡ us
  is_part = part_is cs ws i w s l us later part_words_of a.0.holds

  part_here : PartHere T cs ws i
  part_here = record {
    inside = omega (arith, part_inside ws w s l us later a.0.holds, part_words_of.first_is, part_words_of.count_is);
    kept = ap₂ (part_kept T) part_words_of.len_is is_part ∙ a.0.fits.kept;
    short = subst Short (sym is_part) a.0.fits.short;
    few = omega (arith, ap length is_part, part_inside ws w s l us later a.0.holds);
  }

  part_next_fits : cell_next cs i * cell_width ≤ length cs
  part_next_fits =
      let k = i + nodes (part s l us later) in
      let r = link_room later (cell_next cs i) (suc (i + 1)) k part_words_of.next_is (omega (arith, part_sizes)) in
      omega (arith, r, room cs i p os h a.0.some)

  part_links : links_noted F cs held i q d ≡ noted held (cell_next cs i) q d
  unfolding links_noted
  part_links = noted_none (noted held (cell_next cs i) q d) (child_of cs i) _ _ (child_part cs i part_words_of.kind_is)

  part_notes : (at' : ℕ) → at ≤ at' → m ≤ length held → cell_next cs i * 2 ≤ m → cell_next cs i ≤ 4294967295
      → Noted (noted held (cell_next cs i) q d) m at' (i + 1) (after_part w q d us later os)
  part_notes at' more wide rx bx =
      let e₂ : i + nodes (part s l us later) ≡ i + 1 + nodes later = omega (arith, part_sizes) in
      let old : Noted held m at' (i + 1 + nodes later) os =
      noted_same held held m at at' (i + 1 + nodes later) os more (λ j b c. refl) (subst (λ (z : ℕ). Noted held m at z os) e₂ n.rest) in
      noted_push held m at' (i + 1) (w + length us) q d later os (cell_next cs i) part_words_of.next_is wide rx bx (omega (arith, n.deep)) (omega (arith, n.above)) old

  part_turn : Turn T F cs ws held m at i (left_lines F (p ∷ os)) q d
  part_turn = record {
    later = left_lines F (after_part w q d us later os);
    splits = part_lines F cs ws i w q d s l us later os part_words_of a.0.holds;
    ends = omega (arith, part_words_of.position_is, part_words_of.len_is, a.0.fits.ends);
    shallow = omega (arith, n.deep, n.small);
    above = n.above;
    notes_fit = n.inside;
    packed_here = λ e. part_here;
    first_room = omega (arith, child_part cs i part_words_of.kind_is);
    next_room = part_next_fits;
    goes_on = λ at' e wide ry rx by bx.
        rw part_links (record {
          opens = after_part w q d us later os;
          cells_are = part_next cs i w q d s l us later os h;
          lines_are = refl;
          good = after_part_good T ws w q d s l us later os a.0.fits a.0.holds a.1;
          notes = part_notes at' (omega (arith, e)) wide rx bx;
        });
  }

module _ (T F : ℕ) (cs ws held : List ℕ) (m at i : ℕ) where
  one_turn : (w q d : ℕ) (ts : Trees) (os : List Open) → drop (i * cell_width) cs ≡ left_cells (i + 1) (record { words = w; base = q; depth = d; trees = ts } ∷ os)
      → AllGood T ws (record { words = w; base = q; depth = d; trees = ts } ∷ os) → Noted held m at i (record { words = w; base = q; depth = d; trees = ts } ∷ os)
      → Turn T F cs ws held m at i (left_lines F (record { words = w; base = q; depth = d; trees = ts } ∷ os)) q d
  unfolding is_nil
  one_turn w q d nil os h a n = absurd (true≢false a.0.some)
  one_turn w q d (tree t s l kids later) os h a n = tree_turn T F cs ws held m at i w q d t s l kids later os h a n
  one_turn w q d (part s l us later) os h a n = part_turn T F cs ws held m at i w q d s l us later os h a n

  nothing_left : i * cell_width < length cs → drop (i * cell_width) cs ≡ left_cells (i + 1) [] → ⊥
  unfolding left_cells
  nothing_left l h = omega (arith, ap length h, length-drop (i * cell_width) cs)

  pub turn : (rest : List ℕ) → i * cell_width < length cs → State T F cs ws held m at i rest → Turn T F cs ws held m at i rest (get_or held (i * 2) 0) (get_or held (i * 2 + 1) 0)
  turn rest l s = rw s.lines_are (go s.opens s.cells_are s.good s.notes)
    where
      go : (os : List Open) → drop (i * cell_width) cs ≡ left_cells (i + 1) os → AllGood T ws os → Noted held m at i os
          → Turn T F cs ws held m at i (left_lines F os) (get_or held (i * 2) 0) (get_or held (i * 2 + 1) 0)
      go [] h a n = absurd (nothing_left l h)
      go (o ∷ os) h a n = rw (n.base_at, n.depth_at) (one_turn o.words o.base o.depth o.trees os h a n)

  -- at the end nothing is left
  pub state_end : (rest : List ℕ) → length cs ≤ i * cell_width → State T F cs ws held m at i rest → rest ≡ []
  unfolding left_lines
  state_end rest l s =
      let e : length (left_cells (i + 1) s.opens) ≡ 0 = sym (ap length s.cells_are) ∙ omega (arith, length-drop (i * cell_width) cs) in
      s.lines_are ∙ ap (left_lines F) (none_left T ws (i + 1) s.opens s.good e)

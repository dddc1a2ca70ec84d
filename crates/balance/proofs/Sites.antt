-- What each cell of a tree says, by the lists of bases and of trees in cell order: its own words, and where its links lead.
-- Assumes nothing.
use mathlib.Core.Path.{◌≡◌, refl, sym, ap, subst, ◌∙◌}
use mathlib.Core.List.{List, [], ◌∷◌, ◌++◌, append_assoc}
use Rattle.std.specs.Prelude.{Option}
use mathlib.Core.Logic.{◌⊎◌, inl, inr}
use Prim.Native.Nat.{ℕ, suc, ◌+◌, ◌-◌, ◌*◌, ◌≤◌, ◌<◌}
use native.Mathlib.Omega.{arith}
use native.Mathlib.Decide.{dec_lt, ℕ_discrete}
use lib.ListN.{length, get_or, drop, length-append, get_or-append}
use lib.Seq.{get_or-drop, drop-drop, drop_at}
use Rattle.tree.specs.Trees.{Trees, nil, tree, part, nodes, siblings}
use Rattle.tree.specs.Cells.{packed, kind, id_word, cells, relative, unless_none, cell_width, cell_kind, cell_id, cell_position, cell_length, cell_first, cell_count, cell_next}
use Rattle.tree.proofs.CellLaws.{length_cells}
use Rattle.store.proofs.Flow.{relative_nodes, Later, more, flow, flow_tree, flow_part}
use Rattle.store.proofs.Types.{not_part}
use Rattle.balance.specs.Steps.{bases, onwards}

-- a list of which the words from c on are known
module _ {A : Type 0} (l : List A) (c : ℕ) where
  head_at : (x d : A) (r : List A) → drop c l ≡ x ∷ r → get_or l c d ≡ x
  head_at x d r e =
      let z : c ≡ c + 0 = omega arith in
      ap (λ (k : ℕ). get_or l k d) z ∙ sym (get_or-drop c l 0 d) ∙ ap (λ (m : List A). get_or m 0 d) e

  skip : (p r : List A) (k : ℕ) → drop c l ≡ p ++ r → length p ≡ k → drop (c + k) l ≡ r
  skip p r k e h = sym (drop-drop k c l) ∙ ap (drop k) e ∙ drop_at p r k h

  tail_at : (x : A) (r : List A) → drop c l ≡ x ∷ r → drop (suc c) l ≡ r
  tail_at x r e =
      let z : suc c ≡ c + 1 = omega arith in
      ap (λ (k : ℕ). drop k l) z ∙ sym (drop-drop 1 c l) ∙ ap (drop 1) e

length_bases : (q : ℕ) (ts : Trees) → length (bases q ts) ≡ nodes ts
unfolding bases nodes
length_bases q nil = refl
length_bases q (tree t s l kids rest) = omega (arith, length-append (bases s kids) (bases q rest), length_bases s kids, length_bases q rest)
length_bases q (part s l ws rest) = omega (arith, length_bases q rest)

length_onwards : (ts : Trees) → length (onwards ts) ≡ nodes ts
unfolding onwards nodes
length_onwards nil = refl
length_onwards (tree t s l kids rest) = omega (arith, length-append (onwards kids) (onwards rest), length_onwards kids, length_onwards rest)
length_onwards (part s l ws rest) = omega (arith, length_onwards rest)

-- each starts at or after its parent's start, and all starts fit 32 bits
abbrev pub Fits : (q : ℕ) → Trees → Type 0
Fits q nil = Unit {0}
Fits q (tree t s l kids rest) = record { starts : q ≤ s; small : s ≤ 4294967295; inner : Fits s kids; after : Fits q rest }
Fits q (part s l ws rest) = record { starts : q ≤ s; small : s ≤ 4294967295; after : Fits q rest }

some_named : (ts : Trees) (x : ℕ) → 1 ≤ nodes ts → unless_none ts x ≡ x
unfolding unless_none nodes
some_named nil x h = absurd (omega arith)
some_named (tree t s l kids rest) x h = refl
some_named (part s l ws rest) x h = refl

module _ (cs ws bs : List ℕ) (us : List Trees) (n : ℕ) where
  -- the trees ts, whose parent starts at q, begin with cell y, which comes after cell k
  pub record Begins (k q : ℕ) (ts : Trees) (y : ℕ) : Type 0 where
    pub later : k < y
    pub within : y < n
    pub base_at : get_or bs y 0 ≡ q
    pub trees_at : get_or us y nil ≡ ts

  -- the link x of cell k leads to the trees ts
  abbrev pub Leads : (k q : ℕ) (ts : Trees) (x : ℕ) → Type 0
  Leads k q ts x = ((ts ≡ nil) × (x ≡ 0)) ⊎ ((y : ℕ) × (x ≡ suc y) × Begins k q ts y)

  -- cell k is a tree, with these words
  pub record TreeAt (k : ℕ) : Type 0 where
    pub type : Option ℕ
    pub start : ℕ
    pub len : ℕ
    pub kids : Trees
    pub rest : Trees
    pub here : get_or us k nil ≡ tree type start len kids rest
    pub kind_is : cell_kind cs k ≡ kind type
    pub id_is : cell_id cs k ≡ id_word type
    pub start_is : get_or bs k 0 + cell_position cs k ≡ start
    pub small : start ≤ 4294967295
    pub len_is : cell_length cs k ≡ len
    pub first_is : Leads k start kids (cell_first cs k)
    pub count_is : cell_count cs k ≡ siblings kids
    pub next_is : Leads k (get_or bs k 0) rest (cell_next cs k)

  -- cell k is a part, with these words
  pub record PartAt (k : ℕ) : Type 0 where
    pub start : ℕ
    pub len : ℕ
    pub held : List ℕ
    pub rest : Trees
    pub here : get_or us k nil ≡ part start len held rest
    pub kind_is : cell_kind cs k ≡ 2
    pub start_is : get_or bs k 0 + cell_position cs k ≡ start
    pub small : start ≤ 4294967295
    pub len_is : cell_length cs k ≡ len
    pub inside : cell_first cs k + length held ≤ length ws
    pub words_at : (j : ℕ) → j < length held → get_or ws (cell_first cs k + j) 0 ≡ get_or held j 0
    pub count_is : cell_count cs k ≡ length held
    pub next_is : Leads k (get_or bs k 0) rest (cell_next cs k)

  -- cell j names cell k by next, or by first
  abbrev pub Named : (j k : ℕ) → Type 0
  Named j k = (cell_next cs j ≡ suc k) ⊎ ((cell_kind cs j ≡ 2 → ⊥) × (cell_first cs j ≡ suc k))

  -- cell k is the first one, or an earlier one names it
  abbrev pub Reached : (k : ℕ) → Type 0
  Reached k = (k ≡ 0) ⊎ ((j : ℕ) × (j < k) × Named j k)

  -- what is known of cell k
  pub record Site (k : ℕ) : Type 0 where
    pub own : TreeAt k ⊎ PartAt k
    pub reached : Reached k

  leads : (k q y x : ℕ) (ts : Trees) (lb : List ℕ) (lu : List Trees) → x ≡ unless_none ts (suc y) → drop y bs ≡ bases q ts ++ lb → drop y us ≡ onwards ts ++ lu
      → k < y → y + nodes ts ≤ n → Leads k q ts x
  unfolding bases onwards unless_none nodes
  leads k q y x nil lb lu e b u m f = inl (refl, e)
  leads k q y x (tree t s l kids rest) lb lu e b u m f =
      inr (y, e, record { later = m; within = omega arith; base_at = head_at bs y q 0 _ b; trees_at = head_at us y (tree t s l kids rest) nil _ u })
  leads k q y x (part s l vs rest) lb lu e b u m f =
      inr (y, e, record { later = m; within = omega arith; base_at = head_at bs y q 0 _ b; trees_at = head_at us y (part s l vs rest) nil _ u })

  -- The siblings ts, whose parent starts at q, from cell c and packed word w on; what comes after them.
  pub record From (q w c : ℕ) (ts : Trees) : Type 0 where
    pub after_bases : List ℕ
    pub after_trees : List Trees
    pub after_cells : Later
    pub after_words : List ℕ
    pub bases_are : drop c bs ≡ bases q ts ++ after_bases
    pub trees_are : drop c us ≡ onwards ts ++ after_trees
    pub cells_are : drop (c * cell_width) cs ≡ flow (suc c) w (more q ts after_cells)
    pub words_are : drop w ws ≡ packed ts ++ after_words
    pub words_in : w + length (packed ts) ≤ length ws
    pub cells_in : c + nodes ts ≤ n
    pub fits : Fits q ts
    pub reached : 1 ≤ nodes ts → Reached c

  cell_word : (c k x : ℕ) (l : List ℕ) → drop (c * cell_width) cs ≡ l → get_or l k 0 ≡ x → get_or cs (c * cell_width + k) 0 ≡ x
  cell_word c k x l e h = sym (get_or-drop (c * cell_width) cs k 0) ∙ ap (λ (m : List ℕ). get_or m k 0) e ∙ h

  cell_skip : (c : ℕ) (p r : List ℕ) → drop (c * cell_width) cs ≡ p ++ r → length p ≡ 7 → drop (suc c * cell_width) cs ≡ r
  cell_skip c p r e h =
      let z : suc c * cell_width ≡ c * cell_width + cell_width = omega arith in
      ap (λ (k : ℕ). drop k cs) z ∙ skip cs (c * cell_width) p r 7 e h

  module _ (q w c : ℕ) (t : Option ℕ) (s l : ℕ) (kids rest : Trees) (f : From q w c (tree t s l kids rest)) where
    abbrev after : ℕ
    after = suc c + nodes kids

    abbrev spelt : drop (c * cell_width) cs ≡ kind t ∷ id_word t ∷ (s - q) ∷ l ∷ unless_none kids (suc (suc c)) ∷ siblings kids ∷ unless_none rest (suc (suc c) + nodes kids)
        ∷ flow (suc (suc c)) w (more s kids (more q rest f.after_cells))
    spelt = f.cells_are ∙ flow_tree (suc c) w q t s l kids rest f.after_cells

    one_later : suc (suc c) + nodes kids ≡ suc after
    one_later = omega arith

    next_named : cell_next cs c ≡ unless_none rest (suc after)
    next_named = cell_word c 6 _ _ spelt refl ∙ ap (unless_none rest) one_later

    inner_bases : drop (suc c) bs ≡ bases s kids ++ (bases q rest ++ f.after_bases)
    unfolding bases
    inner_bases = tail_at bs c q _ f.bases_are ∙ append_assoc (bases s kids) (bases q rest) f.after_bases

    inner_trees : drop (suc c) us ≡ onwards kids ++ (onwards rest ++ f.after_trees)
    unfolding onwards
    inner_trees = tail_at us c (tree t s l kids rest) _ f.trees_are ∙ append_assoc (onwards kids) (onwards rest) f.after_trees

    inner_words : drop w ws ≡ packed kids ++ (packed rest ++ f.after_words)
    unfolding packed
    inner_words = f.words_are ∙ append_assoc (packed kids) (packed rest) f.after_words

    inner_cells : drop (suc c * cell_width) cs ≡ flow (suc (suc c)) w (more s kids (more q rest f.after_cells))
    inner_cells =
        cell_skip c (kind t ∷ id_word t ∷ (s - q) ∷ l ∷ unless_none kids (suc (suc c)) ∷ siblings kids ∷ unless_none rest (suc (suc c) + nodes kids) ∷ []) _ spelt refl

    later_bases : drop after bs ≡ bases q rest ++ f.after_bases
    later_bases = skip bs (suc c) (bases s kids) (bases q rest ++ f.after_bases) (nodes kids) inner_bases (length_bases s kids)

    later_trees : drop after us ≡ onwards rest ++ f.after_trees
    later_trees = skip us (suc c) (onwards kids) (onwards rest ++ f.after_trees) (nodes kids) inner_trees (length_onwards kids)

    later_words : drop (w + length (packed kids)) ws ≡ packed rest ++ f.after_words
    later_words = skip ws w (packed kids) (packed rest ++ f.after_words) (length (packed kids)) inner_words refl

    later_cells : drop (after * cell_width) cs ≡ flow (suc after) (w + length (packed kids)) (more q rest f.after_cells)
    unfolding flow
    later_cells =
        let z : after * cell_width ≡ suc c * cell_width + cell_width * nodes kids = omega arith in
        ap (λ (k : ℕ). drop k cs) z
        ∙ skip cs (suc c * cell_width) (cells (suc (suc c)) w (relative s kids)) _ (cell_width * nodes kids) inner_cells
        (length_cells (suc (suc c)) w (relative s kids) ∙ ap (λ (k : ℕ). cell_width * k) (relative_nodes s kids))
        ∙ ap (λ (k : ℕ). flow k (w + length (packed kids)) (more q rest f.after_cells)) one_later

    words_more : length (packed (tree t s l kids rest)) ≡ length (packed kids) + length (packed rest)
    unfolding packed
    words_more = length-append (packed kids) (packed rest)

    nodes_more : nodes (tree t s l kids rest) ≡ suc (nodes kids + nodes rest)
    unfolding nodes
    nodes_more = refl

    inner : From s w (suc c) kids
    inner = record {
      after_bases = bases q rest ++ f.after_bases;
      after_trees = onwards rest ++ f.after_trees;
      after_cells = more q rest f.after_cells;
      after_words = packed rest ++ f.after_words;
      bases_are = inner_bases;
      trees_are = inner_trees;
      cells_are = inner_cells;
      words_are = inner_words;
      words_in = omega (arith, words_more, f.words_in);
      cells_in = omega (arith, nodes_more, f.cells_in);
      fits = f.fits.inner;
      reached = λ some. inr (
        c,
        omega arith,
        inr (
          (λ e. not_part t (sym (head_at cs (c * cell_width) (kind t) 0 _ spelt) ∙ e)),
          cell_word c 4 _ _ spelt refl ∙ some_named kids (suc (suc c)) some,
        ),
      );
    }

    next : From q (w + length (packed kids)) after rest
    next = record {
      after_bases = f.after_bases;
      after_trees = f.after_trees;
      after_cells = f.after_cells;
      after_words = f.after_words;
      bases_are = later_bases;
      trees_are = later_trees;
      cells_are = later_cells;
      words_are = later_words;
      words_in = omega (arith, words_more, f.words_in);
      cells_in = omega (arith, nodes_more, f.cells_in);
      fits = f.fits.after;
      reached = λ some. inr (c, omega arith, inl (next_named ∙ some_named rest (suc after) some));
    }

    base_here : get_or bs c 0 ≡ q
    unfolding bases
    base_here = head_at bs c q 0 _ f.bases_are

    tree_here : TreeAt c
    unfolding onwards
    tree_here = record {
      type = t;
      start = s;
      len = l;
      kids = kids;
      rest = rest;
      here = head_at us c (tree t s l kids rest) nil _ f.trees_are;
      kind_is = head_at cs (c * cell_width) (kind t) 0 _ spelt;
      id_is = cell_word c 1 _ _ spelt refl;
      start_is = omega (arith, base_here, cell_word c 2 (s - q) _ spelt refl, f.fits.starts);
      small = f.fits.small;
      len_is = cell_word c 3 _ _ spelt refl;
      first_is = leads c s (suc c) _ kids _ _ (cell_word c 4 _ _ spelt refl) inner_bases inner_trees (omega arith) (omega (arith, nodes_more, f.cells_in));
      count_is = cell_word c 5 _ _ spelt refl;
      next_is = leads c (get_or bs c 0) after _ rest _ _ next_named (later_bases ∙ ap (λ (k : ℕ). bases k rest ++ f.after_bases) (sym base_here)) later_trees (omega arith) (omega (arith, nodes_more, f.cells_in));
    }

  module _ (q w c s l : ℕ) (vs : List ℕ) (rest : Trees) (f : From q w c (part s l vs rest)) where
    abbrev written : drop (c * cell_width) cs ≡ 2 ∷ 0 ∷ (s - q) ∷ l ∷ w ∷ length vs ∷ unless_none rest (suc (suc c)) ∷ flow (suc (suc c)) (w + length vs) (more q rest f.after_cells)
    written = f.cells_are ∙ flow_part (suc c) w q s l vs rest f.after_cells

    rest_bases : drop (suc c) bs ≡ bases q rest ++ f.after_bases
    unfolding bases
    rest_bases = tail_at bs c q _ f.bases_are

    rest_trees : drop (suc c) us ≡ onwards rest ++ f.after_trees
    unfolding onwards
    rest_trees = tail_at us c (part s l vs rest) _ f.trees_are

    own_words : drop w ws ≡ vs ++ (packed rest ++ f.after_words)
    unfolding packed
    own_words = f.words_are ∙ append_assoc vs (packed rest) f.after_words

    part_words : length (packed (part s l vs rest)) ≡ length vs + length (packed rest)
    unfolding packed
    part_words = length-append vs (packed rest)

    part_nodes : nodes (part s l vs rest) ≡ suc (nodes rest)
    unfolding nodes
    part_nodes = refl

    following : From q (w + length vs) (suc c) rest
    following = record {
      after_bases = f.after_bases;
      after_trees = f.after_trees;
      after_cells = f.after_cells;
      after_words = f.after_words;
      bases_are = rest_bases;
      trees_are = rest_trees;
      cells_are = cell_skip c (2 ∷ 0 ∷ (s - q) ∷ l ∷ w ∷ length vs ∷ unless_none rest (suc (suc c)) ∷ []) _ written refl;
      words_are = skip ws w vs (packed rest ++ f.after_words) (length vs) own_words refl;
      words_in = omega (arith, part_words, f.words_in);
      cells_in = omega (arith, part_nodes, f.cells_in);
      fits = f.fits.after;
      reached = λ some. inr (c, omega arith, inl (cell_word c 6 _ _ written refl ∙ some_named rest (suc (suc c)) some));
    }

    part_base : get_or bs c 0 ≡ q
    unfolding bases
    part_base = head_at bs c q 0 _ f.bases_are

    part_here : PartAt c
    unfolding onwards
    part_here =
        let w_is : cell_first cs c ≡ w = cell_word c 4 _ _ written refl in
        record {
          start = s;
          len = l;
          held = vs;
          rest = rest;
          here = head_at us c (part s l vs rest) nil _ f.trees_are;
          kind_is = head_at cs (c * cell_width) 2 0 _ written;
          start_is = omega (arith, part_base, cell_word c 2 (s - q) _ written refl, f.fits.starts);
          small = f.fits.small;
          len_is = cell_word c 3 _ _ written refl;
          inside = omega (arith, w_is, part_words, f.words_in);
          words_at = λ j m. ap (λ (k : ℕ). get_or ws (k + j) 0) w_is ∙ sym (get_or-drop w ws j 0) ∙ ap (λ (v : List ℕ). get_or v j 0) own_words ∙ get_or-append vs (packed rest ++ f.after_words) 0 j m;
          count_is = cell_word c 5 _ _ written refl;
          next_is = leads c (get_or bs c 0) (suc c) _ rest _ _ (cell_word c 6 _ _ written refl) (rest_bases ∙ ap (λ (k : ℕ). bases k rest ++ f.after_bases) (sym part_base)) rest_trees (omega arith) (omega (arith, part_nodes, f.cells_in));
        }

  -- each cell of the siblings
  pub sites : (q w c : ℕ) (ts : Trees) → From q w c ts → (k : ℕ) → c ≤ k → k < c + nodes ts → Site k
  unfolding nodes
  sites q w c nil f k a b = absurd (omega arith)
  sites q w c (tree t s l kids rest) f k a b =
      go (ℕ_discrete c k) (dec_lt k (suc c + nodes kids)) (sites s w (suc c) kids (inner q w c t s l kids rest f) k)
      (sites q (w + length (packed kids)) (suc c + nodes kids) rest (next q w c t s l kids rest f) k)
    where
      go : Dec (c ≡ k) → Dec (k < suc c + nodes kids) → (suc c ≤ k → k < suc c + nodes kids → Site k) → (suc c + nodes kids ≤ k → k < suc c + nodes kids + nodes rest → Site k) → Site k
      go (yes e) d x y = subst Site e (record { own = inl (tree_here q w c t s l kids rest f); reached = f.reached (omega arith) })
      go (no e) (yes d) x y = x (omega arith) d
      go (no e) (no d) x y = y (omega arith) (omega arith)
  sites q w c (part s l vs rest) f k a b = go (ℕ_discrete c k) (sites q (w + length vs) (suc c) rest (following q w c s l vs rest f) k)
    where
      go : Dec (c ≡ k) → (suc c ≤ k → k < suc c + nodes rest → Site k) → Site k
      go (yes e) y = subst Site e (record { own = inr (part_here q w c s l vs rest f); reached = f.reached (omega arith) })
      go (no e) y = y (omega arith) (omega arith)

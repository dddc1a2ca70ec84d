-- The cells of trees that keep the rules are read without a fault. By induction on the trees. Assumes nothing.
use mathlib.Core.Path.{◌≡◌, refl, sym, ap, ap₂, subst, ◌∙◌}
use mathlib.Core.Bool.{Bool, true, false}
use mathlib.Core.List.{List, [], ◌∷◌, ◌++◌, append_assoc}
use Rattle.std.specs.Prelude.{Option, None, Some}
use Prim.Native.Nat.{ℕ, suc, ◌+◌, ◌≤◌, ◌<◌}
use native.Mathlib.Omega.{arith}
use native.Mathlib.Nat.{add-zero}
use borrow.Author.Tests.{ne_eqb}
use lib.Dec.{eqb}
use Rattle.rules.specs.Cell.{Cell, is_part}
use Rattle.rules.specs.Lowest.{chain, chains, any_part, Named, next_named, first_named, words_end, lowest_from}
use lib.ListN.{length, drop, length-append}
use lib.Seq.{drop-drop, drop_at}
use Rattle.tree.specs.Trees.{Trees, nil, tree, part, nodes, siblings}
use Rattle.tree.specs.Materialise.{within}
use Rattle.tree.specs.Cells.{absolute, packed, unless_none}
use Rattle.tree.proofs.WellLaws.{well-≤}
use Rattle.rules.proofs.Keeping.{Keeps, none_broken, child_tree, first_part, end_tree, end_part}
use Rattle.rules.proofs.Listed.{listed, chain_listed, no_part}
use Rattle.rules.proofs.CellsKept.{due, Apart, apart_less, apart_due, upper, cell_of_tree, cell_of_part, tree_kind, tree_kept, part_cell_kept}
use Rattle.tree.specs.Well.{Parts, Sound}

module _ (T : ℕ) (types : T ≤ 65536) (ws : List ℕ) (n S hi : ℕ) (fits : S + hi ≤ 4294967295) where
  pub words_split : (w : ℕ) (xs ys : List ℕ) → drop w ws ≡ xs ++ ys → drop (w + length xs) ws ≡ ys
  words_split w xs ys h = sym (drop-drop (length xs) w ws) ∙ (ap (drop (length xs)) h ∙ drop_at xs ys (length xs) refl)

  pub lowest_step : (c w : ℕ) (d : Named) (ds : List Named) (k : Cell) (ks : List Cell) → Keeps T ws n c w d ds k ks
      → lowest_from T ws n c w (d ∷ ds) (k ∷ ks) ≡ lowest_from T ws n (suc c) (words_end w k) (first_named c d k (next_named d k ds)) ks
  unfolding lowest_from
  lowest_step c w d ds k ks h =
      ap (λ b. elim b as (λ x. ℕ) [ true ↦ c | false ↦ lowest_from T ws n (suc c) (words_end w k) (first_named c d k (next_named d k ds)) ks ])
      (none_broken T ws n c w d ds k ks h)

  due_some : (c after : ℕ) (within : Option ℕ) (base : ℕ) (ds : List Named) → 0 < c → due c after within base ds ≡ record { cell = c; after = after; within = within; base = base } ∷ ds
  unfolding due
  due_some c after within base ds h = rw (ne_eqb c 0 (λ e. omega arith), due)

  -- trees are read without a fault
  abbrev pub Runs : (ts : Trees) (c w after : ℕ) (within : Option ℕ) (b : ℕ) → List Named → Type 0
  Runs ts c w after within b ds =
      (ks : List Cell) → (any_part ks ≡ false → w + length (packed ts) ≡ length ws)
      → lowest_from T ws n c w (due (unless_none ts c) after within (S + b) ds) (listed c w ts ++ ks) ≡ lowest_from T ws n (c + nodes ts) (w + length (packed ts)) ds ks

  runs_nil : (c w after : ℕ) (within : Option ℕ) (b : ℕ) (ds : List Named) → Runs nil c w after within b ds
  unfolding due unless_none listed packed nodes
  runs_nil c w after within b ds ks h = ap₂ (λ x y. lowest_from T ws n x y ds ks) (sym (add-zero c)) (sym (add-zero w))

  -- what a cell names
  next_due : (d : Named) (k : Cell) (ds : List Named) → next_named d k ds ≡ due k.next (k.position + k.len) d.within d.base ds
  unfolding next_named due
  next_due d k ds = refl

  first_due : (c : ℕ) (d : Named) (k : Cell) (ds : List Named) → is_part k ≡ false → (c ≡ 1 → ⊥) → first_named c d k ds ≡ due k.first 0 (Some k.len) (d.base + k.position) ds
  unfolding first_named due
  first_due c d k ds p ne = ap₂ Shape (child_tree k p) (ne_eqb c 1 ne)
    where
      Shape : ℕ → Bool → List Named
      Shape y o =
          elim (eqb y 0) [
            | true ↦ ds
            | false ↦ record { cell = k.first; after = 0; within = elim o [ true ↦ None | false ↦ Some k.len ]; base = d.base + k.position } ∷ ds
          ]

  -- a cell that keeps the rules is passed over
  pass_tree : (c w : ℕ) (d : Named) (ds : List Named) (k : Cell) (ks : List Cell) → is_part k ≡ false → (c ≡ 1 → ⊥) → Keeps T ws n c w d ds k ks
      → lowest_from T ws n c w (d ∷ ds) (k ∷ ks)
      ≡ lowest_from T ws n (suc c) w (due k.first 0 (Some k.len) (d.base + k.position) (due k.next (k.position + k.len) d.within d.base ds)) ks
  pass_tree c w d ds k ks p ne h =
      lowest_step c w d ds k ks h
      ∙ ap₂ (λ x y. lowest_from T ws n (suc c) x y ks) (end_tree w k p)
      (first_due c d k (next_named d k ds) p ne ∙ ap (due k.first 0 (Some k.len) (d.base + k.position)) (next_due d k ds))

  pass_part : (c w : ℕ) (d : Named) (ds : List Named) (k : Cell) (ks : List Cell) → is_part k ≡ true → Keeps T ws n c w d ds k ks
      → lowest_from T ws n c w (d ∷ ds) (k ∷ ks)
      ≡ lowest_from T ws n (suc c) (k.first + k.count) (due k.next (k.position + k.len) d.within d.base ds) ks
  pass_part c w d ds k ks p h =
      lowest_step c w d ds k ks h
      ∙ ap₂ (λ x y. lowest_from T ws n (suc c) x y ks) (end_part w k p) (first_part c d k (next_named d k ds) p ∙ next_due d k ds)

  -- the conditions under which trees are read without a fault
  pub record Good (ts : Trees) (c w after : ℕ) (within : Option ℕ) (b : ℕ) (ds : List Named) (more : List ℕ) : Type 0 where
    pub two : 2 ≤ c
    pub room : c + nodes ts ≤ suc n
    pub apart : Apart (c + nodes ts) ds
    pub sound : Sound T (b + after) (upper T types ws n S hi fits within b) (absolute b ts)
    pub most : upper T types ws n S hi fits within b ≤ hi
    pub words : drop w ws ≡ packed ts ++ more
    pub fill : w + length (packed ts) ≤ length ws

  module _ (c w after : ℕ) (within : Option ℕ) (b : ℕ) (ds : List Named) (more : List ℕ) where
    module _ (t : Option ℕ) (s l : ℕ) (kids rest : Trees) (g : Good (tree t s l kids rest) c w after within b ds more) where
      abbrev c' : ℕ
      c' = c + suc (nodes kids)

      abbrev w' : ℕ
      w' = w + length (packed kids)

      abbrev ds' : List Named
      ds' = due (unless_none rest c') (s + l) within (S + b) ds

      low : b + (s + l) ≤ upper T types ws n S hi fits within b
      unfolding absolute
      low = omega (arith, well-≤ T (Parts T) (b + s + l) (upper T types ws n S hi fits within b) (absolute b rest) g.sound.rest)

      sizes : length (packed (tree t s l kids rest)) ≡ length (packed kids) + length (packed rest)
      unfolding packed
      sizes = length-append (packed kids) (packed rest)

      count_all : nodes (tree t s l kids rest) ≡ suc (nodes kids + nodes rest)
      unfolding nodes
      count_all = refl

      words_kids : drop w ws ≡ packed kids ++ (packed rest ++ more)
      unfolding packed
      words_kids = g.words ∙ append_assoc (packed kids) (packed rest) more

      good_kids : Good kids (suc c) w 0 (Some l) (b + s) ds' (packed rest ++ more)
      unfolding absolute upper
      good_kids =
          let e : b + s + 0 ≡ b + s = add-zero (b + s) in
          record {
            two = omega (arith, g.two);
            room = omega (arith, g.room, count_all);
            apart = apart_due (suc c + nodes kids) (unless_none rest c') (s + l) within (S + b) rest c' ds (omega arith) refl
                (apart_less (c + nodes (tree t s l kids rest)) (suc c + nodes kids) ds (omega (arith, count_all)) g.apart);
            sound = subst (λ y. Sound T y (b + s + l) (absolute (b + s) kids)) (sym e) g.sound.inner;
            most = omega (arith, low, g.most);
            words = words_kids;
            fill = omega (arith, sizes, g.fill);
          }

      good_rest : Good rest c' w' (s + l) within b ds more
      unfolding absolute
      good_rest =
          let e : b + s + l ≡ b + (s + l) = omega arith in
          record {
            two = omega (arith, g.two);
            room = omega (arith, g.room, count_all);
            apart = apart_less (c + nodes (tree t s l kids rest)) (c' + nodes rest) ds (omega (arith, count_all)) g.apart;
            sound = subst (λ y. Sound T y (upper T types ws n S hi fits within b) (absolute b rest)) e g.sound.rest;
            most = g.most;
            words = words_split w (packed kids) (packed rest ++ more) words_kids;
            fill = omega (arith, sizes, g.fill);
          }

      abbrev here : Named
      here = record { cell = c; after = after; within = within; base = S + b }

      abbrev inner_cells : List Cell
      inner_cells = listed (suc c) w kids

      abbrev outer_cells : List Cell
      outer_cells = listed c' w' rest

      counted : (ks : List Cell) → siblings kids ≡ chain c (unless_none kids (suc c)) (chains (suc c) ((inner_cells ++ outer_cells) ++ ks))
      counted ks =
          sym (ap (λ r. chain c (unless_none kids (suc c)) (chains (suc c) r)) (append_assoc inner_cells outer_cells ks)
          ∙ subst (λ y. chain c (unless_none kids y) (chains (suc c) (listed y w kids ++ (outer_cells ++ ks))) ≡ siblings kids) (add-zero (suc c)) (chain_listed kids c w [] (outer_cells ++ ks)))

      kept_here : (ks : List Cell) → Keeps T ws n c w here ds (cell_of_tree T types ws n S hi fits c w b here ds t s l kids rest ((inner_cells ++ outer_cells) ++ ks)) ((inner_cells ++ outer_cells) ++ ks)
      unfolding absolute
      kept_here ks =
          tree_kept T types ws n S hi fits c w b here ds t s l kids rest ((inner_cells ++ outer_cells) ++ ks) g.two refl g.apart g.room refl
          (omega (arith, g.sound.starts)) low g.most g.sound.known (counted ks)

      runs_tree : Runs kids (suc c) w 0 (Some l) (b + s) ds' → Runs rest c' w' (s + l) within b ds → Runs (tree t s l kids rest) c w after within b ds
      unfolding listed unless_none nodes
      runs_tree f h ks stray =
          let base : S + b + s ≡ S + (b + s) = omega arith in
          let q : suc c + nodes kids ≡ c' = omega arith in
          let k = cell_of_tree T types ws n S hi fits c w b here ds t s l kids rest ((inner_cells ++ outer_cells) ++ ks) in
          let stray_kids : any_part (outer_cells ++ ks) ≡ false → w + length (packed kids) ≡ length ws =
          λ e. let (x, y) = no_part c' w' rest ks e in omega (arith, stray x, sizes, y) in
          let stray_rest : any_part ks ≡ false → w' + length (packed rest) ≡ length ws = λ e. omega (arith, stray e, sizes) in
          let long : c' + nodes rest ≡ c + suc (nodes kids + nodes rest) = omega arith in
          let wide : w' + length (packed rest) ≡ w + length (packed (tree t s l kids rest)) = omega (arith, sizes) in
          ap (λ y. lowest_from T ws n c w y (k ∷ ((inner_cells ++ outer_cells) ++ ks))) (due_some c after within (S + b) ds (omega (arith, g.two)))
          ∙ (pass_tree c w here ds k ((inner_cells ++ outer_cells) ++ ks) (tree_kind T types ws n S hi fits c w b here ds t s l kids rest ((inner_cells ++ outer_cells) ++ ks)) (λ e. omega (arith, g.two)) (kept_here ks)
          ∙ (ap₂ (λ x y. lowest_from T ws n (suc c) w (due (unless_none kids (suc c)) 0 (Some l) x ds') y) base (append_assoc inner_cells outer_cells ks)
          ∙ (f (outer_cells ++ ks) stray_kids
          ∙ (ap (λ y. lowest_from T ws n y w' ds' (outer_cells ++ ks)) q
          ∙ (h ks stray_rest ∙ ap₂ (λ x y. lowest_from T ws n x y ds ks) long wide)))))

    module _ (s l : ℕ) (us : List ℕ) (rest : Trees) (g : Good (part s l us rest) c w after within b ds more) where
      part_low : b + (s + l) ≤ upper T types ws n S hi fits within b
      unfolding absolute
      part_low = omega (arith, well-≤ T (Parts T) (b + s + l) (upper T types ws n S hi fits within b) (absolute b rest) g.sound.rest)

      part_sizes : length (packed (part s l us rest)) ≡ length us + length (packed rest)
      unfolding packed
      part_sizes = length-append us (packed rest)

      part_count : nodes (part s l us rest) ≡ suc (nodes rest)
      unfolding nodes
      part_count = refl

      part_words : drop w ws ≡ us ++ (packed rest ++ more)
      unfolding packed
      part_words = g.words ∙ append_assoc us (packed rest) more

      part_behind : drop (w + length us) ws ≡ packed rest ++ more
      part_behind = words_split w us (packed rest ++ more) part_words

      good_after : Good rest (suc c) (w + length us) (s + l) within b ds more
      unfolding absolute
      good_after =
          let e : b + s + l ≡ b + (s + l) = omega arith in
          record {
            two = omega (arith, g.two);
            room = omega (arith, g.room, part_count);
            apart = apart_less (c + nodes (part s l us rest)) (suc c + nodes rest) ds (omega (arith, part_count)) g.apart;
            sound = subst (λ y. Sound T y (upper T types ws n S hi fits within b) (absolute b rest)) e g.sound.rest;
            most = g.most;
            words = part_behind;
            fill = omega (arith, part_sizes, g.fill);
          }

      abbrev here_part : Named
      here_part = record { cell = c; after = after; within = within; base = S + b }

      abbrev later_cells : List Cell
      later_cells = listed (suc c) (w + length us) rest

      part_here : (ks : List Cell) → (any_part ks ≡ false → w + length (packed (part s l us rest)) ≡ length ws)
          → Keeps T ws n c w here_part ds (cell_of_part T types ws n S hi fits c w b here_part ds s l us rest (later_cells ++ ks)) (later_cells ++ ks)
      unfolding absolute
      part_here ks stray =
          part_cell_kept T types ws n S hi fits c w b here_part ds s l us rest (later_cells ++ ks) g.two refl g.apart g.room refl
          (omega (arith, g.sound.starts)) part_low g.most (part_words ∙ ap (λ r. us ++ r) (sym part_behind))
          (omega (arith, part_sizes, g.fill)) g.sound.inner
          (λ e. let (x, y) = no_part (suc c) (w + length us) rest ks e in omega (arith, stray x, part_sizes, y))

      runs_part : Runs rest (suc c) (w + length us) (s + l) within b ds → Runs (part s l us rest) c w after within b ds
      unfolding listed unless_none nodes
      runs_part h ks stray =
          let k = cell_of_part T types ws n S hi fits c w b here_part ds s l us rest (later_cells ++ ks) in
          let long : suc c + nodes rest ≡ c + suc (nodes rest) = omega arith in
          let wide : w + length us + length (packed rest) ≡ w + length (packed (part s l us rest)) = omega (arith, part_sizes) in
          ap (λ y. lowest_from T ws n c w y (k ∷ (later_cells ++ ks))) (due_some c after within (S + b) ds (omega (arith, g.two)))
          ∙ (pass_part c w here_part ds k (later_cells ++ ks) refl (part_here ks stray)
          ∙ (h ks (λ e. omega (arith, stray e, part_sizes)) ∙ ap₂ (λ x y. lowest_from T ws n x y ds ks) long wide))

  pub runs : (ts : Trees) (c w after : ℕ) (within : Option ℕ) (b : ℕ) (ds : List Named) (more : List ℕ) → Good ts c w after within b ds more → Runs ts c w after within b ds
  runs nil c w after within b ds more g = runs_nil c w after within b ds
  runs (tree t s l kids rest) c w after within b ds more g =
      runs_tree c w after within b ds more t s l kids rest g
      (runs kids (suc c) w 0 (Some l) (b + s) (due (unless_none rest (c + suc (nodes kids))) (s + l) within (S + b) ds) (packed rest ++ more) (good_kids c w after within b ds more t s l kids rest g))
      (runs rest (c + suc (nodes kids)) (w + length (packed kids)) (s + l) within b ds more (good_rest c w after within b ds more t s l kids rest g))
  runs (part s l us rest) c w after within b ds more g =
      runs_part c w after within b ds more s l us rest g (runs rest (suc c) (w + length us) (s + l) within b ds more (good_after c w after within b ds more s l us rest g))

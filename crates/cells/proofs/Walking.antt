-- The tree check's loop: what is left of the cells gives the answer. Assumes nothing.
use mathlib.Core.Path.{◌≡◌, refl, sym, ap, ap₂, subst, ◌∙◌}
use mathlib.Core.Bool.{Bool, true, false, ◌&&◌, ◌||◌, not, cond, true≢false}
use mathlib.Core.Logic.{◌⊎◌, inl, inr, ⊎_elim}
use mathlib.Core.List.{List, [], ◌∷◌}
use Rattle.std.specs.Prelude.{Option, None, Some}
use Prim.Native.Nat.{ℕ, zero, suc, ◌+◌, ◌-◌, ◌*◌, ◌/◌, ◌%◌, ◌≤◌, ◌<◌}
use native.Mathlib.Omega.{arith}
use native.Mathlib.Numerals.{add-one}
use native.Mathlib.Decide.{dec_lt, ℕ_discrete}
use borrow.Author.Tests.{le-ltb, eq-eqb, ne_eqb, ltb-false, eqb-true, eqb-false, not-false}
use lib.Dec.{ltb, leb, eqb}
use lib.ListN.{length, get_or, drop, drop_of_length-le}
use Rattle.tree.specs.Cells.{cell_width}
use Rattle.rules.specs.Cell.{Cell, cells_of, is_part, first_child}
use Rattle.rules.specs.Lowest.{chain, chains, Named, named, top_broken, kind_broken, id_broken, link_broken, count_broken, place_broken, order_broken, inside_broken, end_broken, part_broken, stray_broken, broken, next_named, first_named, words_end, lowest_from, top_named, bad_cell}
use Rattle.cells.specs.Steps.{cell_at, followed, Last, own_test, count_test, range_test, stray_test, cell_test, cell_or_none}
use Rattle.cells.specs.Open.{width, Held, Under, Rising, Names, Clash, Stack, Over, Put, Pushed, due}
use Rattle.rules.proofs.Tests.{neither}
use Rattle.rules.proofs.Keeping.{Keeps, keeps, none_broken}
use Rattle.cells.proofs.Reading.{cells_drop, length_cells, chain_followed}

or_false : (a b : Bool) → a ≡ false → b ≡ false → a || b ≡ false
or_false a b x y = rw (x, y)

module _ (T : ℕ) (ws : List ℕ) (n : ℕ) where
  -- the tests are the rules
  own_is : (i : ℕ) (k : Cell) → own_test T n i k
      ≡ top_broken (suc i) k || (kind_broken k || (id_broken T k || (link_broken n (suc i) k.next || link_broken n (suc i) (first_child k))))
  unfolding own_test
  own_is i k = rw (add-one i)

  count_is : (cs : List ℕ) (i : ℕ) → count_test (chains 1 (cells_of cs)) i (cell_at cs i) ≡ count_broken (suc i) (cell_at cs i) (chains (suc (suc i)) (drop (suc i) (cells_of cs)))
  unfolding count_test count_broken
  count_is cs i =
      let k = cell_at cs i in
      let e : followed (chains 1 (cells_of cs)) (i + 1) k.first ≡ chain (suc i) k.first (chains (suc (suc i)) (drop (suc i) (cells_of cs))) =
      ap (λ y. followed (chains 1 (cells_of cs)) y k.first) (add-one i) ∙ sym (chain_followed cs (suc i) k.first) in
      ap (λ y. cond (is_part k) false (not (eqb k.count y))) e ∙ go (is_part k) (not (eqb k.count (chain (suc i) k.first (chains (suc (suc i)) (drop (suc i) (cells_of cs))))))
    where
      go : (p x : Bool) → cond p false x ≡ not p && x
      go true x = refl
      go false x = refl

  stray_is : (cs : List ℕ) (i last : ℕ) → Last cs n last → stray_test (length ws) i last (cell_at cs i) ≡ stray_broken ws (suc i) (cell_at cs i) (drop (suc i) (cells_of cs))
  unfolding stray_test stray_broken
  stray_is cs i last h =
      let k = cell_at cs i in
      ap (λ y. cond (ltb y last) false (cond (is_part k) (not (eqb (k.first + k.count) (length ws))) (eqb i 0 && not (eqb (length ws) 0)))) (add-one i)
      ∙ (go (ltb (suc i) last) (is_part k) (not (eqb (k.first + k.count) (length ws))) (not (eqb (length ws) 0)) (first i)
      ∙ ap (λ y. not y && elim (is_part k) [ true ↦ not (eqb (k.first + k.count) (length ws)) | false ↦ eqb (suc i) 1 && not (eqb (length ws) 0) ]) (sym (h.is (suc i))))
    where
      first : (i : ℕ) → eqb i 0 ≡ eqb (suc i) 1
      first zero = refl
      first (suc i) = ne_eqb (suc i) 0 (λ e. omega arith) ∙ sym (ne_eqb (suc (suc i)) 1 (λ e. omega arith))

      go : (a p x y : Bool) → eqb i 0 ≡ eqb (suc i) 1 → cond a false (cond p x (eqb i 0 && y)) ≡ not a && elim p [ true ↦ x | false ↦ eqb (suc i) 1 && y ]
      go true p x y e = refl
      go false true x y e = refl
      go false false x y e = ap (λ z. z && y) e

  -- the three range rules
  range_keeps : (i : ℕ) (d : Named) (k : Cell) → range_test i k.position k.len d.after (width d.within) d.base ≡ false
      → (order_broken d k ≡ false) × (inside_broken d k ≡ false) × (end_broken (suc i) d k ≡ false)
  unfolding range_test order_broken inside_broken end_broken width
  range_keeps i d k h =
      let (a, b) = neither (ltb k.position d.after) _ h in
      let (x, y) = neither (ltb (width d.within) (k.position + k.len)) _ b in
      (a, go d.within x, last (ℕ_discrete i 0) y)
    where
      go : (o : Option ℕ) → ltb (width o) (k.position + k.len) ≡ false → elim o [ None ↦ false | Some l ↦ ltb l (k.position + k.len) ] ≡ false
      go None x = refl
      go (Some l) x = x

      last : Dec (i ≡ 0) → not (eqb i 0) && ltb 4294967295 (d.base + (k.position + k.len)) ≡ false → not (eqb (suc i) 1) && ltb 4294967295 (d.base + (k.position + k.len)) ≡ false
      last (yes e) y = rw (eq-eqb (suc i) 1 (omega arith))
      last (no e) y = rw (ne_eqb (suc i) 1 (λ q. omega arith)) (rw (ne_eqb i 0 e) at y)

  keeps_range : (i : ℕ) (d : Named) (k : Cell) → k.len < 4294967296 → top_broken (suc i) k ≡ false → order_broken d k ≡ false → inside_broken d k ≡ false
      → end_broken (suc i) d k ≡ false → range_test i k.position k.len d.after (width d.within) d.base ≡ false
  unfolding range_test order_broken inside_broken end_broken top_broken width
  keeps_range i d k small t a b e = or_false (ltb k.position d.after) _ a (go (ℕ_discrete i 0))
    where
      go : Dec (i ≡ 0) → ltb (width d.within) (k.position + k.len) || (not (eqb i 0) && ltb 4294967295 (d.base + (k.position + k.len))) ≡ false
      go (yes z) =
          let t' : not (eqb k.kind 1) || (not (eqb k.position 0) || not (eqb k.next 0)) ≡ false = rw (eq-eqb (suc i) 1 (omega arith)) at t in
          let (p, q) = neither (not (eqb k.kind 1)) _ t' in
          let (u, v) = neither (not (eqb k.position 0)) _ q in
          let zero_at : k.position ≡ 0 = eqb-true k.position 0 (not-false _ u) in
          or_false (ltb (width d.within) (k.position + k.len)) _ (wide d.within b zero_at) (rw (eq-eqb i 0 z))
        where
          wide : (o : Option ℕ) → elim o [ None ↦ false | Some l ↦ ltb l (k.position + k.len) ] ≡ false → k.position ≡ 0 → ltb (width o) (k.position + k.len) ≡ false
          wide None x y = le-ltb 4294967295 (k.position + k.len) (omega arith)
          wide (Some l) x y = x
      go (no z) =
          let e' : ltb 4294967295 (d.base + (k.position + k.len)) ≡ false = rw (ne_eqb (suc i) 1 (λ q. omega arith)) at e in
          or_false (ltb (width d.within) (k.position + k.len)) _ (wide d.within b e') (rw (ne_eqb i 0 z) e')
        where
          wide : (o : Option ℕ) → elim o [ None ↦ false | Some l ↦ ltb l (k.position + k.len) ] ≡ false → ltb 4294967295 (d.base + (k.position + k.len)) ≡ false → ltb (width o) (k.position + k.len) ≡ false
          wide None x y = le-ltb 4294967295 (k.position + k.len) (omega (arith, ltb-false 4294967295 (d.base + (k.position + k.len)) y))
          wide (Some l) x y = x

  -- all tests at once
  module _ (cs : List ℕ) (i w last : ℕ) (d : Named) (ds : List Named) (final : Last cs n last) where
    abbrev k₀ : Cell
    k₀ = cell_at cs i

    abbrev later : List Cell
    later = drop (suc i) (cells_of cs)

    abbrev test : Bool
    test = cell_test T ws n last i w (chains 1 (cells_of cs)) d.after (width d.within) d.base k₀

    test_keeps : test ≡ false → place_broken (suc i) d ds ≡ false → Keeps T ws n (suc i) w d ds k₀ later
    unfolding cell_test
    test_keeps h p =
        let (a, h₁) = neither (own_test T n i k₀) _ h in
        let (b, h₂) = neither (count_test (chains 1 (cells_of cs)) i k₀) _ h₁ in
        let (c, h₃) = neither (range_test i k₀.position k₀.len d.after (width d.within) d.base) _ h₂ in
        let (e, f) = neither (part_broken T ws w k₀) _ h₃ in
        let (a₀, g₀) = neither (top_broken (suc i) k₀) _ (sym (own_is i k₀) ∙ a) in
        let (a₁, g₁) = neither (kind_broken k₀) _ g₀ in
        let (a₂, g₂) = neither (id_broken T k₀) _ g₁ in
        let (a₃, a₄) = neither (link_broken n (suc i) k₀.next) _ g₂ in
        let (r₀, r₁, r₂) = range_keeps i d k₀ c in
        record {
          top = a₀;
          kinds = a₁;
          ids = a₂;
          next_link = a₃;
          first_link = a₄;
          counts = sym (count_is cs i) ∙ b;
          place = p;
          order = r₀;
          inside = r₁;
          ends = r₂;
          words = e;
          stray = sym (stray_is cs i last final) ∙ f;
        }

    keeps_test : k₀.len < 4294967296 → Keeps T ws n (suc i) w d ds k₀ later → test ≡ false
    unfolding cell_test
    keeps_test small s =
        or_false (own_test T n i k₀) _ (own_is i k₀ ∙ or_false (top_broken (suc i) k₀) _ s.top (or_false (kind_broken k₀) _ s.kinds (or_false (id_broken T k₀) _ s.ids (or_false (link_broken n (suc i) k₀.next) _ s.next_link s.first_link))))
        (or_false (count_test (chains 1 (cells_of cs)) i k₀) _ (count_is cs i ∙ s.counts)
        (or_false (range_test i k₀.position k₀.len d.after (width d.within) d.base) _ (keeps_range i d k₀ small s.top s.order s.inside s.ends)
        (or_false (part_broken T ws w k₀) _ s.words (stray_is cs i last final ∙ s.stray))))

-- links that rise from c on are all past c
rising_over : (limit c : ℕ) (d : Named) (ds : List Named) → d.cell ≡ c → c < limit → Rising limit (d ∷ ds) → Over c ds
rising_over limit c d ds e h r = go d.cell ds (omega arith) r.under r.older
  where
    go : (x : ℕ) (ds : List Named) → c ≤ x → Under limit x ds → Rising limit ds → Over c ds
    go x [] l u r = tt
    go x (d ∷ ds) l u r =
        let here : c < d.cell = ⊎_elim (λ a. omega arith) (λ b. omega arith) u in
        (here, go d.cell ds (omega arith) r.under r.older)

over_named : (c : ℕ) (ds : List Named) → Over c ds → named c ds ≡ false
unfolding named
over_named c [] o = refl
over_named c (d ∷ ds) o = or_false (eqb d.cell c) (named c ds) (ne_eqb d.cell c (λ e. omega (arith, o.0))) (over_named c ds o.1)

over_due : (c x after : ℕ) (o : Option ℕ) (base : ℕ) (ds : List Named) → (x ≡ 0) ⊎ (c < x) → Over c ds → Over c (due x after o base ds)
unfolding due
over_due c x after o base ds h v = go (eqb x 0) refl
  where
    go : (b : Bool) → eqb x 0 ≡ b → Over c (elim b [ true ↦ ds | false ↦ record { cell = x; after = after; within = o; base = base } ∷ ds ])
    go true e = v
    go false e = (⊎_elim (λ z. absurd (eqb-false x 0 e z)) (λ l. l) h, v)

names_named : (m : ℕ) (ds : List Named) → Names m ds → named m ds ≡ true
unfolding named
names_named m [] h = absurd h
names_named m (d ∷ ds) h = ⊎_elim (λ e. ap (λ b. b || named m ds) (eq-eqb d.cell m e)) (λ k. ap (λ b. eqb d.cell m || b) (names_named m ds k) ∙ or_one (eqb d.cell m)) h
  where
    or_one : (b : Bool) → b || true ≡ true
    or_one true = refl
    or_one false = refl

clash_names : (m : ℕ) (ds : List Named) → Clash m ds → Names m ds
clash_names m [] h = h
clash_names m (d ∷ ds) h = ⊎_elim (λ a. inr a.1) (λ b. inr (clash_names m ds b)) h

-- the loop's state
module _ (T : ℕ) (ws : List ℕ) (n S : ℕ) (cs : List ℕ) where
  abbrev pub whole : ℕ
  whole = lowest_from T ws n 1 0 (top_named S ∷ []) (cells_of cs)

  pub record Walk (held : List ℕ) (i w top limit : ℕ) : Type 0 where
    pub ds : List Named
    pub stack : Stack held n top limit ds
    pub few : top ≤ suc i
    pub far : i < limit
    pub same : whole ≡ lowest_from T ws n (suc i) w ds (drop i (cells_of cs))

  due_top : due 1 0 None S [] ≡ top_named S ∷ []
  unfolding due top_named
  due_top = refl

  pub walk_start : (held held' : List ℕ) (t limit : ℕ) → Put held held' 0 (n + 1) t limit 1 0 4294967295 S → Walk held' 0 0 t limit
  unfolding width
  walk_start held held' t limit p =
      let empty : Stack held n 0 (n + 1) [] = record { size = refl; held_are = tt; rising = tt; most = omega arith; clash = λ h. absurd (omega arith) } in
      let s = subst (Stack held' n t limit) due_top (p.stack n [] None refl empty) in
      record {
        ds = top_named S ∷ [];
        stack = s;
        few = omega (arith, s.size);
        far = p.above n 0 [] empty tt (omega arith);
        same = refl;
      }

  hit : (c w : ℕ) (d : Named) (ds : List Named) (k : Cell) (ks : List Cell) → broken T ws n c w d ds k ks ≡ true → lowest_from T ws n c w (d ∷ ds) (k ∷ ks) ≡ c
  unfolding lowest_from
  hit c w d ds k ks h = ap (λ b. elim b as (λ x. ℕ) [ true ↦ c | false ↦ lowest_from T ws n (suc c) (words_end w k) (first_named c d k (next_named d k ds)) ks ]) h

  pass : (c w : ℕ) (d : Named) (ds : List Named) (k : Cell) (ks : List Cell) → broken T ws n c w d ds k ks ≡ false
      → lowest_from T ws n c w (d ∷ ds) (k ∷ ks) ≡ lowest_from T ws n (suc c) (words_end w k) (first_named c d k (next_named d k ds)) ks
  unfolding lowest_from
  pass c w d ds k ks h = ap (λ b. elim b as (λ x. ℕ) [ true ↦ c | false ↦ lowest_from T ws n (suc c) (words_end w k) (first_named c d k (next_named d k ds)) ks ]) h

  alone : (c w : ℕ) (k : Cell) (ks : List Cell) → lowest_from T ws n c w [] (k ∷ ks) ≡ c
  unfolding lowest_from
  alone c w k ks = refl

  none_left : (c w : ℕ) (ds : List Named) → lowest_from T ws n c w ds [] ≡ 0
  unfolding lowest_from
  none_left c w [] = refl
  none_left c w (d ∷ ds) = refl

  -- broken wherever it is not kept
  not_kept : (c w : ℕ) (d : Named) (ds : List Named) (k : Cell) (ks : List Cell) → (Keeps T ws n c w d ds k ks → ⊥) → broken T ws n c w d ds k ks ≡ true
  not_kept c w d ds k ks h = go (broken T ws n c w d ds k ks) refl
    where
      go : (b : Bool) → broken T ws n c w d ds k ks ≡ b → b ≡ true
      go true e = refl
      go false e = absurd (h (keeps T ws n c w d ds k ks e))

  module _ (q : n * cell_width ≡ length cs) (held : List ℕ) (i w top limit : ℕ) (s : Walk held i w top limit) where
    pub walk_end : n ≤ i → 0 ≡ whole
    walk_end h = sym (s.same ∙ (ap (lowest_from T ws n (suc i) w s.ds) (drop_of_length-le (cells_of cs) {i = i} (omega (arith, length_cells cs))) ∙ none_left (suc i) w s.ds))

    module _ (below : i < n) where
      abbrev k₁ : Cell
      k₁ = cell_at cs i

      abbrev ks₁ : List Cell
      ks₁ = drop (suc i) (cells_of cs)

      here : drop i (cells_of cs) ≡ k₁ ∷ ks₁
      here = cells_drop i cs (omega arith)

      answer : (v : ℕ) → lowest_from T ws n (suc i) w s.ds (k₁ ∷ ks₁) ≡ v → whole ≡ v
      answer v h = s.same ∙ (ap (lowest_from T ws n (suc i) w s.ds) here ∙ h)

      pub walk_none : top ≡ 0 → i + 1 ≡ whole
      walk_none e = add-one i ∙ sym (answer (suc i) (go s.ds s.stack.size))
        where
          go : (ds : List Named) → top ≡ length ds → lowest_from T ws n (suc i) w ds (k₁ ∷ ks₁) ≡ suc i
          go [] z = alone (suc i) w k₁ ks₁
          go (d ∷ ds) z = absurd (omega arith)

      misplaced : (d : Named) (ds : List Named) → place_broken (suc i) d ds ≡ true → lowest_from T ws n (suc i) w (d ∷ ds) (k₁ ∷ ks₁) ≡ suc i
      misplaced d ds p = hit (suc i) w d ds k₁ ks₁ (not_kept (suc i) w d ds k₁ ks₁ (λ h. true≢false (sym p ∙ h.place)))

      pub walk_limit : i + 1 ≡ limit → i + 1 ≡ whole
      unfolding place_broken
      walk_limit e = add-one i ∙ sym (answer (suc i) (go s.ds (s.stack.clash (omega arith))))
        where
          go : (ds : List Named) → Clash limit ds → lowest_from T ws n (suc i) w ds (k₁ ∷ ks₁) ≡ suc i
          go [] c = absurd c
          go (d ∷ ds) c =
              let at : limit ≡ suc i = omega arith in
              let twice : named (suc i) ds ≡ true = names_named (suc i) ds (subst (λ m. Names m ds) at (⊎_elim (λ a. a.1) (λ b. clash_names limit ds b) c)) in
              misplaced d ds (ap (λ b. not (eqb d.cell (suc i)) || b) twice ∙ or_one (not (eqb d.cell (suc i))))
            where
              or_one : (b : Bool) → b || true ≡ true
              or_one true = refl
              or_one false = refl

      module _ (links : top ≡ 0 → ⊥) where
        abbrev p₁ : ℕ
        p₁ = (top - 1) * 4

        -- the latest link and the others
        record Latest : Type 0 where
          d : Named
          older : List Named
          all : s.ds ≡ d ∷ older
          size : top - 1 ≡ length older
          cell_is : get_or held p₁ 0 ≡ d.cell
          after_is : get_or held (p₁ + 1) 0 ≡ d.after
          within_is : get_or held (p₁ + 2) 0 ≡ width d.within
          base_is : get_or held (p₁ + 3) 0 ≡ d.base
          rising : Rising limit (d ∷ older)
          held_older : Held held older

        latest : Latest
        latest = go s.ds refl s.stack.size s.stack.held_are s.stack.rising
          where
            go : (ds : List Named) → s.ds ≡ ds → top ≡ length ds → Held held ds → Rising limit ds → Latest
            go [] a z h r = absurd (links z)
            go (d ∷ ds) a z h r =
                let e : length ds ≡ top - 1 = omega arith in
                record {
                  d = d;
                  older = ds;
                  all = a;
                  size = sym e;
                  cell_is = ap (λ y. get_or held (y * 4) 0) (sym e) ∙ h.cell_is;
                  after_is = ap (λ y. get_or held (y * 4 + 1) 0) (sym e) ∙ h.after_is;
                  within_is = ap (λ y. get_or held (y * 4 + 2) 0) (sym e) ∙ h.within_is;
                  base_is = ap (λ y. get_or held (y * 4 + 3) 0) (sym e) ∙ h.base_is;
                  rising = r;
                  held_older = h.older;
                }

        at_latest : (v : ℕ) → lowest_from T ws n (suc i) w (latest.d ∷ latest.older) (k₁ ∷ ks₁) ≡ v → whole ≡ v
        at_latest v h = answer v (ap (λ y. lowest_from T ws n (suc i) w y (k₁ ∷ ks₁)) latest.all ∙ h)

        pub walk_place : (get_or held p₁ 0 ≡ i + 1 → ⊥) → i + 1 ≡ whole
        unfolding place_broken
        walk_place ne =
            let l = latest in
            add-one i
            ∙ sym (at_latest (suc i) (misplaced l.d l.older (ap (λ b. not b || named (suc i) l.older) (ne_eqb l.d.cell (suc i) (λ e. ne (l.cell_is ∙ (e ∙ sym (add-one i))))))))

        module _ (last : ℕ) (final : Last cs n last) (at_cell : get_or held p₁ 0 ≡ i + 1) (not_limit : i + 1 ≡ limit → ⊥) (small : k₁.len < 4294967296) where
          abbrev test₁ : Bool
          test₁ = cell_test T ws n last i w (chains 1 (cells_of cs)) (get_or held (p₁ + 1) 0) (get_or held (p₁ + 2) 0) (get_or held (p₁ + 3) 0) k₁

          same_test : test₁ ≡ cell_test T ws n last i w (chains 1 (cells_of cs)) latest.d.after (width latest.d.within) latest.d.base k₁
          same_test =
              let l = latest in
              ap (λ y. cell_test T ws n last i w (chains 1 (cells_of cs)) y (get_or held (p₁ + 2) 0) (get_or held (p₁ + 3) 0) k₁) l.after_is
              ∙ ap₂ (λ x y. cell_test T ws n last i w (chains 1 (cells_of cs)) l.d.after x y k₁) l.within_is l.base_is

          pub walk_test : test₁ ≡ true → i + 1 ≡ whole
          walk_test h =
              let l = latest in
              add-one i
              ∙ sym (at_latest (suc i) (hit (suc i) w l.d l.older k₁ ks₁ (not_kept (suc i) w l.d l.older k₁ ks₁
              (λ k. true≢false (sym h ∙ (same_test ∙ keeps_test T ws n cs i w last l.d l.older final small k))))))

          here_cell : latest.d.cell ≡ suc i
          here_cell = sym latest.cell_is ∙ (at_cell ∙ add-one i)

          over : Over (suc i) latest.older
          over = rising_over limit (suc i) latest.d latest.older here_cell (omega (arith, s.far, not_limit)) latest.rising

          placed : place_broken (suc i) latest.d latest.older ≡ false
          unfolding place_broken
          placed = or_false (not (eqb latest.d.cell (suc i))) (named (suc i) latest.older) (ap not (eq-eqb latest.d.cell (suc i) here_cell)) (over_named (suc i) latest.older over)

          module _ (clear : test₁ ≡ false) where
            kept : Keeps T ws n (suc i) w latest.d latest.older k₁ ks₁
            kept = test_keeps T ws n cs i w last latest.d latest.older final (sym same_test ∙ clear) placed

            pub record Fitting : Type 0 where
              pub end : k₁.position + k₁.len ≤ 4294967295
              pub origin : get_or held (p₁ + 3) 0 + k₁.position ≤ 4294967295

            pub walk_fits : get_or held (p₁ + 3) 0 < 4294967296 → Fitting
            unfolding end_broken top_broken
            walk_fits word = go (ℕ_discrete i 0) kept.top kept.ends
              where
                go : Dec (i ≡ 0) → eqb (suc i) 1 && (not (eqb k₁.kind 1) || (not (eqb k₁.position 0) || not (eqb k₁.next 0))) ≡ false
                    → not (eqb (suc i) 1) && ltb 4294967295 (latest.d.base + (k₁.position + k₁.len)) ≡ false → Fitting
                go (yes z) t e =
                    let t' : not (eqb k₁.kind 1) || (not (eqb k₁.position 0) || not (eqb k₁.next 0)) ≡ false = rw (eq-eqb (suc i) 1 (omega arith)) at t in
                    let (x, y) = neither (not (eqb k₁.kind 1)) _ t' in
                    let (u, v) = neither (not (eqb k₁.position 0)) _ y in
                    let zero_at : k₁.position ≡ 0 = eqb-true k₁.position 0 (not-false _ u) in
                    record { end = omega arith; origin = omega arith }
                go (no z) t e =
                    let e' : ltb 4294967295 (latest.d.base + (k₁.position + k₁.len)) ≡ false = rw (ne_eqb (suc i) 1 (λ r. omega arith)) at e in
                    let f = ltb-false 4294967295 (latest.d.base + (k₁.position + k₁.len)) e' in
                    record { end = omega (arith, f); origin = omega (arith, f, latest.base_is) }

            leads : (x : ℕ) → link_broken n (suc i) x ≡ false → (x ≡ 0) ⊎ (suc i < x)
            unfolding link_broken
            leads x h = go (ℕ_discrete x 0) (dec_lt (suc i) x)
              where
                go : Dec (x ≡ 0) → Dec (suc i < x) → (x ≡ 0) ⊎ (suc i < x)
                go (yes e) l = inl e
                go (no e) (yes l) = inr l
                go (no e) (no l) =
                    let a : not (ltb (suc i) x && leb x n) ≡ false = rw (ne_eqb x 0 e) at h in
                    absurd (true≢false (sym (not-false _ a) ∙ ap (λ b. b && leb x n) (le-ltb (suc i) x (omega arith))))

            next_is : (d : Named) (k : Cell) (ds : List Named) → next_named d k ds ≡ due k.next (k.position + k.len) d.within d.base ds
            unfolding next_named due
            next_is d k ds = refl

            inner_width : ℕ → ℕ → Option ℕ
            inner_width j l = elim (eqb j 1) [ true ↦ None | false ↦ Some l ]

            first_is : (d : Named) (k : Cell) (ds : List Named) → first_named (suc i) d k ds ≡ due (first_child k) 0 (inner_width (suc i) k.len) (d.base + k.position) ds
            unfolding first_named due first_child inner_width
            first_is d k ds = go (is_part k)
              where
                go : (p : Bool) → ◌≡◌ {A = List Named} (elim (eqb (elim p [ true ↦ 0 | false ↦ k.first ]) 0) [ true ↦ ds | false ↦ record { cell = k.first; after = 0; within = elim (eqb (suc i) 1) [ true ↦ None | false ↦ Some k.len ]; base = d.base + k.position } ∷ ds ])
                    (elim (eqb (elim p [ true ↦ 0 | false ↦ k.first ]) 0) [ true ↦ ds | false ↦ record { cell = elim p [ true ↦ 0 | false ↦ k.first ]; after = 0; within = elim (eqb (suc i) 1) [ true ↦ None | false ↦ Some k.len ]; base = d.base + k.position } ∷ ds ])
                go true = refl
                go false = refl

            width_is : (l : ℕ) → width (inner_width (suc i) l) ≡ cond (eqb i 0) 4294967295 l
            unfolding inner_width width
            width_is l = go (ℕ_discrete i 0)
              where
                go : Dec (i ≡ 0) → width (elim (eqb (suc i) 1) [ true ↦ None | false ↦ Some l ]) ≡ cond (eqb i 0) 4294967295 l
                go (yes e) = ap (λ b. width (elim b [ true ↦ None | false ↦ Some l ])) (eq-eqb (suc i) 1 (omega arith)) ∙ sym (ap (λ b. cond b 4294967295 l) (eq-eqb i 0 e))
                go (no e) = ap (λ b. width (elim b [ true ↦ None | false ↦ Some l ])) (ne_eqb (suc i) 1 (λ z. omega arith)) ∙ sym (ap (λ b. cond b 4294967295 l) (ne_eqb i 0 e))

            -- without the latest link
            popped : Stack held n (top - 1) limit latest.older
            popped =
                let l = latest in
                record {
                  size = l.size;
                  held_are = l.held_older;
                  rising = l.rising.older;
                  most = s.stack.most;
                  clash = λ h. go (subst (Clash limit) l.all (s.stack.clash h));
                }
              where
                go : Clash limit (latest.d ∷ latest.older) → Clash limit latest.older
                go c = ⊎_elim (λ a. absurd (omega (arith, a.0, here_cell, s.far, not_limit))) (λ b. b) c

            due_size : (x after : ℕ) (o : Option ℕ) (base : ℕ) (ds : List Named) → length (due x after o base ds) ≤ suc (length ds)
            unfolding due
            due_size x after o base ds = go (eqb x 0)
              where
                go : (b : Bool) → length {A = Named} (elim b [ true ↦ ds | false ↦ record { cell = x; after = after; within = o; base = base } ∷ ds ]) ≤ suc (length ds)
                go true = omega arith
                go false = omega arith

            module _ (held₂ : List ℕ) (t₂ limit₂ : ℕ)
                (put : Put held held₂ (top - 1) limit t₂ limit₂ k₁.next (k₁.position + k₁.len) (get_or held (p₁ + 2) 0) (get_or held (p₁ + 3) 0)) where
              mid : Stack held₂ n t₂ limit₂ (next_named latest.d k₁ latest.older)
              mid =
                  let l = latest in
                  subst (Stack held₂ n t₂ limit₂) (ap (λ y. due k₁.next (k₁.position + k₁.len) l.d.within y l.older) l.base_is ∙ sym (next_is l.d k₁ l.older))
                  (put.stack n l.older l.d.within (sym l.within_is) popped)

              walk_mid : t₂ ≤ top
              walk_mid = omega (arith, mid.size, ap length (next_is latest.d k₁ latest.older), due_size k₁.next (k₁.position + k₁.len) latest.d.within latest.d.base latest.older, latest.size)

              over_mid : Over (suc i) (next_named latest.d k₁ latest.older)
              over_mid = subst (Over (suc i)) (sym (next_is latest.d k₁ latest.older)) (over_due (suc i) k₁.next (k₁.position + k₁.len) latest.d.within latest.d.base latest.older (leads k₁.next kept.next_link) over)

              walk_on : (held₃ : List ℕ) (t₃ limit₃ x inner origin w' : ℕ) → x ≡ first_child k₁ → inner ≡ cond (eqb i 0) 4294967295 k₁.len → origin ≡ get_or held (p₁ + 3) 0 + k₁.position
                  → w' ≡ words_end w k₁
                  → Put held₂ held₃ t₂ limit₂ t₃ limit₃ x 0 inner origin → Walk held₃ (i + 1) w' t₃ limit₃
              walk_on held₃ t₃ limit₃ x inner origin w' ex ei eo ew put₃ =
                  let l = latest in
                  let ds₂ = next_named l.d k₁ l.older in
                  let ds₃ = first_named (suc i) l.d k₁ ds₂ in
                  let o = inner_width (suc i) k₁.len in
                  let list : due x 0 o origin ds₂ ≡ ds₃ =
                  ap₂ (λ a b. due a 0 o b ds₂) ex (eo ∙ ap (λ y. y + k₁.position) l.base_is) ∙ sym (first_is l.d k₁ ds₂) in
                  let st : Stack held₃ n t₃ limit₃ ds₃ = subst (Stack held₃ n t₃ limit₃) list (put₃.stack n ds₂ o (width_is k₁.len ∙ sym ei) mid) in
                  let under : suc i < limit₂ = put.above n (suc i) l.older popped over (omega (arith, s.far, not_limit)) in
                  record {
                    ds = ds₃;
                    stack = st;
                    few = omega (arith, st.size, ap length list, due_size x 0 o origin ds₂, mid.size, walk_mid, s.few);
                    far = omega (arith, put₃.above n (suc i) ds₂ mid over_mid under);
                    same =
                        at_latest (lowest_from T ws n (suc (suc i)) (words_end w k₁) ds₃ ks₁) (pass (suc i) w l.d l.older k₁ ks₁ (none_broken T ws n (suc i) w l.d l.older k₁ ks₁ kept))
                        ∙ (ap (λ y. lowest_from T ws n (suc (suc i)) y ds₃ ks₁) (sym ew)
                        ∙ ap₂ (λ a b. lowest_from T ws n (suc a) w' ds₃ (drop b (cells_of cs))) (sym (add-one i)) (sym (add-one i)));
                  }

            pub walk_pushed : (held₃ : List ℕ) (t₃ limit₃ w' : ℕ)
                → Pushed held held₃ i (top - 1) limit t₃ limit₃ k₁ (get_or held (p₁ + 2) 0) (get_or held (p₁ + 3) 0)
                → w' ≡ words_end w k₁ → Walk held₃ (i + 1) w' t₃ limit₃
            walk_pushed held₃ t₃ limit₃ w' p ew =
                walk_on p.mid p.t₂ p.limit₂ p.next_put held₃ t₃ limit₃
                (first_child k₁) (cond (eqb i 0) 4294967295 k₁.len) (get_or held (p₁ + 3) 0 + k₁.position) w' refl refl refl ew p.first_put

-- the whole answer
module _ (T S : ℕ) (cs ws : List ℕ) where
  abbrev lowest : ℕ
  lowest = lowest_from T ws (length (cells_of cs)) 1 0 (top_named S ∷ []) (cells_of cs)

  abbrev Answer : (x y : Bool) (r : ℕ) → Option ℕ
  Answer x y r = elim (x || not y) [ true ↦ Some 0 | false ↦ elim r [ zero ↦ None | suc c ↦ Some (suc c) ] ]

  answers : (x y : Bool) (r : ℕ) (a b : Bool) (v : ℕ) → x ≡ a → y ≡ b → r ≡ v → Answer x y r ≡ Answer a b v
  answers x y r a b v e f g = rw (e, f, g)

  pub bad_empty : length cs ≡ 0 → Some 0 ≡ bad_cell T S cs ws
  unfolding bad_cell
  bad_empty h = sym (answers (eqb (length cs) 0) (eqb (length cs % cell_width) 0) lowest true (eqb (length cs % cell_width) 0) lowest (eq-eqb (length cs) 0 h) refl refl)

  pub bad_ragged : (length cs ≡ 0 → ⊥) → (length cs % cell_width ≡ 0 → ⊥) → Some 0 ≡ bad_cell T S cs ws
  unfolding bad_cell
  bad_ragged a h = sym (answers (eqb (length cs) 0) (eqb (length cs % cell_width) 0) lowest false false lowest (ne_eqb (length cs) 0 a) (ne_eqb (length cs % cell_width) 0 h) refl)

  module _ (n r : ℕ) (a : length cs ≡ 0 → ⊥) (b : length cs % cell_width ≡ 0) (size : n ≡ length cs / cell_width) (is : r ≡ lowest_from T ws n 1 0 (top_named S ∷ []) (cells_of cs)) where
    number : lowest_from T ws (length (cells_of cs)) 1 0 (top_named S ∷ []) (cells_of cs) ≡ r
    number = ap (λ m. lowest_from T ws m 1 0 (top_named S ∷ []) (cells_of cs)) (length_cells cs ∙ sym size) ∙ sym is

    pub bad_named : cell_or_none r ≡ bad_cell T S cs ws
    unfolding bad_cell cell_or_none
    bad_named = chosen r ∙ sym (answers (eqb (length cs) 0) (eqb (length cs % cell_width) 0) lowest false true r (ne_eqb (length cs) 0 a) (eq-eqb (length cs % cell_width) 0 b) number)
      where
        chosen : (r : ℕ) → cell_or_none r ≡ elim r [ zero ↦ None | suc c ↦ Some (suc c) ]
        chosen zero = refl
        chosen (suc c) = refl

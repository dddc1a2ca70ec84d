-- The trees that the named cells begin, cell by cell: a tree's cell before its children and its later siblings, a part's
-- cell before its later siblings. Assumes nothing.
use mathlib.Core.Path.{◌≡◌, refl, sym, ap, ap₂, subst, ◌∙◌}
use mathlib.Core.Bool.{Bool, true, false, ◌||◌, not}
use mathlib.Core.List.{List, [], ◌∷◌, ◌++◌, append_assoc}
use Rattle.std.specs.Prelude.{Option, None, Some}
use Prim.Native.Nat.{ℕ, suc, ◌+◌, ◌-◌, ◌≤◌, ◌<◌}
use native.Mathlib.Omega.{arith}
use native.Mathlib.Nat.{add-zero}
use borrow.Author.Tests.{eq-eqb, ne_eqb, ltb-false, leb-false, eqb-true, not-false}
use lib.Dec.{ltb, leb, eqb}
use Rattle.rules.specs.Cell.{Cell, is_part, first_child}
use Rattle.rules.specs.Lowest.{chain, Named, kind_broken, id_broken, inside_broken, end_broken, next_named, first_named}
use lib.ListN.{length, get_or, drop, length-append}
use lib.Seq.{drop-drop, get_or-drop}
use Rattle.tree.specs.Trees.{Trees, nil, tree, part, nodes, siblings}
use Rattle.tree.specs.Cells.{absolute, packed, unless_none, kind, id_word, cells}
use Rattle.rules.proofs.Keeping.{chain_leads, chain_ends, child_tree}
use Rattle.tree.specs.Well.{Known, Parts, Sound}

module _ (T : ℕ) (ws : List ℕ) (n : ℕ) where
  -- absolute ends of a cell that d names
  pub upto : Named → ℕ
  upto d = elim d.within [ None ↦ 4294967295 | Some l ↦ d.base + l ]

  pub ends_upto : (c : ℕ) (d : Named) (k : Cell) → (c ≡ 1 → ⊥) → inside_broken d k ≡ false → end_broken c d k ≡ false
      → d.base + (k.position + k.len) ≤ upto d
  unfolding inside_broken end_broken upto
  ends_upto c d k ne i e = go d.within i
    where
      last : d.base + (k.position + k.len) ≤ 4294967295
      last = ltb-false 4294967295 (d.base + (k.position + k.len)) (rw (ne_eqb c 1 ne) at e)

      go : (o : Option ℕ) → elim o [ None ↦ false | Some l ↦ ltb l (k.position + k.len) ] ≡ false
          → d.base + (k.position + k.len) ≤ elim o [ None ↦ 4294967295 | Some l ↦ d.base + l ]
      go None h = last
      go (Some l) h = omega (arith, ltb-false l (k.position + k.len) h)

  -- Trees from cell c on, which the link x begins; `Rest` is what follows.
  pub record Grown (c w base lo hi x : ℕ) (cs lens : List ℕ) (Rest : ℕ → ℕ → List ℕ → List ℕ → Type 0) : Type 0 where
    pub trees : Trees
    pub link : x ≡ unless_none trees c
    pub count : siblings trees ≡ elim (eqb x 0) [ true ↦ 0 | false ↦ get_or lens 0 0 ]
    pub sound : Sound T lo hi (absolute base trees)
    pub later : List ℕ
    pub cells_are : cs ≡ cells c w trees ++ later
    pub words_are : drop w ws ≡ packed trees ++ drop (w + length (packed trees)) ws
    pub rest : Rest (c + nodes trees) (w + length (packed trees)) later (drop (nodes trees) lens)

  -- the named cells begin trees that fill the cells from cell c on and the words from w on
  abbrev pub Laid : List Named → (c w : ℕ) (cs lens : List ℕ) → Type 0
  Laid [] c w cs lens = (cs ≡ []) × (drop w ws ≡ [])
  Laid (d ∷ ds) c w cs lens = Grown c w d.base (d.base + d.after) (upto d) d.cell cs lens (Laid ds)

  -- no trees where there is no link
  grown_nil : (c w base lo hi x : ℕ) (cs lens : List ℕ) (Rest : ℕ → ℕ → List ℕ → List ℕ → Type 0) → x ≡ 0 → lo ≤ hi → Rest c w cs lens
      → Grown c w base lo hi x cs lens Rest
  unfolding unless_none siblings absolute cells packed nodes
  grown_nil c w base lo hi x cs lens Rest h le r = record {
    trees = nil;
    link = h;
    count = rw (eq-eqb x 0 h);
    sound = le;
    later = cs;
    cells_are = refl;
    words_are = rw add-zero;
    rest = rw (add-zero, add-zero) r;
  }

  pub grown_next : (c w : ℕ) (d : Named) (k : Cell) (ds : List Named) (cs lens : List ℕ) → d.base + (k.position + k.len) ≤ upto d
      → Laid (next_named d k ds) c w cs lens
      → Grown c w d.base (d.base + (k.position + k.len)) (upto d) k.next cs lens (Laid ds)
  unfolding next_named upto
  grown_next c w d k ds cs lens le h = go (eqb k.next 0) refl h
    where
      go : (b : Bool) → eqb k.next 0 ≡ b
          → Laid (elim b [ true ↦ ds | false ↦ record { cell = k.next; after = k.position + k.len; within = d.within; base = d.base } ∷ ds ]) c w cs lens
          → Grown c w d.base (d.base + (k.position + k.len)) (upto d) k.next cs lens (Laid ds)
      go true e r = grown_nil c w d.base (d.base + (k.position + k.len)) (upto d) k.next cs lens (Laid ds) (eqb-true k.next 0 e) le r
      go false e r = r

  pub grown_first : (c w : ℕ) (d : Named) (k : Cell) (ds : List Named) (cs lens : List ℕ) (hi : ℕ) → is_part k ≡ false → d.base + k.position + 0 ≤ hi
      → hi ≡ elim (eqb c 1) [ true ↦ 4294967295 | false ↦ d.base + k.position + k.len ]
      → Laid (first_named c d k ds) (suc c) w cs lens
      → Grown (suc c) w (d.base + k.position) (d.base + k.position + 0) hi k.first cs lens (Laid ds)
  unfolding first_named first_child upto
  grown_first c w d k ds cs lens hi p le q h = go (eqb k.first 0) refl (eqb c 1) q (subst Shape (child_tree k p) h)
    where
      Shape : ℕ → Type 0
      Shape y =
          Laid (elim (eqb y 0) [ true ↦ ds | false ↦ record { cell = k.first; after = 0; within = elim (eqb c 1) [ true ↦ None | false ↦ Some k.len ]; base = d.base + k.position } ∷ ds ]) (suc c) w cs lens

      go : (b : Bool) → eqb k.first 0 ≡ b → (o : Bool) → hi ≡ elim o [ true ↦ 4294967295 | false ↦ d.base + k.position + k.len ]
          → Laid (elim b [ true ↦ ds | false ↦ record { cell = k.first; after = 0; within = elim o [ true ↦ None | false ↦ Some k.len ]; base = d.base + k.position } ∷ ds ]) (suc c) w cs lens
          → Grown (suc c) w (d.base + k.position) (d.base + k.position + 0) hi k.first cs lens (Laid ds)
      go true e o q r = grown_nil (suc c) w (d.base + k.position) (d.base + k.position + 0) hi k.first cs lens (Laid ds) (eqb-true k.first 0 e) le r
      go false e true q r = rw q r
      go false e false q r = rw q r

  -- the type of a tree's cell
  pub record Typed (k : Cell) : Type 0 where
    pub type : Option ℕ
    pub kind_is : k.kind ≡ kind type
    pub id_is : k.id ≡ id_word type
    pub known : Known T type

  pub typed : (k : Cell) → kind_broken k ≡ false → id_broken T k ≡ false → is_part k ≡ false → Typed k
  unfolding kind_broken id_broken kind id_word
  typed k a b p = go (eqb k.kind 1) refl (rw p at (not-false (eqb k.kind 1 || (eqb k.kind 3 || is_part k)) a)) b
    where
      go : (x : Bool) → eqb k.kind 1 ≡ x → x || (eqb k.kind 3 || false) ≡ true → elim x [ true ↦ leb T k.id | false ↦ not (eqb k.id 0) ] ≡ false → Typed k
      go true e u v = record { type = Some k.id; kind_is = eqb-true k.kind 1 e; id_is = refl; known = leb-false T k.id v }
      go false e u v = record { type = None; kind_is = eqb-true k.kind 3 (three (eqb k.kind 3) u); id_is = eqb-true k.id 0 (not-false _ v); known = tt }
        where
          three : (y : Bool) → y || false ≡ true → y ≡ true
          three true h = refl
          three false h = h

  link_some : (c m x : ℕ) (later : List ℕ) → x ≡ suc c + m → elim (eqb x 0) [ true ↦ 0 | false ↦ get_or (drop m later) 0 0 ] ≡ chain c x later
  link_some c m x later l =
      let a : x - suc c ≡ m + 0 = omega arith in
      rw (ne_eqb x 0 (λ e. omega arith), chain_leads c x later (omega arith), a, get_or-drop m later 0 0)

  -- the number of siblings is the length of the chain that the link begins
  pub link_chain : (c m x : ℕ) (ts : Trees) (later : List ℕ) → x ≡ unless_none ts (suc c + m) → siblings ts ≡ elim (eqb x 0) [ true ↦ 0 | false ↦ get_or (drop m later) 0 0 ]
      → siblings ts ≡ chain c x later
  unfolding unless_none siblings
  link_chain c m x nil later l h = sym (chain_ends c x later (omega arith))
  link_chain c m x (tree t s k kids rest) later l h = h ∙ link_some c m x later l
  link_chain c m x (part s k us rest) later l h = h ∙ link_some c m x later l

  -- a tree's cell before its children and its later siblings
  pub grown_tree : (c w : ℕ) (d : Named) (ds : List Named) (k : Cell) (cs later : List ℕ) → 0 < c → Typed k → d.cell ≡ c → d.after ≤ k.position
      → k.count ≡ chain c k.first later
      → (F : Grown (suc c) w (d.base + k.position) (d.base + k.position + 0) (d.base + k.position + k.len) k.first cs later (Laid (next_named d k ds)))
      → Grown (suc c + nodes F.trees) (w + length (packed F.trees)) d.base (d.base + (k.position + k.len)) (upto d) k.next F.later (drop (nodes F.trees) later) (Laid ds)
      → Grown c w d.base (d.base + d.after) (upto d) d.cell
      (k.kind ∷ k.id ∷ k.position ∷ k.len ∷ k.first ∷ k.count ∷ k.next ∷ cs) (suc (chain c k.next later) ∷ later) (Laid ds)
  unfolding unless_none siblings absolute cells packed nodes
  grown_tree c w d ds k cs later pos t here order counts F N =
      let kids = F.trees in
      let more = N.trees in
      let c' = c + suc (nodes kids) in
      let w' = w + length (packed kids) in
      let q : suc c + nodes kids ≡ c' = omega arith in
      let end : d.base + (k.position + k.len) ≡ d.base + k.position + k.len = omega arith in
      let inside : siblings kids ≡ chain c k.first later =
      link_chain c 0 k.first kids later (F.link ∙ ap (unless_none kids) (sym (add-zero (suc c)))) F.count in
      let after : siblings more ≡ chain c k.next later = link_chain c (nodes kids) k.next more later N.link N.count in
      let lengths : length (packed kids ++ packed more) ≡ length (packed kids) + length (packed more) = length-append (packed kids) (packed more) in
      let wide : w + length (packed kids ++ packed more) ≡ w' + length (packed more) = omega arith in
      let long : c + suc (nodes kids + nodes more) ≡ suc c + nodes kids + nodes more = omega arith in
      record {
        trees = tree t.type k.position k.len kids more;
        link = here;
        count = rw (ne_eqb d.cell 0 (λ e. omega arith)) (ap suc after);
        sound = record {
          known = t.known;
          starts = omega arith;
          inner = subst (λ y. Sound T y (d.base + k.position + k.len) (absolute (d.base + k.position) kids)) (add-zero (d.base + k.position)) F.sound;
          rest = subst (λ y. Sound T y (upto d) (absolute d.base more)) end N.sound;
        };
        later = N.later;
        cells_are =
            rw (← t.kind_is, ← t.id_is, ← F.link, inside, ← counts)
            (ap₂ (λ x r. k.kind ∷ k.id ∷ k.position ∷ k.len ∷ k.first ∷ k.count ∷ x ∷ r) (N.link ∙ ap (unless_none more) q)
            (F.cells_are ∙ (ap (λ r. cells (suc c) w kids ++ r) (N.cells_are ∙ ap (λ y. cells y w' more ++ N.later) q)
            ∙ sym (append_assoc (cells (suc c) w kids) (cells c' w' more) N.later))));
        words_are =
            F.words_are
            ∙ (ap (λ r. packed kids ++ r) (N.words_are ∙ ap (λ y. packed more ++ drop y ws) (sym wide))
            ∙ sym (append_assoc (packed kids) (packed more) (drop (w + length (packed kids ++ packed more)) ws)));
        rest = rw (long, wide) (subst (λ l. Laid ds (suc c + nodes kids + nodes more) (w' + length (packed more)) N.later l) (drop-drop (nodes more) (nodes kids) later) N.rest);
      }

  -- a part's cell before its later siblings
  pub grown_part : (c w : ℕ) (d : Named) (ds : List Named) (k : Cell) (cs later us : List ℕ) → 0 < c → k.kind ≡ 2 → k.id ≡ 0 → d.cell ≡ c → d.after ≤ k.position
      → k.first ≡ w → k.count ≡ length us → drop w ws ≡ us ++ drop (w + length us) ws → Parts T (d.base + k.position) k.len us
      → Grown (suc c) (w + length us) d.base (d.base + (k.position + k.len)) (upto d) k.next cs later (Laid ds)
      → Grown c w d.base (d.base + d.after) (upto d) d.cell
      (k.kind ∷ k.id ∷ k.position ∷ k.len ∷ k.first ∷ k.count ∷ k.next ∷ cs) (suc (chain c k.next later) ∷ later) (Laid ds)
  unfolding unless_none siblings absolute cells packed nodes
  grown_part c w d ds k cs later us pos kd id here order fst cnt words ok N =
      let more = N.trees in
      let end : d.base + (k.position + k.len) ≡ d.base + k.position + k.len = omega arith in
      let after : siblings more ≡ chain c k.next later =
      link_chain c 0 k.next more later (N.link ∙ ap (unless_none more) (sym (add-zero (suc c)))) N.count in
      let wide : w + length (us ++ packed more) ≡ w + length us + length (packed more) = omega (arith, length-append us (packed more)) in
      let long : c + suc (nodes more) ≡ suc c + nodes more = omega arith in
      record {
        trees = part k.position k.len us more;
        link = here;
        count = rw (ne_eqb d.cell 0 (λ e. omega arith)) (ap suc after);
        sound = record { starts = omega arith; inner = ok; rest = subst (λ y. Sound T y (upto d) (absolute d.base more)) end N.sound };
        later = N.later;
        cells_are = rw (kd, id, fst, cnt, N.link) (ap (λ r. 2 ∷ 0 ∷ k.position ∷ k.len ∷ w ∷ length us ∷ unless_none more (suc c) ∷ r) N.cells_are);
        words_are =
            words
            ∙ (ap (λ r. us ++ r) (N.words_are ∙ ap (λ y. packed more ++ drop y ws) (sym wide))
            ∙ sym (append_assoc us (packed more) (drop (w + length (us ++ packed more)) ws)));
        rest = rw (long, wide) N.rest;
      }

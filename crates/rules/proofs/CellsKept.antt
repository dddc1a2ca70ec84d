-- The cell of a tree and the cell of a part break no rule where the tree or part keeps the rules. Assumes nothing.
use mathlib.Core.Path.{◌≡◌, refl, ap, ◌∙◌}
use mathlib.Core.Bool.{Bool, true, false, ◌&&◌, ◌||◌, not}
use mathlib.Core.List.{List, [], ◌∷◌, ◌++◌}
use Rattle.std.specs.Prelude.{Option, None, Some}
use Prim.Native.Nat.{ℕ, suc, ◌+◌, ◌≤◌, ◌<◌}
use native.Mathlib.Omega.{arith}
use borrow.Author.Tests.{le-ltb, lt-ltb, le-leb, lt-leb, eq-eqb, ne_eqb, eqb-false}
use lib.Dec.{ltb, leb, eqb}
use Rattle.rules.specs.Cell.{Cell, is_part, first_child}
use Rattle.rules.specs.Lowest.{chain, chains, any_part, Named, named, top_broken, kind_broken, id_broken, link_broken, count_broken, place_broken, order_broken, inside_broken, end_broken, part_broken, stray_broken}
use lib.ListN.{length, take, drop}
use lib.Seq.{take_at}
use Rattle.tree.specs.Trees.{Trees, nil, tree, part, nodes, siblings}
use Rattle.tree.specs.Materialise.{within}
use Rattle.tree.specs.Cells.{unless_none, kind, id_word}
use Rattle.rules.proofs.Tests.{and_none}
use Rattle.rules.proofs.PartWritten.{parts_kept}
use Rattle.rules.proofs.Keeping.{Keeps}
use Rattle.tree.specs.Well.{Known, Parts}

-- the cell that a link x names, if it names one, before the other named cells
unfoldable pub due : (x after : ℕ) (within : Option ℕ) (base : ℕ) → List Named → List Named
due x after within base ds = elim (eqb x 0) [ true ↦ ds | false ↦ record { cell = x; after = after; within = within; base = base } ∷ ds ]

-- the named cells stand from cell m on
abbrev pub Apart : ℕ → List Named → Type 0
Apart m [] = Unit {0}
Apart m (d ∷ ds) = (m ≤ d.cell) × Apart m ds

apart_named : (c m : ℕ) (ds : List Named) → c < m → Apart m ds → named c ds ≡ false
unfolding named
apart_named c m [] h a = refl
apart_named c m (d ∷ ds) h a = rw (ne_eqb d.cell c (λ e. omega (arith, a.0)), apart_named c m ds h a.1)

pub apart_less : (m k : ℕ) (ds : List Named) → k ≤ m → Apart m ds → Apart k ds
apart_less m k [] h a = tt
apart_less m k (d ∷ ds) h a = (omega (arith, a.0), apart_less m k ds h a.1)

pub apart_due : (m x after : ℕ) (within : Option ℕ) (base : ℕ) (ts : Trees) (c : ℕ) (ds : List Named) → m ≤ c → x ≡ unless_none ts c → Apart m ds → Apart m (due x after within base ds)
unfolding due unless_none
apart_due m x after within base ts c ds h e a = go (eqb x 0) refl ts e
  where
    go : (b : Bool) → eqb x 0 ≡ b → (ts : Trees) → x ≡ unless_none ts c → Apart m (elim b [ true ↦ ds | false ↦ record { cell = x; after = after; within = within; base = base } ∷ ds ])
    go true e ts q = a
    go false e nil q = absurd (eqb-false x 0 e q)
    go false e (tree t s l kids rest) q = (omega arith, a)
    go false e (part s l us rest) q = (omega arith, a)

module _ (T : ℕ) (types : T ≤ 65536) (ws : List ℕ) (n S hi : ℕ) (fits : S + hi ≤ 4294967295) where
  -- the end that siblings reach at most, counted from 0
  unfoldable pub upper : Option ℕ → ℕ → ℕ
  upper None b = hi
  upper (Some l) b = b + l

  pub link_kept : (c c' : ℕ) (ts : Trees) → c < c' → c' + nodes ts ≤ suc n → link_broken n c (unless_none ts c') ≡ false
  unfolding link_broken unless_none nodes
  link_kept c c' nil h r = refl
  link_kept c c' (tree t s l kids rest) h r = rw (lt-ltb c c' h, le-leb c' n (omega arith)) (and_none (not (eqb c' 0)))
  link_kept c c' (part s l us rest) h r = rw (lt-ltb c c' h, le-leb c' n (omega arith)) (and_none (not (eqb c' 0)))

  top_kept : (c : ℕ) (k : Cell) → 2 ≤ c → top_broken c k ≡ false
  unfolding top_broken
  top_kept c k h = rw (ne_eqb c 1 (λ e. omega arith))

  place_kept : (c m : ℕ) (d : Named) (ds : List Named) → d.cell ≡ c → c < m → Apart m ds → place_broken c d ds ≡ false
  unfolding place_broken
  place_kept c m d ds h l a = rw (eq-eqb d.cell c h, apart_named c m ds l a)

  order_kept : (d : Named) (k : Cell) → d.after ≤ k.position → order_broken d k ≡ false
  unfolding order_broken
  order_kept d k h = le-ltb k.position d.after h

  inside_kept : (d : Named) (k : Cell) (b : ℕ) → b + (k.position + k.len) ≤ upper d.within b → inside_broken d k ≡ false
  unfolding inside_broken upper
  inside_kept d k b h = go d.within h
    where
      go : (o : Option ℕ) → b + (k.position + k.len) ≤ upper o b → elim o [ None ↦ false | Some l ↦ ltb l (k.position + k.len) ] ≡ false
      go None h = refl
      go (Some l) h = le-ltb l (k.position + k.len) (omega arith)

  end_kept : (c : ℕ) (d : Named) (k : Cell) (b : ℕ) → d.base ≡ S + b → b + (k.position + k.len) ≤ hi → end_broken c d k ≡ false
  unfolding end_broken
  end_kept c d k b q h = rw (le-ltb 4294967295 (d.base + (k.position + k.len)) (omega arith)) (and_none (not (eqb c 1)))

  -- a tree's cell, not the top's
  module _ (c w b : ℕ) (d : Named) (ds : List Named) (t : Option ℕ) (s l : ℕ) (kids rest : Trees) (ks : List Cell) where
    abbrev pub cell_of_tree : Cell
    cell_of_tree = record { kind = kind t; id = id_word t; position = s; len = l; first = unless_none kids (suc c); count = siblings kids; next = unless_none rest (c + suc (nodes kids)) }

    pub tree_kind : is_part cell_of_tree ≡ false
    unfolding kind
    tree_kind = go t
      where
        go : (t : Option ℕ) → eqb (kind t) 2 ≡ false
        go None = refl
        go (Some i) = refl

    kinds_kept : kind_broken cell_of_tree ≡ false
    unfolding kind_broken kind
    kinds_kept = go t
      where
        go : (t : Option ℕ) → not (eqb (kind t) 1 || (eqb (kind t) 3 || eqb (kind t) 2)) ≡ false
        go None = refl
        go (Some i) = refl

    ids_kept : Known T t → id_broken T cell_of_tree ≡ false
    unfolding id_broken kind id_word
    ids_kept h = go t h
      where
        go : (t : Option ℕ) → Known T t → elim (eqb (kind t) 1) [ true ↦ leb T (id_word t) | false ↦ not (eqb (id_word t) 0) ] ≡ false
        go None h = refl
        go (Some i) h = lt-leb T i h

    child_kept : first_child cell_of_tree ≡ unless_none kids (suc c)
    unfolding first_child
    child_kept = rw (tree_kind, first_child)

    pub tree_kept : 2 ≤ c → d.cell ≡ c → Apart (c + nodes (tree t s l kids rest)) ds → c + nodes (tree t s l kids rest) ≤ suc n → d.base ≡ S + b
        → d.after ≤ s → b + (s + l) ≤ upper d.within b → upper d.within b ≤ hi → Known T t
        → siblings kids ≡ chain c (unless_none kids (suc c)) (chains (suc c) ks)
        → Keeps T ws n c w d ds cell_of_tree ks
    unfolding nodes count_broken part_broken stray_broken
    tree_kept two here apart room base order inside most known count = record {
      top = top_kept c cell_of_tree two;
      kinds = kinds_kept;
      ids = ids_kept known;
      next_link = link_kept c (c + suc (nodes kids)) rest (omega arith) (omega arith);
      first_link = ap (link_broken n c) child_kept ∙ link_kept c (suc c) kids (omega arith) (omega arith);
      counts = rw (tree_kind, eq-eqb (siblings kids) (chain c (unless_none kids (suc c)) (chains (suc c) ks)) count);
      place = place_kept c (c + suc (nodes kids + nodes rest)) d ds here (omega arith) apart;
      order = order_kept d cell_of_tree order;
      inside = inside_kept d cell_of_tree b inside;
      ends = end_kept c d cell_of_tree b base (omega arith);
      words = rw tree_kind;
      stray = rw (tree_kind, ne_eqb c 1 (λ e. omega arith)) (and_none (not (any_part ks)));
    }

  -- a part's cell
  module _ (c w b : ℕ) (d : Named) (ds : List Named) (s l : ℕ) (us : List ℕ) (rest : Trees) (ks : List Cell) where
    abbrev pub cell_of_part : Cell
    cell_of_part = record { kind = 2; id = 0; position = s; len = l; first = w; count = length us; next = unless_none rest (suc c) }

    words_kept : drop w ws ≡ us ++ drop (w + length us) ws → w + length us ≤ length ws → Parts T (b + s) l us → part_broken T ws w cell_of_part ≡ false
    unfolding part_broken
    words_kept q r h =
        let same : take (length us) (drop w ws) ≡ us = ap (take (length us)) q ∙ take_at us (drop (w + length us) ws) (length us) refl in
        rw (eq-eqb w w refl, le-ltb (length ws) (w + length us) r, same, parts_kept T (b + s) l us types h)

    stray_kept : (any_part ks ≡ false → w + length us ≡ length ws) → stray_broken ws c cell_of_part ks ≡ false
    unfolding stray_broken
    stray_kept h = go (any_part ks) refl
      where
        go : (x : Bool) → any_part ks ≡ x → not x && not (eqb (w + length us) (length ws)) ≡ false
        go true e = refl
        go false e = rw (eq-eqb (w + length us) (length ws) (h e))

    pub part_cell_kept : 2 ≤ c → d.cell ≡ c → Apart (c + nodes (part s l us rest)) ds → c + nodes (part s l us rest) ≤ suc n → d.base ≡ S + b
        → d.after ≤ s → b + (s + l) ≤ upper d.within b → upper d.within b ≤ hi
        → drop w ws ≡ us ++ drop (w + length us) ws → w + length us ≤ length ws → Parts T (b + s) l us → (any_part ks ≡ false → w + length us ≡ length ws)
        → Keeps T ws n c w d ds cell_of_part ks
    unfolding nodes kind_broken id_broken count_broken first_child link_broken
    part_cell_kept two here apart room base order inside most q r h stray = record {
      top = top_kept c cell_of_part two;
      kinds = refl;
      ids = refl;
      next_link = link_kept c (suc c) rest (omega arith) (omega arith);
      first_link = refl;
      counts = refl;
      place = place_kept c (c + suc (nodes rest)) d ds here (omega arith) apart;
      order = order_kept d cell_of_part order;
      inside = inside_kept d cell_of_part b inside;
      ends = end_kept c d cell_of_part b base (omega arith);
      words = words_kept q r h;
      stray = stray_kept stray;
    }

-- The cells and words of a tree that keeps the rules break no rule. Assumes nothing.
use mathlib.Core.Path.{◌≡◌, refl, sym, ap, ap₂, subst, ◌∙◌}
use mathlib.Core.Bool.{Bool, true, false, ◌&&◌, ◌||◌, not}
use mathlib.Core.List.{List, [], ◌∷◌, append-nil}
use Rattle.std.specs.Prelude.{Option, None, Some}
use Prim.Native.Nat.{ℕ, zero, suc, ◌+◌, ◌*◌, ◌%◌, ◌≤◌, ◌<◌}
use native.Mathlib.Omega.{arith}
use native.Mathlib.Nat.{le_refl}
use borrow.Author.Tests.{lt-leb, eq-eqb, ne_eqb}
use lib.Dec.{eqb}
use Rattle.rules.specs.Cell.{Cell, cells_of, first_child}
use Rattle.rules.specs.Lowest.{chain, chains, any_part, named, top_broken, kind_broken, id_broken, link_broken, count_broken, place_broken, order_broken, inside_broken, end_broken, part_broken, stray_broken, next_named, first_named, words_end, lowest_from, top_named, bad_cell}
use lib.ListN.{length}
use Rattle.tree.specs.Trees.{Trees, nil, tree, nodes, siblings}
use Rattle.tree.specs.Cells.{relative, absolute, packed, unless_none, kind, id_word, cells, cell_width}
use Rattle.tree.proofs.CellLaws.{packed_relative, absolute_relative, shift_zero}
use Rattle.tree.proofs.KeptLaws.{Kept}
use Rattle.rules.proofs.Keeping.{Keeps, words_of, cells_words, length_words}
use Rattle.rules.proofs.Listed.{listed, words_listed, length_listed, chain_listed, no_part}
use Rattle.rules.proofs.CellsKept.{due, upper, link_kept}
use Rattle.rules.proofs.Runs.{Good, runs, lowest_step}
use Rattle.tree.specs.Well.{Parts, Sound}

module _ (T : ℕ) (types : T ≤ 65536) (ws : List ℕ) (n S hi : ℕ) (fits : S + hi ≤ 4294967295) where
  -- cell 1
  module _ (top len : ℕ) (kids : Trees) (known : top < T) (sound : Sound T 0 hi (absolute 0 kids)) (words : ws ≡ packed kids) (size : n ≡ suc (nodes kids)) where
    abbrev top_cell : Cell
    top_cell = record { kind = 1; id = top; position = 0; len = len; first = unless_none kids 2; count = siblings kids; next = 0 }

    abbrev inside_cells : List Cell
    inside_cells = listed 2 0 kids

    top_counted : siblings kids ≡ chain 1 (unless_none kids 2) (chains 2 inside_cells)
    top_counted = sym (subst (λ l. chain 1 (unless_none kids 2) (chains 2 l) ≡ siblings kids) (append-nil inside_cells) (chain_listed kids 1 0 [] []))

    top_stray : stray_broken ws 1 top_cell inside_cells ≡ false
    unfolding stray_broken
    top_stray = go (any_part inside_cells) refl
      where
        go : (x : Bool) → any_part inside_cells ≡ x → not x && not (eqb (length ws) 0) ≡ false
        go true e = refl
        go false e =
            let (x, y) = no_part 2 0 kids [] (subst (λ l. any_part l ≡ false) (sym (append-nil inside_cells)) e) in
            rw (eq-eqb (length ws) 0 (ap length words ∙ y))

    top_keeps : Keeps T ws n 1 0 (top_named S) [] top_cell inside_cells
    unfolding top_broken kind_broken id_broken link_broken first_child count_broken place_broken order_broken inside_broken end_broken part_broken top_named named
    top_keeps = record {
      top = refl;
      kinds = refl;
      ids = lt-leb T top known;
      next_link = refl;
      first_link = link_kept T types ws n S hi fits 1 2 kids (omega arith) (omega arith);
      counts = rw (eq-eqb (siblings kids) (chain 1 (unless_none kids 2) (chains 2 inside_cells)) top_counted);
      place = refl;
      order = refl;
      inside = refl;
      ends = refl;
      words = refl;
      stray = top_stray;
    }

    top_names : first_named 1 (top_named S) top_cell (next_named (top_named S) top_cell []) ≡ due (unless_none kids 2) 0 None (S + 0) []
    unfolding first_named next_named first_child top_named due
    top_names = refl

    good_top : Good T types ws n S hi fits kids 2 0 0 None 0 [] []
    unfolding upper
    good_top = record {
      two = omega arith;
      room = omega (arith, size);
      apart = tt;
      sound = sound;
      most = le_refl hi;
      words = words ∙ sym (append-nil (packed kids));
      fill = omega (arith, ap length words);
    }

    read_all : lowest_from T ws n (2 + nodes kids) (0 + length (packed kids)) [] [] ≡ 0
    unfolding lowest_from
    read_all = refl

    no_part_after : any_part [] ≡ false → 0 + length (packed kids) ≡ length ws
    no_part_after e = omega (arith, ap length words)

    top_end : words_end 0 top_cell ≡ 0
    unfolding words_end
    top_end = refl

    lowest_none : lowest_from T ws n 1 0 (top_named S ∷ []) (top_cell ∷ inside_cells) ≡ 0
    lowest_none =
        lowest_step T types ws n S hi fits 1 0 (top_named S) [] top_cell inside_cells top_keeps
        ∙ (ap₂ (λ x y. lowest_from T ws n 2 x y inside_cells) top_end top_names
        ∙ (ap (lowest_from T ws n 2 0 (due (unless_none kids 2) 0 None (S + 0) [])) (sym (append-nil inside_cells))
        ∙ (runs T types ws n S hi fits kids 2 0 0 None 0 [] [] good_top [] no_part_after ∙ read_all)))

listed_top : (top len : ℕ) (kids : Trees)
    → cells 1 0 (tree (Some top) 0 len kids nil) ≡ words_of (record { kind = 1; id = top; position = 0; len = len; first = unless_none kids 2; count = siblings kids; next = 0 } ∷ listed 2 0 kids)
unfolding cells words_of kind id_word unless_none
listed_top top len kids = ap (λ r. 1 ∷ top ∷ 0 ∷ len ∷ unless_none kids 2 ∷ siblings kids ∷ 0 ∷ r) (append-nil (cells 2 0 kids) ∙ sym (words_listed 2 0 kids))

relative_top : (top len : ℕ) (kids : Trees) → relative 0 (tree (Some top) 0 len kids nil) ≡ tree (Some top) 0 len (relative 0 kids) nil
unfolding relative
relative_top top len kids = refl

-- no cell of a list breaks a rule
none_lowest : (T S : ℕ) (ws : List ℕ) (k : Cell) (ks : List Cell) → lowest_from T ws (length (k ∷ ks)) 1 0 (top_named S ∷ []) (k ∷ ks) ≡ 0
    → bad_cell T S (words_of (k ∷ ks)) ws ≡ None
unfolding bad_cell
none_lowest T S ws k ks h =
    let cs = words_of (k ∷ ks) in
    let m : length cs ≡ cell_width * length (k ∷ ks) = length_words (k ∷ ks) in
    let a : eqb (length cs) 0 ≡ false = ne_eqb (length cs) 0 (λ e. omega arith) in
    let b : eqb (length cs % cell_width) 0 ≡ true = eq-eqb (length cs % cell_width) 0 (omega arith) in
    let e : lowest_from T ws (length (cells_of cs)) 1 0 (top_named S ∷ []) (cells_of cs) ≡ 0 =
    ap (λ l. lowest_from T ws (length l) 1 0 (top_named S ∷ []) l) (cells_words (k ∷ ks)) ∙ h in
    answer (eqb (length cs) 0) (eqb (length cs % cell_width) 0) (lowest_from T ws (length (cells_of cs)) 1 0 (top_named S ∷ []) (cells_of cs)) a b e
  where
    answer : (x y : Bool) (n : ℕ) → x ≡ false → y ≡ true → n ≡ 0
        → ◌≡◌ {A = Option ℕ} (elim (x || not y) [ true ↦ Some 0 | false ↦ elim n [ zero ↦ None | suc c ↦ Some (suc c) ] ]) None
    answer x y n hx hy hn = rw (hx, hy, hn)

-- Cells and words of a tree that keeps the rules are accepted.
pub kept_accepted : (T S hi : ℕ) (cs ws : List ℕ) → T ≤ 65536 → S + hi ≤ 4294967295 → Kept T hi cs ws → bad_cell T S cs ws ≡ None
kept_accepted T S hi cs ws types fits k =
    let top = k.top in
    let len = k.length in
    let inner = relative 0 k.kids in
    let back : absolute 0 inner ≡ k.kids =
    absolute_relative T (Parts T) 0 0 0 hi k.kids (omega arith) (subst (Sound T 0 hi) (sym (shift_zero k.kids)) k.sound) in
    let sound : Sound T 0 hi (absolute 0 inner) = subst (Sound T 0 hi) (sym back) k.sound in
    let words : ws ≡ packed inner = k.words_are ∙ sym (packed_relative 0 k.kids) in
    let size : length (record { kind = 1; id = top; position = 0; len = len; first = unless_none inner 2; count = siblings inner; next = 0 } ∷ listed 2 0 inner) ≡ suc (nodes inner) =
    ap suc (length_listed 2 0 inner) in
    let all =
    lowest_none T types ws (length (top_cell T types ws (suc (nodes inner)) S hi fits top len inner k.known sound words refl ∷ listed 2 0 inner)) S hi fits top len inner k.known sound words size in
    subst (λ l. bad_cell T S l ws ≡ None) (sym (k.cells_are ∙ (ap (cells 1 0) (relative_top top len k.kids) ∙ listed_top top len inner)))
    (none_lowest T S ws _ (listed 2 0 inner) all)

-- Accepted cells begin with the top, and its children are what is left to be read after it. Assumes nothing.
use mathlib.Core.Path.{◌≡◌, sym, ap, ◌∙◌}
use mathlib.Core.List.{List, [], append-nil}
use Rattle.std.specs.Prelude.{None, Some}
use Prim.Native.Nat.{ℕ, suc, ◌+◌, ◌-◌, ◌*◌, ◌≤◌}
use native.Mathlib.Omega.{arith}
use native.Mathlib.Nat.{add-zero}
use lib.ListN.{length, get_or, drop}
use Rattle.tree.specs.Trees.{Trees, nil, tree, part, nodes, kids_of}
use Rattle.tree.specs.Materialise.{materialise}
use Rattle.tree.specs.Cells.{relative, absolute, packed, cells, unless_none, cell_width}
use Rattle.tree.specs.Listing.{listing, lines}
use Rattle.tree.specs.Calls.{list_cells}
use Rattle.tree.specs.Well.{Parts, Sound, Short}
use Rattle.tree.proofs.WellLaws.{well-≤}
use Rattle.tree.proofs.CellLaws.{length_cells, packed_relative}
use Rattle.tree.proofs.KeptLaws.{kept_decode}
use Rattle.tree.proofs.ListingLaws.{view}
use Rattle.rules.specs.Lowest.{bad_cell}
use Rattle.rules.proofs.Decoded.{accepted_kept}
use Rattle.rules.proofs.PartWritten.{parts_kept}
use Rattle.part_lines.specs.Steps.{listed_in}
use Rattle.listing.specs.Steps.{lines_from, noted}
use Rattle.listing.proofs.Opens.{Open, Fits, AllGood, left_cells, left_packed, left_lines, push, push_cells, push_packed, push_lines, push_good}
use Rattle.listing.proofs.Lines.{counted}
use Rattle.listing.proofs.Turns.{State, noted_push, link_room}

-- trees that keep the rules, counted from S
sound_fits : (T : ℕ) → T ≤ 65536 → (S q b lo hi : ℕ) (ts : Trees) → b ≡ S + q → S + hi ≤ 4294967295 → q ≤ lo → Sound T lo hi ts → Fits T b (relative q ts)
unfolding relative
sound_fits T types S q b lo hi nil e m h w = tt
sound_fits T types S q b lo hi (tree t s l kids later) e m h w =
    let low = well-≤ T (Parts T) (s + l) hi later w.rest in
    record {
      ends = omega (arith, w.starts, low);
      inner = sound_fits T types S s (b + (s - q)) s (s + l) kids (omega (arith, w.starts)) (omega (arith, low)) (omega arith) w.inner;
      rest = sound_fits T types S q b (s + l) hi later e m (omega (arith, w.starts)) w.rest;
    }
sound_fits T types S q b lo hi (part s l us later) e m h w =
    let low = well-≤ T (Parts T) (s + l) hi later w.rest in
    record {
      ends = omega (arith, w.starts, low);
      kept = parts_kept T s l us types w.inner;
      short = w.inner.words;
      rest = sound_fits T types S q b (s + l) hi later e m (omega (arith, w.starts)) w.rest;
    }

-- The top and its children.
pub record Begun (T F S : ℕ) (cs ws : List ℕ) : Type 0 where
  pub kids : Trees
  pub fits : Fits T S kids
  pub first_is : get_or cs 4 0 ≡ unless_none kids 2
  pub cells_are : drop 7 cs ≡ cells 2 0 kids
  pub words_are : ws ≡ packed kids
  pub lines_are : list_cells F S cs ws ≡ view F 0 (absolute S kids)
  pub size : length cs ≡ suc (nodes kids) * cell_width

pub begun : (T F S : ℕ) (cs ws : List ℕ) → T ≤ 65536 → S ≤ 4294967295 → Short ws → bad_cell T S cs ws ≡ None → Begun T F S cs ws
unfolding cells relative list_cells lines kids_of absolute materialise nodes view
begun T F S cs ws types fits short ok =
    let k = accepted_kept T S ws short fits cs ok in
    let d = kept_decode T (4294967295 - S) cs ws k in
    let kids = relative 0 k.kids in
    let t = tree (Some k.top) 0 k.length kids nil in
    let e = k.cells_are in
    record {
      kids = kids;
      fits = sound_fits T types S 0 S 0 (4294967295 - S) k.kids (omega arith) (omega arith) (omega arith) k.sound;
      first_is = ap (λ (l : List ℕ). get_or l 4 0) e;
      cells_are = ap (drop 7) e ∙ append-nil (cells 2 0 kids);
      words_are = k.words_are ∙ sym (packed_relative 0 k.kids);
      lines_are = ap (λ (v : Trees). lines F (materialise (absolute S v))) d ∙ ap (λ (q : ℕ). listing F 0 (materialise (absolute q kids))) (add-zero S);
      size = ap length e ∙ (length_cells 1 0 t ∙ omega arith);
    }

module _ (T F S : ℕ) (cs ws : List ℕ) (b : Begun T F S cs ws) where
  abbrev opens : List Open
  opens = push 0 S 0 b.kids []

  cells_left : drop (1 * cell_width) cs ≡ left_cells (1 + 1) opens
  unfolding left_cells
  cells_left = b.cells_are ∙ sym (push_cells 2 0 S 0 b.kids [] ∙ append-nil (cells 2 0 b.kids))

  words_left : left_packed opens ≡ ws
  unfolding left_packed
  words_left = push_packed 0 S 0 b.kids [] ∙ (append-nil (packed b.kids) ∙ sym b.words_are)

  lines_left : list_cells F S cs ws ≡ left_lines F opens
  unfolding left_lines
  lines_left = b.lines_are ∙ sym (push_lines F 0 S 0 b.kids [] ∙ append-nil (view F 0 (absolute S b.kids)))

  all_good : AllGood T ws opens
  all_good = push_good T ws 0 S 0 b.kids [] b.fits (record { later = []; are = b.words_are ∙ sym (append-nil (packed b.kids)); low = omega arith }) tt

  pub line_count : (n : ℕ) → n * cell_width ≡ length cs → length (list_cells F S cs ws) ≡ (lines_from F cs 1 (n - 1) + listed_in F ws) * 4
  line_count n e =
      ap length lines_left
      ∙ (counted T F cs ws (n - 1) 1 opens cells_left all_good (omega (arith, b.size))
      ∙ ap (λ (v : List ℕ). (lines_from F cs 1 (n - 1) + listed_in F v) * 4) words_left)

  pub first_room : get_or cs 4 0 * cell_width ≤ length cs
  first_room =
      let l = link_room b.kids (get_or cs 4 0) 2 (suc (nodes b.kids)) b.first_is (omega arith) in
      omega (arith, l, b.size)

  pub state_first : (held : List ℕ) (m : ℕ) → m ≤ length held → get_or cs 4 0 * 2 ≤ m → get_or cs 4 0 ≤ 4294967295
      → State T F cs ws (noted held (get_or cs 4 0) S 0) m 0 1 (list_cells F S cs ws)
  state_first held m wide r k = record {
    opens = opens;
    cells_are = cells_left;
    lines_are = lines_left;
    good = all_good;
    notes = noted_push held m 0 1 0 S 0 b.kids [] (get_or cs 4 0) b.first_is wide r k (omega arith) (omega arith) tt;
  }

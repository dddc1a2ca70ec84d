-- The cell rules as a predicate of cells and words: they are those of a tree whose ids, ranges and parts are as the
-- rules ask. What build and materialise write keeps them, and reading it back, materialising and listing it gives the
-- tree's lines. Assumes nothing.
use mathlib.Core.Path.{◌≡◌, refl, sym, ap, ap₂, subst, ◌∙◌}
use mathlib.Core.List.{List, [], append-nil}
use Rattle.std.specs.Prelude.{Option, Some}
use Rattle.std.specs.Option.{unwrap_or}
use lib.ListN.{length}
use Prim.Native.Nat.{ℕ, suc, ◌+◌, ◌-◌, ◌*◌, ◌≤◌, ◌<◌}
use native.Mathlib.Omega.{arith}
use native.Mathlib.Nat.{le_refl, add-zero}
use Rattle.records.specs.Forest.{Forest, empty, add, behind, Nested}
use Rattle.records.specs.Parse.{parse}
use Rattle.records.specs.Check.{Accepted}
use Rattle.records.proofs.AcceptLaws.{accepted_nested, nested_to}
use Rattle.tree.specs.Trees.{Trees, nil, tree, part, nodes, kids_of, last_end}
use Rattle.tree.specs.Materialise.{unpack, materialise}
use Rattle.tree.specs.Listing.{listing, lines}
use Rattle.tree.specs.Build.{build, first_level}
use Rattle.tree.specs.Cells.{cell_width, relative, absolute, packed, cells, decode, tree_cells}
use Rattle.tree.specs.Calls.{written, build_cells, materialise_cells, list_cells}
use Rattle.tree.proofs.ListingLaws.{view}
use Rattle.tree.proofs.CellLaws.{length_tree_cells, decode_all, packed_relative, shift, nodes_shift, unpack_shift, absolute_shift, materialise_shift, absolute_relative, absolute_relative_top, shift_zero, packed_shift, packed_plain}
use Rattle.tree.proofs.WellLaws.{well-≤}
use Rattle.tree.proofs.WellBuild.{plain_materialise, sound_first_level}
use Rattle.tree.proofs.BuiltReading.{tree_lines}
use Rattle.tree.specs.Well.{Plain, Parts, Sound, spelled}

-- Cells and words of a tree that keeps the cell rules, with absolute ends up to hi counted from 0.
pub record Kept (T hi : ℕ) (cs ws : List ℕ) : Type 0 where
  pub top : ℕ
  pub length : ℕ
  pub kids : Trees
  pub known : top < T
  pub sound : Sound T 0 hi kids
  pub cells_are : cs ≡ cells 1 0 (relative 0 (tree (Some top) 0 length kids nil))
  pub words_are : ws ≡ packed kids

module _ (T : ℕ) where
  spelled_shift : (k p off : ℕ) (ts : Trees) → spelled (k + p) off (shift k ts) ≡ spelled p off ts
  unfolding spelled shift
  spelled_shift k p off nil = refl
  spelled_shift k p off (tree t s l kids rest) =
      let a : (k + s) - (k + p) ≡ s - p = omega arith in
      let b : (k + s + l) - (k + p) ≡ (s + l) - p = omega arith in
      rw (a, b, nodes_shift k kids, spelled_shift k p (off + 4) kids, spelled_shift k p (off + 4 + 4 * nodes kids) rest)
  spelled_shift k p off (part s l ws rest) = spelled_shift k p off rest

  -- the rules do not depend on where counting starts
  plain_down : (k lo hi : ℕ) (ts : Trees) → Plain T (k + lo) (k + hi) (shift k ts) → Plain T lo hi ts
  unfolding shift
  plain_down k lo hi nil w = omega arith
  plain_down k lo hi (tree t s l kids rest) w =
      let a : k + s + l ≡ k + (s + l) = omega arith in
      record {
        known = w.known;
        starts = omega (arith, w.starts);
        inner = plain_down k s (s + l) kids (subst (λ e. Plain T (k + s) e (shift k kids)) a w.inner);
        rest = plain_down k (s + l) hi rest (subst (λ e. Plain T e (k + hi) (shift k rest)) a w.rest);
      }
  plain_down k lo hi (part s l ws rest) w = absurd w.inner

  parts_down : (k s l : ℕ) (ws : List ℕ) → Parts T (k + s) l ws → Parts T s l ws
  parts_down k s l ws h =
      let a : k + s + l ≡ k + (s + l) = omega arith in
      record {
        whole = sym (spelled_shift k s 0 (unpack s 0 ws)) ∙ (ap (spelled (k + s) 0) (sym (unpack_shift k s 0 ws)) ∙ h.whole);
        ranges = plain_down k s (s + l) (unpack s 0 ws)
            (subst (λ e. Plain T (k + s) e (shift k (unpack s 0 ws))) a (subst (Plain T (k + s) (k + s + l)) (unpack_shift k s 0 ws) h.ranges));
        words = h.words;
      }

  sound_down : (k lo hi : ℕ) (ts : Trees) → Sound T (k + lo) (k + hi) (shift k ts) → Sound T lo hi ts
  unfolding shift
  sound_down k lo hi nil w = omega arith
  sound_down k lo hi (tree t s l kids rest) w =
      let a : k + s + l ≡ k + (s + l) = omega arith in
      record {
        known = w.known;
        starts = omega (arith, w.starts);
        inner = sound_down k s (s + l) kids (subst (λ e. Sound T (k + s) e (shift k kids)) a w.inner);
        rest = sound_down k (s + l) hi rest (subst (λ e. Sound T e (k + hi) (shift k rest)) a w.rest);
      }
  sound_down k lo hi (part s l ws rest) w =
      let a : k + s + l ≡ k + (s + l) = omega arith in
      record {
        starts = omega (arith, w.starts);
        inner = parts_down k s l ws w.inner;
        rest = sound_down k (s + l) hi rest (subst (λ e. Sound T e (k + hi) (shift k rest)) a w.rest);
      }

  plain_sound : (lo hi : ℕ) (ts : Trees) → Plain T lo hi ts → Sound T lo hi ts
  plain_sound lo hi nil w = w
  plain_sound lo hi (tree t s l kids rest) w =
      record { known = w.known; starts = w.starts; inner = plain_sound s (s + l) kids w.inner; rest = plain_sound (s + l) hi rest w.rest }
  plain_sound lo hi (part s l ws rest) w = absurd w.inner

  -- a tree without parts is materialised
  plain_stays : (lo hi : ℕ) (ts : Trees) → Plain T lo hi ts → materialise ts ≡ ts
  unfolding materialise
  plain_stays lo hi nil w = refl
  plain_stays lo hi (tree t s l kids rest) w = ap₂ (tree t s l) (plain_stays s (s + l) kids w.inner) (plain_stays (s + l) hi rest w.rest)
  plain_stays lo hi (part s l ws rest) w = absurd w.inner

relative_absolute : (q : ℕ) (ts : Trees) → relative q (absolute q ts) ≡ ts
unfolding relative absolute
relative_absolute q nil = refl
relative_absolute q (tree t s l kids rest) =
    let a : (q + s) - q ≡ s = omega arith in
    rw (a, relative_absolute (q + s) kids, relative_absolute q rest)
relative_absolute q (part s l ws rest) =
    let a : (q + s) - q ≡ s = omega arith in
    rw (a, relative_absolute q rest)

-- What is read back from cells and words that keep the rules.
module _ (T hi : ℕ) (cs ws : List ℕ) (k : Kept T hi cs ws) where
  abbrev t : Trees
  t = tree (Some k.top) 0 k.length k.kids nil

  pub kept_decode : decode ws cs ≡ relative 0 t
  unfolding packed
  kept_decode =
      let w : ws ≡ packed (relative 0 t) = k.words_are ∙ (sym (append-nil (packed k.kids)) ∙ sym (packed_relative 0 t)) in
      ap₂ decode w k.cells_are ∙ decode_all (relative 0 t)

  pub kept_read : absolute 0 (decode ws cs) ≡ t
  kept_read =
      ap (absolute 0) kept_decode
      ∙ absolute_relative_top T (Parts T) 0 0 hi (Some k.top) 0 k.length k.kids (omega arith) (rw shift_zero k.sound)

  -- materialise writes a tree that keeps the rules and has no parts
  pub materialise_keeps : T ≤ 65536 → Kept T hi (materialise_cells cs ws) []
  unfolding materialise_cells tree_cells materialise
  materialise_keeps types =
      let plain = plain_materialise T types 0 hi k.kids k.sound in
      record {
        top = k.top;
        length = k.length;
        kids = materialise k.kids;
        known = k.known;
        sound = plain_sound T 0 hi (materialise k.kids) plain;
        cells_are = ap (λ (u : Trees). cells 1 0 (relative 0 (materialise u))) kept_read;
        words_are = sym (packed_plain T 0 hi (materialise k.kids) plain);
      }

-- cells and packed words, read back with S added
pub kept_from : (T hi S : ℕ) (cs ws : List ℕ) (k : Kept T hi cs ws) → absolute S (decode ws cs) ≡ shift S (tree (Some k.top) 0 k.length k.kids nil)
kept_from T hi S cs ws k =
    let u = tree (Some k.top) 0 k.length k.kids nil in
    ap (absolute S) (kept_decode T hi cs ws k)
    ∙ (ap (λ q. absolute q (relative 0 u)) (sym (add-zero S))
    ∙ (absolute_shift S 0 (relative 0 u) ∙ ap (shift S) (ap (absolute 0) (sym (kept_decode T hi cs ws k)) ∙ kept_read T hi cs ws k)))

module _ (T hi F S : ℕ) where
  -- listing of cells and packed words: the lines of the tree, counted from S
  pub kept_listed : (cs ws : List ℕ) (k : Kept T hi cs ws) → list_cells F S cs ws ≡ view F 0 (shift S k.kids)
  unfolding list_cells lines kids_of shift materialise view
  kept_listed cs ws k = ap (λ (u : Trees). lines F (materialise u)) (kept_from T hi S cs ws k)

  -- Listing of what materialise wrote, which has no packed words, gives the lines that listing gives of what it was made of.
  pub listed_in_turn : T ≤ 65536 → (cs ws : List ℕ) → Kept T hi cs ws → list_cells F S (materialise_cells cs ws) [] ≡ list_cells F S cs ws
  unfolding materialise_keeps view
  listed_in_turn types cs ws k =
      let plain = plain_materialise T types 0 hi k.kids k.sound in
      kept_listed (materialise_cells cs ws) [] (materialise_keeps T hi cs ws k types)
      ∙ (ap (listing F 0) (materialise_shift S (materialise k.kids) ∙ (ap (shift S) (plain_stays T 0 hi (materialise k.kids) plain) ∙ sym (materialise_shift S k.kids)))
      ∙ sym (kept_listed cs ws k))

-- how many cells materialise writes of cells that keep the rules
kept_size : (T hi : ℕ) (cs ws : List ℕ) (k : Kept T hi cs ws) → length (materialise_cells cs ws) ≡ cell_width * suc (nodes (materialise k.kids) + 0)
unfolding materialise_cells materialise nodes
kept_size T hi cs ws k = ap (λ (u : Trees). length (tree_cells 0 (materialise u))) (kept_read T hi cs ws k) ∙ length_tree_cells 0 (tree (Some k.top) 0 k.length (materialise k.kids) nil)

-- Children that stand from S on, as they are read back from cells: counted from 0.
module _ (T S hi : ℕ) (kids : Trees) (sound : Sound T S hi kids) where
  unfoldable pub counted : Trees
  counted = absolute 0 (relative S kids)

  pub counted_up : shift S counted ≡ kids
  unfolding counted
  counted_up =
      sym (absolute_shift S 0 (relative S kids))
      ∙ (ap (λ q. absolute q (relative S kids)) (add-zero S) ∙ absolute_relative T (Parts T) 0 S S hi kids (omega arith) (rw shift_zero sound))

  pub sound_counted : Sound T 0 (hi - S) counted
  sound_counted =
      let a : S ≡ S + 0 = omega arith in
      let b : hi ≡ S + (hi - S) = omega (arith, well-≤ T (Parts T) S hi kids sound) in
      sound_down T S 0 (hi - S) counted (subst (λ s. Sound T s (S + (hi - S)) (shift S counted)) a (subst (λ e. Sound T S e (shift S counted)) b (subst (Sound T S hi) (sym counted_up) sound)))

  -- the cells and words written of a tree over them
  pub kept_written : (top l : ℕ) → top < T → Kept T (hi - S) (tree_cells S (tree (Some top) S l kids nil)) (packed kids)
  unfolding tree_cells relative counted
  kept_written top l known =
      let none_left : S - S ≡ 0 = omega arith in
      record {
        top = top;
        length = l;
        kids = counted;
        known = known;
        sound = sound_counted;
        cells_are = rw (relative_absolute 0 (relative S kids), none_left);
        words_are = sym (sym (packed_shift S counted) ∙ ap packed counted_up);
      }

-- What the build of an accepted list writes keeps the rules, and so do the cells that materialise makes of it; all
-- absolute ends, S added, fit 32 bits.
module _ (T F b S top : ℕ) (given : Option ℕ) (list : List ℕ) (fits : S ≤ 4294967295) (a : Accepted T b top S list) where
  abbrev f : Forest
  f = parse list

  pub ends_fit : Nested T S (behind S f) f × (behind S f ≤ 4294967295)
  unfolding behind
  ends_fit =
      let n = accepted_nested T b top S list a fits in
      (nested_to T S 4294967295 (behind S f) f (le_refl (behind S f)) n, below f n)
    where
      below : (g : Forest) → Nested T S 4294967295 g → behind S g ≤ 4294967295
      below empty n = n
      below (add before i s e kids) n = n.ends

  pub built_sound : Sound T S (behind S f) (first_level F b S f)
  built_sound = sound_first_level T a.types F b a.bound S f ends_fit.0

  pub build_kept : Kept T (behind S f - S) (build_cells F b S top given f).cells (build_cells F b S top given f).words
  unfolding build_cells written build packed
  build_kept =
      let kids = first_level F b S f in
      subst (Kept T (behind S f - S) _) (sym (append-nil (packed kids)))
      (kept_written T S (behind S f) kids built_sound top (unwrap_or given (last_end S kids - S)) a.top_known)

  pub materialise_kept : Kept T (behind S f - S) (materialise_cells (build_cells F b S top given f).cells (build_cells F b S top given f).words) []
  materialise_kept = materialise_keeps T (behind S f - S) (build_cells F b S top given f).cells (build_cells F b S top given f).words build_kept a.types

  -- listing of what the build wrote gives the lines of the built tree
  pub cells_give_lines : list_cells F S (build_cells F b S top given f).cells (build_cells F b S top given f).words ≡ tree_lines F b S top given f
  unfolding build_cells written build packed tree_lines lines materialise kids_of view kept_written
  cells_give_lines =
      let kids = first_level F b S f in
      let t = build F b S top given f in
      let k = kept_written T S (behind S f) kids built_sound top (unwrap_or given (last_end S kids - S)) a.top_known in
      ap (λ (w : List ℕ). list_cells F S (tree_cells S t) w) (append-nil (packed kids))
      ∙ (kept_listed T (behind S f - S) F S (tree_cells S t) (packed kids) k ∙ ap (view F 0) (counted_up T S (behind S f) kids built_sound))

  -- and so does listing of what materialise makes of it
  pub trees_give_lines : list_cells F S (materialise_cells (build_cells F b S top given f).cells (build_cells F b S top given f).words) [] ≡ tree_lines F b S top given f
  trees_give_lines = listed_in_turn T (behind S f - S) F S a.types (build_cells F b S top given f).cells (build_cells F b S top given f).words build_kept ∙ cells_give_lines

  -- how many cells materialise writes: those of the materialised tree
  pub materialised_size : length (materialise_cells (build_cells F b S top given f).cells (build_cells F b S top given f).words) ≡ cell_width * nodes (materialise (build F b S top given f))
  unfolding build_cells written build packed materialise nodes kept_written
  materialised_size =
      let kids = first_level F b S f in
      let t = build F b S top given f in
      let k = kept_written T S (behind S f) kids built_sound top (unwrap_or given (last_end S kids - S)) a.top_known in
      let here = counted T S (behind S f) kids built_sound in
      let same : nodes (materialise here) ≡ nodes (materialise kids) =
      sym (nodes_shift S (materialise here)) ∙ (ap nodes (sym (materialise_shift S here)) ∙ ap (λ (u : Trees). nodes (materialise u)) (counted_up T S (behind S f) kids built_sound)) in
      ap (λ (w : List ℕ). length (materialise_cells (tree_cells S t) w)) (append-nil (packed kids))
      ∙ (kept_size T (behind S f - S) (tree_cells S t) (packed kids) k ∙ ap (λ (m : ℕ). cell_width * suc (m + 0)) same)

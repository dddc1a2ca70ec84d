-- What accepted cells are: the cells of a tree whose starts and ends fit 32 bits, and what each of them says. Assumes nothing.
use mathlib.Core.Path.{◌≡◌, refl, sym, ap, subst, ◌∙◌}
use mathlib.Core.List.{List, [], append-nil}
use Rattle.std.specs.Prelude.{Some}
use mathlib.Core.Logic.{inl}
use Prim.Native.Nat.{ℕ, suc, ◌+◌, ◌*◌, ◌≤◌, ◌<◌}
use native.Mathlib.Omega.{arith}
use lib.ListN.{length}
use Rattle.tree.specs.Trees.{Trees, nil, tree, part, nodes}
use Rattle.tree.specs.Cells.{packed, cells, relative, cell_width}
use Rattle.tree.proofs.WellLaws.{well-≤}
use Rattle.tree.proofs.CellLaws.{length_cells}
use Rattle.tree.proofs.KeptLaws.{Kept, kept_read}
use Rattle.store.proofs.Flow.{relative_nodes, end, flow}
use Rattle.balance_core.specs.Rows.{Ends}
use Rattle.rules.specs.Calls.{handed_in}
use Rattle.rules.proofs.Decoded.{accepted_kept}
use Rattle.rules.proofs.PartRead.{short_of}
use Rattle.balance.specs.Steps.{bases, onwards, Given}
use Rattle.balance.proofs.Sites.{Fits, From, Site, sites}
use Rattle.tree.specs.Well.{Parts, Sound}

sound_fits : (T q lo hi : ℕ) (ts : Trees) → q ≤ lo → hi ≤ 4294967295 → Sound T lo hi ts → Fits q ts
sound_fits T q lo hi nil a b w = tt
sound_fits T q lo hi (tree t s l kids rest) a b w =
    let m = well-≤ T (Parts T) (s + l) hi rest w.rest in
    record {
      starts = omega (arith, w.starts);
      small = omega (arith, m);
      inner = sound_fits T s s (s + l) kids (omega arith) (omega (arith, m)) w.inner;
      after = sound_fits T q (s + l) hi rest (omega (arith, w.starts)) b w.rest;
    }
sound_fits T q lo hi (part s l ws rest) a b w =
    let m = well-≤ T (Parts T) (s + l) hi rest w.rest in
    record { starts = omega (arith, w.starts); small = omega (arith, m); after = sound_fits T q (s + l) hi rest (omega (arith, w.starts)) b w.rest }

sound_ends : (T lo hi : ℕ) (ts : Trees) → hi ≤ 4294967295 → Sound T lo hi ts → Ends ts
sound_ends T lo hi nil b w = tt
sound_ends T lo hi (tree t s l kids rest) b w =
    let m = well-≤ T (Parts T) (s + l) hi rest w.rest in
    record { own = omega (arith, m); inner = sound_ends T s (s + l) kids (omega (arith, m)) w.inner; after = sound_ends T (s + l) hi rest b w.rest }
sound_ends T lo hi (part s l ws rest) b w =
    let m = well-≤ T (Parts T) (s + l) hi rest w.rest in
    record { own = omega (arith, m); after = sound_ends T (s + l) hi rest b w.rest }

-- The tree handed in: its top's id and length, and its children.
pub record Handed (cs ws : List ℕ) (n : ℕ) : Type 0 where
  pub top : ℕ
  pub len : ℕ
  pub kids : Trees
  pub tree_is : handed_in cs ws ≡ tree (Some top) 0 len kids nil
  pub count : n ≡ suc (nodes kids)
  pub size : n * cell_width ≡ length cs
  pub words_are : packed (handed_in cs ws) ≡ ws
  pub ends : Ends kids
  pub site : (k : ℕ) → k < n → Site cs ws (bases 0 (handed_in cs ws)) (onwards (handed_in cs ws)) n k

module _ (cs ws : List ℕ) (n : ℕ) (g : Given cs ws n) where
  abbrev kept : Kept g.types 4294967295 cs ws
  kept = accepted_kept g.types 0 ws (short_of ws g.short) (omega arith) cs g.accepted

  abbrev whole : Trees
  whole = tree (Some kept.top) 0 kept.length kept.kids nil

  whole_is : handed_in cs ws ≡ whole
  unfolding handed_in
  whole_is = kept_read g.types 4294967295 cs ws kept

  whole_nodes : nodes whole ≡ suc (nodes kept.kids)
  unfolding nodes
  whole_nodes = omega arith

  whole_words : packed whole ≡ ws
  unfolding packed
  whole_words = append-nil (packed kept.kids) ∙ sym kept.words_are

  length_whole : length cs ≡ cell_width * suc (nodes kept.kids)
  length_whole =
      ap length kept.cells_are ∙ length_cells 1 0 (relative 0 whole) ∙ ap (λ (k : ℕ). cell_width * k) (relative_nodes 0 whole ∙ whole_nodes)

  n_is : n ≡ suc (nodes kept.kids)
  n_is = omega (arith, g.whole, length_whole)

  from_first : From cs ws (bases 0 whole) (onwards whole) n 0 0 0 whole
  unfolding flow
  from_first = record {
    after_bases = [];
    after_trees = [];
    after_cells = end;
    after_words = [];
    bases_are = sym (append-nil (bases 0 whole));
    trees_are = sym (append-nil (onwards whole));
    cells_are = kept.cells_are ∙ sym (append-nil (cells 1 0 (relative 0 whole)));
    words_are = sym whole_words ∙ sym (append-nil (packed whole));
    words_in = omega (arith, ap length whole_words);
    cells_in = omega (arith, whole_nodes, n_is);
    fits = record {
      starts = omega arith;
      small = omega arith;
      inner = sound_fits g.types 0 0 4294967295 kept.kids (omega arith) (omega arith) kept.sound;
      after = tt;
    };
    reached = λ some. inl refl;
  }

  whole_site : (k : ℕ) → k < n → Site cs ws (bases 0 whole) (onwards whole) n k
  whole_site k l = sites cs ws (bases 0 whole) (onwards whole) n 0 0 0 whole from_first k (omega arith) (omega (arith, whole_nodes, n_is))

  pub handed : Handed cs ws n
  handed = record {
    top = kept.top;
    len = kept.length;
    kids = kept.kids;
    tree_is = whole_is;
    count = n_is;
    size = omega (arith, n_is, length_whole);
    words_are = ap packed whole_is ∙ whole_words;
    ends = sound_ends g.types 0 4294967295 kept.kids (omega arith) kept.sound;
    site = λ k l. subst (λ (t : Trees). Site cs ws (bases 0 t) (onwards t) n k) (sym whole_is) (whole_site k l);
  }

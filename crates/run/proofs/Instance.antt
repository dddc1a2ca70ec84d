-- Demand 3 at document 01's list P, so that its conditions are seen to be met: with the length bound 1,024, which packs P, and with 1, which
-- does not, each in both forms of a run, lent just what 11 to 14 ask and each call with a work slice of its own length. Assumes nothing.
use mathlib.Core.Path.{◌≡◌, refl, ap, ◌∙◌}
use mathlib.Core.List.{List, []}
use Rattle.std.specs.Prelude.{None}
use Prim.Native.Nat.{ℕ}
use native.Mathlib.Omega.{arith}
use lib.ListN.{length}
use Rattle.words.specs.Outcome.{number_of}
use Rattle.records.specs.Forest.{count, behind, line, depth_below, reading, levels}
use Rattle.records.specs.Parse.{nearest, farther, parse_from, parse}
use Rattle.records.specs.Check.{own_fault, fills, record_fault, records_check, in_place, or_else, range_fault, list_range_fault, list_check, check, Accepted}
use Rattle.records.proofs.AcceptLaws.{check_accepted}
use Rattle.tree.specs.Trees.{◌⊕◌, nodes, siblings, last_end}
use Rattle.tree.specs.Items.{repeats, same, items as items_of, records, first, leftmost}
use Rattle.tree.specs.Pack.{width, words, stopped, early, scan, long, packs, run_from, entry, pack, run_part}
use Rattle.tree.specs.Groups.{fresh, gather, finish}
use Rattle.tree.specs.Flat.{too_deep}
use Rattle.tree.specs.Build.{walk, first_level, build}
use Rattle.tree.specs.Materialise.{within, beyond, unpack, materialise}
use Rattle.tree.specs.Cells.{relative, absolute, packed, unless_none, kind, id_word, cells, tree_cells, leading, following, cell_tree, decode_from, decode}
use Rattle.tree.specs.Calls.{Written, written, build_cells, materialise_cells}
use Rattle.tree.specs.Run.{Run, built, materialised, read}
use Rattle.tree.proofs.Table.{P, cells_1024, words_1024, cells_1, lines_p, nines}
use Rattle.rules.specs.Calls.{items}
use Rattle.run.specs.Running.{Works, run_lines}
use Rattle.run.specs.Lent.{Lent, LentMaterialising, LentRun, straight, materialising, ran}
use Rattle.run.proofs.TwoRuns.{two_runs}

pub accepted_1024 : Accepted 4 1024 0 0 P
unfolding check list_check list_range_fault range_fault or_else in_place records_check record_fault fills own_fault parse parse_from nearest farther behind count
accepted_1024 = check_accepted 4 1024 0 0 384 P refl

pub accepted_1 : Accepted 4 1 0 0 P
unfolding check list_check list_range_fault range_fault or_else in_place records_check record_fault fills own_fault parse parse_from nearest farther behind count
accepted_1 = check_accepted 4 1 0 0 384 P refl

pub two_levels : levels (parse P) ≡ 2
unfolding levels parse parse_from nearest farther count
two_levels = refl

abbrev pub run_1024 : Run 4 0
run_1024 = record { types = 4; bound = 1024; top = 0; given = None; records = P; accepted = accepted_1024; nested = omega (arith, two_levels) }

abbrev pub run_1 : Run 4 0
run_1 = record { types = 4; bound = 1; top = 0; given = None; records = P; accepted = accepted_1; nested = omega (arith, two_levels) }

-- what each writes
built_1024 : built 4 0 run_1024 ≡ record { cells = cells_1024; words = words_1024 }
unfolding built build_cells build first_level walk too_deep written tree_cells cells kind id_word unless_none packed relative absolute nodes siblings last_end ◌⊕◌ items_of records first leftmost repeats same width words stopped early scan long packs run_from entry pack run_part fresh gather parse parse_from nearest farther count
built_1024 = refl

built_1 : built 4 0 run_1 ≡ record { cells = cells_1; words = [] }
unfolding built build_cells build first_level walk too_deep written tree_cells cells kind id_word unless_none packed relative absolute nodes siblings last_end ◌⊕◌ items_of records first leftmost repeats same width words stopped early scan long packs run_from entry pack run_part fresh gather finish parse parse_from nearest farther count
built_1 = refl

read_1024 : read 4 0 run_1024 ≡ lines_p
unfolding read reading line depth_below parse parse_from nearest farther count
read_1024 = refl

read_1 : read 4 0 run_1 ≡ lines_p
unfolding read reading line depth_below parse parse_from nearest farther count
read_1 = refl

-- materialising gives the four cells of the run that packs nothing
materialised_1024 : materialised 4 0 run_1024 ≡ cells_1
unfolding materialised materialise_cells materialise within beyond unpack decode decode_from cell_tree leading following tree_cells cells kind id_word unless_none relative absolute nodes siblings ◌⊕◌
materialised_1024 = ap (λ (w : Written). materialise_cells w.cells w.words) built_1024

materialised_1 : materialised 4 0 run_1 ≡ cells_1
unfolding materialised materialise_cells materialise within beyond unpack decode decode_from cell_tree leading following tree_cells cells kind id_word unless_none relative absolute nodes siblings ◌⊕◌
materialised_1 = ap (λ (w : Written). materialise_cells w.cells w.words) built_1

-- The work of each call. Packed: three records, then two cells and twelve packed words, which are five items, then four cells. Not packed:
-- three records, then four cells each time. No work for materialise where it is not called.
abbrev pub works_1024 : Works
works_1024 = record { build = 384; materialise = 0; list = 576 }

abbrev pub works_1 : Works
works_1 = record { build = 384; materialise = 0; list = 480 }

abbrev pub works_1024_materialising : Works
works_1024_materialising = record { build = 384; materialise = 576; list = 480 }

abbrev pub works_1_materialising : Works
works_1_materialising = record { build = 384; materialise = 480; list = 480 }

pub lent_1024 : Lent 4 0 run_1024 works_1024 (nines 14) (nines 12) (nines 12)
unfolding items nines
lent_1024 =
    record {
      build_work = omega arith;
      list_work = omega (arith, ap (λ (w : Written). items w.cells w.words) built_1024);
      cells_space = omega (arith, ap (λ (w : Written). length w.cells) built_1024);
      words_space = omega (arith, ap (λ (w : Written). length w.words) built_1024);
      lines_space = omega (arith, ap (λ (l : List ℕ). length l) read_1024);
    }

-- and no space for packed words
pub lent_1 : Lent 4 0 run_1 works_1 (nines 28) [] (nines 12)
unfolding items nines
lent_1 =
    record {
      build_work = omega arith;
      list_work = omega (arith, ap (λ (w : Written). items w.cells w.words) built_1);
      cells_space = omega (arith, ap (λ (w : Written). length w.cells) built_1);
      words_space = omega (arith, ap (λ (w : Written). length w.words) built_1);
      lines_space = omega (arith, ap (λ (l : List ℕ). length l) read_1);
    }

pub lent_1024_materialising : LentMaterialising 4 0 run_1024 works_1024_materialising (nines 14) (nines 12) (nines 28) (nines 12)
unfolding items nines
lent_1024_materialising =
    record {
      build_work = omega arith;
      materialise_work = omega (arith, ap (λ (w : Written). items w.cells w.words) built_1024);
      list_work = omega (arith, ap (λ (m : List ℕ). items m []) materialised_1024);
      cells_space = omega (arith, ap (λ (w : Written). length w.cells) built_1024);
      words_space = omega (arith, ap (λ (w : Written). length w.words) built_1024);
      trees_space = omega (arith, ap (λ (m : List ℕ). length m) materialised_1024);
      lines_space = omega (arith, ap (λ (l : List ℕ). length l) read_1024);
    }

pub lent_1_materialising : LentMaterialising 4 0 run_1 works_1_materialising (nines 28) [] (nines 28) (nines 12)
unfolding items nines
lent_1_materialising =
    record {
      build_work = omega arith;
      materialise_work = omega (arith, ap (λ (w : Written). items w.cells w.words) built_1);
      list_work = omega (arith, ap (λ (m : List ℕ). items m []) materialised_1);
      cells_space = omega (arith, ap (λ (w : Written). length w.cells) built_1);
      words_space = omega (arith, ap (λ (w : Written). length w.words) built_1);
      trees_space = omega (arith, ap (λ (m : List ℕ). length m) materialised_1);
      lines_space = omega (arith, ap (λ (l : List ℕ). length l) read_1);
    }

abbrev pub packed_straight : LentRun 4 0
packed_straight = straight run_1024 works_1024 (nines 14) (nines 12) (nines 12) lent_1024

abbrev pub unpacked_straight : LentRun 4 0
unpacked_straight = straight run_1 works_1 (nines 28) [] (nines 12) lent_1

abbrev pub packed_materialised : LentRun 4 0
packed_materialised = materialising run_1024 works_1024_materialising (nines 14) (nines 12) (nines 28) (nines 12) lent_1024_materialising

abbrev pub unpacked_materialised : LentRun 4 0
unpacked_materialised = materialising run_1 works_1_materialising (nines 28) [] (nines 28) (nines 12) lent_1_materialising

-- none of its calls is refused, and it lists "0,3,0,6 / 1,1,0,2 / 1,2,3,5"
abbrev pub ListsP : LentRun 4 0 → Type 0
ListsP a = (number_of (ran 4 0 a).outcome ≡ 0) × (run_lines (ran 4 0 a) ≡ lines_p)

-- two runs in different forms, with each bound in each
pub p_twice : ListsP packed_straight × ListsP unpacked_materialised × ListsP unpacked_straight × ListsP packed_materialised
p_twice =
    let one = two_runs 4 0 (omega arith) packed_straight unpacked_materialised in
    let two = two_runs 4 0 (omega arith) unpacked_straight packed_materialised in
    ((one.0, one.2 ∙ read_1024), (one.1, one.3 ∙ read_1), (two.0, two.2 ∙ read_1), (two.1, two.3 ∙ read_1024))

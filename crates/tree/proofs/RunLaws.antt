-- What a run of demand 3 needs and leaves: for n records 2 n + 1 cells, for the build and for materialise, 4 n packed
-- words and n lines are enough; the build of the run is the call `build`; and what each call writes keeps the cell
-- rules. Assumes nothing.
use mathlib.Core.Path.{◌≡◌, ap, ◌∙◌}
use mathlib.Core.Bool.{Bool, true, false}
use mathlib.Core.List.{List, [], ◌∷◌, ◌++◌}
use Prim.Native.Nat.{ℕ, ◌+◌, ◌-◌, ◌*◌, ◌/◌, ◌≤◌}
use native.Mathlib.Omega.{arith}
use native.Mathlib.Nat.{le_refl}
use lib.Dec.{ltb}
use lib.ListN.{length, length-append}
use Rattle.words.specs.Outcome.{accepted}
use Rattle.words.specs.Words.{front}
use Rattle.records.specs.Forest.{Forest, empty, add, count, behind, line, depth_below, reading}
use Rattle.records.specs.Parse.{parse}
use Rattle.tree.specs.Trees.{nodes}
use Rattle.tree.specs.Build.{build}
use Rattle.tree.specs.Cells.{cell_width, packed, tree_cells}
use Rattle.tree.specs.Calls.{written, build_cells, build_call}
use Rattle.tree.specs.Run.{Run, Form, built, materialised, listed, read}
use Rattle.tree.proofs.CellLaws.{length_tree_cells}
use Rattle.tree.proofs.CountLaws.{few_cells, few_materialised}
use Rattle.tree.proofs.WordLaws.{few_words}
use Rattle.tree.proofs.CallLaws.{count_records, build_writes}
use Rattle.tree.proofs.KeptLaws.{Kept, build_kept, materialise_kept, materialised_size}
use Rattle.tree.proofs.TwoRuns.{one_run}

-- at most a line for each record
length_line : (F d i s e : ℕ) → length (line F d i s e) ≤ 4
unfolding line
length_line F d i s e = go (ltb i F)
  where
    go : (x : Bool) → length {A = ℕ} (elim x [ true ↦ d ∷ i ∷ s ∷ e ∷ [] | false ↦ [] ]) ≤ 4
    go true = le_refl 4
    go false = omega arith

length_reading : (F d : ℕ) (f : Forest) → length (reading F d f) ≤ 4 * count f
unfolding reading count
length_reading F d empty = le_refl 0
length_reading F d (add before i s e kids) =
    let own = line F d i s e in
    let inside = reading F (depth_below F d i) kids in
    omega (
      arith,
      length-append (reading F d before) (own ++ inside),
      length-append own inside,
      length_line F d i s e,
      length_reading F d before,
      length_reading F (depth_below F d i) kids,
    )

module _ (F S : ℕ) (fits : S ≤ 4294967295) (r : Run F S) where
  -- how many records the list has
  abbrev pub n : ℕ
  n = length r.records / 4

  counted : count (parse r.records) ≡ n
  counted = count_records r.types F r.bound S r.top r.given (96 * n + 96) r.records [] [] r.accepted (le_refl _)

  -- The build of the run is what the call `build` writes, lent what 11, 12 and 13 ask.
  pub run_builds : (work : ℕ) (cells words : List ℕ) → 96 * n + 96 ≤ work → length (built F S r).cells ≤ length cells → length (built F S r).words ≤ length words
      → build_call r.types F r.bound S r.top r.given work r.records cells words ≡ record {
        outcome = accepted (length (built F S r).cells / cell_width ∷ length (built F S r).words ∷ []);
        outputs = front (built F S r).cells cells ∷ front (built F S r).words words ∷ [];
      }
  unfolding built build_cells written
  run_builds work cells words a b c =
      let t = build F r.bound S r.top r.given (parse r.records) in
      let size = length_tree_cells S t in
      let same : nodes t ≡ length (tree_cells S t) / cell_width = omega arith in
      build_writes r.types F r.bound S r.top r.given work r.records cells words r.accepted a (omega (arith, size)) c
      ∙ ap (λ (k : ℕ). record { outcome = accepted (k ∷ length (packed t) ∷ []); outputs = front (tree_cells S t) cells ∷ front (packed t) words ∷ [] }) same

  -- 2 n + 1 cells and 4 n words are enough for the build
  pub built_cells : length (built F S r).cells ≤ cell_width * (2 * n + 1)
  unfolding built build_cells written
  built_cells =
      let t = build F r.bound S r.top r.given (parse r.records) in
      omega (arith, length_tree_cells S t, few_cells F r.bound S r.top r.given (parse r.records), counted)

  pub built_words : length (built F S r).words ≤ 4 * n
  unfolding built build_cells written
  built_words = omega (arith, few_words F r.bound S r.top r.given (parse r.records), counted)

  -- 2 n + 1 cells are enough for materialise
  pub materialised_cells : length (materialised F S r) ≤ cell_width * (2 * n + 1)
  unfolding materialised built
  materialised_cells =
      omega (
        arith,
        materialised_size r.types F r.bound S r.top r.given r.records fits r.accepted,
        few_materialised F r.bound S r.top r.given (parse r.records),
        counted,
      )

  -- n lines are enough for the listing
  pub listed_lines : (f : Form) → length (listed F S r f) ≤ 4 * n
  unfolding read
  listed_lines f = omega (arith, ap length (one_run F S fits r f), length_reading F 0 (parse r.records), counted)

  -- what the build writes keeps the cell rules, and so does what materialise writes of it, without parts
  pub built_kept : Kept r.types (behind S (parse r.records) - S) (built F S r).cells (built F S r).words
  unfolding built
  built_kept = build_kept r.types F r.bound S r.top r.given r.records fits r.accepted

  pub materialised_kept : Kept r.types (behind S (parse r.records) - S) (materialised F S r) []
  unfolding materialised built
  materialised_kept = materialise_kept r.types F r.bound S r.top r.given r.records fits r.accepted

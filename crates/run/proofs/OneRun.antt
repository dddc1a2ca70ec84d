-- A run that is lent what 11 to 14 ask, in either form: none of its calls is refused, and its lines are the ordinary reading. Assumes
-- nothing.
use mathlib.Core.Path.{◌≡◌, refl, ap, ap₂, ◌∙◌}
use mathlib.Core.Bool.{Bool, true, false}
use mathlib.Core.List.{List, [], ◌∷◌, ◌++◌}
use Prim.Native.Nat.{ℕ, ◌+◌, ◌*◌, ◌/◌, ◌≤◌}
use native.Mathlib.Omega.{arith}
use lib.Dec.{ltb}
use lib.ListN.{length, take, drop, length-append}
use lib.Seq.{take_at, take-append_seam}
use Rattle.words.specs.Outcome.{accepted, Result}
use Rattle.words.specs.Words.{front}
use Rattle.records.specs.Forest.{Forest, empty, add, line, depth_below, reading}
use Rattle.records.specs.Parse.{parse}
use Rattle.tree.specs.Build.{build}
use Rattle.tree.specs.Materialise.{materialise}
use Rattle.tree.specs.Cells.{cell_width, absolute, decode}
use Rattle.tree.specs.Calls.{written, build_cells, materialise_cells, build_call}
use Rattle.tree.specs.Run.{Run, materialising, straight, built, materialised, listed, read}
use Rattle.tree.proofs.CellLaws.{length_tree_cells}
use Rattle.tree.proofs.RunLaws.{run_builds, built_cells, built_words, materialised_cells, listed_lines}
use Rattle.tree.proofs.TwoRuns as tree
use Rattle.tree.specs.Listing.{line_width}
use Rattle.rules.specs.Calls.{items}
use Rattle.rules.proofs.RunCalls.{run_materialised, run_listed, run_listed_straight}
use Rattle.run.specs.Running.{Steps, Works, none_left, followed, cells_written, on_built, list_steps, materialise_steps, run_call, materialising_call}
use Rattle.run.specs.Lent.{Lent, LentMaterialising}
use Rattle.run.proofs.Stepping.{steps}

-- four words a line
whole_line : (F d i s e : ℕ) → (k : ℕ) × (length (line F d i s e) ≡ 4 * k)
unfolding line
whole_line F d i s e = go (ltb i F)
  where
    go : (x : Bool) → (k : ℕ) × (length {A = ℕ} (elim x [ true ↦ d ∷ i ∷ s ∷ e ∷ [] | false ↦ [] ]) ≡ 4 * k)
    go true = (1, refl)
    go false = (0, refl)

whole_lines : (F d : ℕ) (f : Forest) → (k : ℕ) × (length (reading F d f) ≡ 4 * k)
unfolding reading
whole_lines F d empty = (0, refl)
whole_lines F d (add before i s e kids) =
    let own = line F d i s e in
    let inside = reading F (depth_below F d i) kids in
    let a = whole_lines F d before in
    let b = whole_line F d i s e in
    let c = whole_lines F (depth_below F d i) kids in
    (a.0 + b.0 + c.0, omega (arith, length-append (reading F d before) (own ++ inside), length-append own inside, a.1, b.1, c.1))

module _ (F S : ℕ) (fits : S ≤ 4294967295) (r : Run F S) where
  abbrev cs : List ℕ
  cs = (built F S r).cells

  abbrev ws : List ℕ
  ws = (built F S r).words

  abbrev ms : List ℕ
  ms = materialised F S r

  -- seven words a cell
  whole_built : length cs ≡ cell_width * (length cs / cell_width)
  unfolding built build_cells written
  whole_built = omega (arith, length_tree_cells S (build F r.bound S r.top r.given (parse r.records)))

  whole_materialised : length ms ≡ cell_width * (length ms / cell_width)
  unfolding materialised materialise_cells
  whole_materialised = omega (arith, length_tree_cells 0 (materialise (absolute 0 (decode ws cs))))

  whole_read : length (read F S r) ≡ line_width * (length (read F S r) / line_width)
  unfolding read
  whole_read = let k = whole_lines F 0 (parse r.records) in omega (arith, k.1)

  -- the counted front is what was written
  pub counted_cells : (out : List ℕ) → take (cell_width * (length cs / cell_width)) (front cs out) ≡ cs
  counted_cells out = take_at cs (drop (length cs) out) (cell_width * (length cs / cell_width)) whole_built

  pub counted_words : (out : List ℕ) → take (length ws) (front ws out) ≡ ws
  counted_words out = take-append_seam ws (drop (length ws) out)

  counted_trees : (out : List ℕ) → take (cell_width * (length ms / cell_width)) (front ms out) ≡ ms
  counted_trees out = take_at ms (drop (length ms) out) (cell_width * (length ms / cell_width)) whole_materialised

  pub counted_lines : (out : List ℕ) → take (line_width * (length (read F S r) / line_width)) (front (read F S r) out) ≡ read F S r
  counted_lines out = take_at (read F S r) (drop (length (read F S r)) out) (line_width * (length (read F S r) / line_width)) whole_read

  -- For n records these are enough: 96 n + 96 words of work for the build and 96 (3 n + 1) + 96 for listing, 2 n + 1 cells, 4 n packed
  -- words, n lines.
  pub enough_lent : (works : Works) (cells words lines : List ℕ)
      → 96 * (length r.records / 4) + 96 ≤ works.build
      → 96 * (3 * (length r.records / 4) + 1) + 96 ≤ works.list
      → cell_width * (2 * (length r.records / 4) + 1) ≤ length cells → 4 * (length r.records / 4) ≤ length words
      → line_width * (length r.records / 4) ≤ length lines
      → Lent F S r works cells words lines
  unfolding items
  enough_lent works cells words lines u w b c e =
      let x = built_cells F S fits r in
      let y = built_words F S fits r in
      record {
        build_work = u;
        list_work = omega (arith, x, y, w);
        cells_space = omega (arith, x, b);
        words_space = omega (arith, y, c);
        lines_space = omega (arith, ap length (tree.one_run F S fits r straight), listed_lines F S fits r straight, e);
      }

  -- With materialise in between: 96 (3 n + 1) + 96 words of work and 2 n + 1 cells for it, and for listing 96 (2 n + 1) + 96 are enough.
  pub enough_lent_materialising : (works : Works) (cells words trees lines : List ℕ)
      → 96 * (length r.records / 4) + 96 ≤ works.build
      → 96 * (3 * (length r.records / 4) + 1) + 96 ≤ works.materialise
      → 96 * (2 * (length r.records / 4) + 1) + 96 ≤ works.list
      → cell_width * (2 * (length r.records / 4) + 1) ≤ length cells → 4 * (length r.records / 4) ≤ length words
      → cell_width * (2 * (length r.records / 4) + 1) ≤ length trees → line_width * (length r.records / 4) ≤ length lines
      → LentMaterialising F S r works cells words trees lines
  unfolding items
  enough_lent_materialising works cells words trees lines u v w b c d e =
      let x = built_cells F S fits r in
      let y = built_words F S fits r in
      let z = materialised_cells F S fits r in
      record {
        build_work = u;
        materialise_work = omega (arith, x, y, v);
        list_work = omega (arith, z, w);
        cells_space = omega (arith, x, b);
        words_space = omega (arith, y, c);
        trees_space = omega (arith, z, d);
        lines_space = omega (arith, ap length (tree.one_run F S fits r materialising), listed_lines F S fits r materialising, e);
      }

  abbrev built_counts : List ℕ
  built_counts = length cs / cell_width ∷ length ws ∷ []

  -- a build that is lent what it asks hands over the cells and words of the run
  goes_on : (work : ℕ) (cells words : List ℕ) (rest : (cs ws : List ℕ) → Steps) (before : List (List ℕ))
      → 96 * (length r.records / 4) + 96 ≤ work → length cs ≤ length cells → length ws ≤ length words
      → on_built (build_call r.types F r.bound S r.top r.given work r.records cells words) rest before
      ≡ followed (accepted built_counts) (front cs cells ∷ front ws words ∷ []) (rest cs ws) before
  goes_on work cells words rest before u b c =
      ap (λ (x : Result). on_built x rest before) (run_builds F S fits r work cells words u b c)
      ∙ ap₂ (λ (x y : List ℕ). followed (accepted built_counts) (front cs cells ∷ front ws words ∷ []) (rest x y) before) (counted_cells cells) (counted_words words)

  -- Build and list: the run is accepted, and what it writes: the cells and words of the build, and the list's ordinary reading.
  pub run_reads : (works : Works) (cells words lines : List ℕ) → Lent F S r works cells words lines
      → run_call r.types F r.bound S r.top r.given works r.records cells words lines
      ≡ steps (accepted (length cs / cell_width ∷ length ws ∷ length (read F S r) / line_width ∷ [])) 2 (front cs cells ∷ front ws words ∷ front (read F S r) lines ∷ [])
  unfolding run_call list_steps
  run_reads works cells words lines lent =
      goes_on works.build cells words (λ cs ws. list_steps r.types F S cs ws works.list lines) (lines ∷ []) lent.build_work lent.cells_space lent.words_space
      ∙ (ap (λ (x : Result). followed (accepted built_counts) (front cs cells ∷ front ws words ∷ []) (followed x.outcome x.outputs none_left []) (lines ∷ []))
      (run_listed_straight F S fits r works.list lines lent.list_work (omega (arith, ap length (tree.one_run F S fits r straight), lent.lines_space)))
      ∙ ap (λ (l : List ℕ). steps (accepted (length cs / cell_width ∷ length ws ∷ length l / line_width ∷ [])) 2 (front cs cells ∷ front ws words ∷ front l lines ∷ []))
      (tree.one_run F S fits r straight))

  module _ (works : Works) (cells words trees lines : List ℕ) (lent : LentMaterialising F S r works cells words trees lines) where
    abbrev trees_counts : List ℕ
    trees_counts = length ms / cell_width ∷ 0 ∷ []

    -- materialise and listing on what the build wrote
    reads_back : materialise_steps r.types F S cs ws works trees lines
        ≡ steps (accepted (length ms / cell_width ∷ 0 ∷ length (listed F S r materialising) / line_width ∷ [])) 2 (front ms trees ∷ front (listed F S r materialising) lines ∷ [])
    unfolding materialise_steps list_steps
    reads_back =
        ap (λ (x : Result). followed x.outcome x.outputs (list_steps r.types F S (cells_written x.outcome x.outputs) [] works.list lines) (lines ∷ []))
        (run_materialised F S fits r works.materialise trees lent.materialise_work lent.trees_space)
        ∙ (ap (λ (m : List ℕ). followed (accepted trees_counts) (front ms trees ∷ []) (list_steps r.types F S m [] works.list lines) (lines ∷ [])) (counted_trees trees)
        ∙ ap (λ (x : Result). followed (accepted trees_counts) (front ms trees ∷ []) (followed x.outcome x.outputs none_left []) (lines ∷ []))
        (run_listed F S fits r works.list lines lent.list_work (omega (arith, ap length (tree.one_run F S fits r materialising), lent.lines_space))))

    -- Build, materialise and list: it also writes the cells of materialise.
    pub materialising_reads : materialising_call r.types F r.bound S r.top r.given works r.records cells words trees lines
        ≡ steps (accepted (length cs / cell_width ∷ length ws ∷ length ms / cell_width ∷ 0 ∷ length (read F S r) / line_width ∷ [])) 3
        (front cs cells ∷ front ws words ∷ front ms trees ∷ front (read F S r) lines ∷ [])
    unfolding materialising_call
    materialising_reads =
        goes_on works.build cells words (λ cs ws. materialise_steps r.types F S cs ws works trees lines) (trees ∷ lines ∷ []) lent.build_work lent.cells_space lent.words_space
        ∙ (ap (λ (s : Steps). followed (accepted built_counts) (front cs cells ∷ front ws words ∷ []) s (trees ∷ lines ∷ [])) reads_back
        ∙ ap (λ (l : List ℕ). steps (accepted (length cs / cell_width ∷ length ws ∷ length ms / cell_width ∷ 0 ∷ length l / line_width ∷ [])) 3
        (front cs cells ∷ front ws words ∷ front ms trees ∷ front l lines ∷ [])) (tree.one_run F S fits r materialising))

-- Demand 3, from end to end, over the definitions that the contracts of the calls cite: calls in turn, each with a work slice of its own.
-- Each of the two runs is in a form of its own: build, materialise and list with no packed words, as document 01 has the run; or build and
-- list, which is what `run` makes, with one work slice for both calls. Each has its own type count, length bound, top id, given length,
-- slices and accepted list nested at most 2,503 levels, and is lent what 11 to 14 ask; the first repeat id F and the build start S are the
-- same. Assumes nothing.
use mathlib.Core.Path.{◌≡◌, sym, ap, ◌∙◌}
use mathlib.Core.Logic.{◌↔◌}
use Prim.Native.Nat.{ℕ, ◌≤◌}
use Rattle.words.specs.Outcome.{number_of}
use Rattle.tree.specs.Run as tree-run
use Rattle.tree.specs.Run.{built, read}
use Rattle.tree.proofs.TwoRuns as tree
use Rattle.run.specs.Running.{Steps, run_cells, run_words, run_lines}
use Rattle.run.specs.Lent.{LentRun, straight, materialising, run_of, ran}
use Rattle.run.proofs.OneRun.{counted_cells, counted_words, counted_lines, run_reads, materialising_reads}

module _ (F S : ℕ) (fits : S ≤ 4294967295) where
  -- no call is refused
  not_refused : (a : LentRun F S) → number_of (ran F S a).outcome ≡ 0
  not_refused (straight r works cells words lines lent) = ap (λ (s : Steps). number_of s.outcome) (run_reads F S fits r works cells words lines lent)
  not_refused (materialising r works cells words trees lines lent) = ap (λ (s : Steps). number_of s.outcome) (materialising_reads F S fits r works cells words trees lines lent)

  lines_read : (a : LentRun F S) → run_lines (ran F S a) ≡ read F S (run_of F S a)
  lines_read (straight r works cells words lines lent) = ap run_lines (run_reads F S fits r works cells words lines lent) ∙ counted_lines F S fits r lines
  lines_read (materialising r works cells words trees lines lent) = ap run_lines (materialising_reads F S fits r works cells words trees lines lent) ∙ counted_lines F S fits r lines

  cells_built : (a : LentRun F S) → run_cells (ran F S a) ≡ (built F S (run_of F S a)).cells
  cells_built (straight r works cells words lines lent) = ap run_cells (run_reads F S fits r works cells words lines lent) ∙ counted_cells F S fits r cells
  cells_built (materialising r works cells words trees lines lent) = ap run_cells (materialising_reads F S fits r works cells words trees lines lent) ∙ counted_cells F S fits r cells

  words_built : (a : LentRun F S) → run_words (ran F S a) ≡ (built F S (run_of F S a)).words
  words_built (straight r works cells words lines lent) = ap run_words (run_reads F S fits r works cells words lines lent) ∙ counted_words F S fits r words
  words_built (materialising r works cells words trees lines lent) = ap run_words (materialising_reads F S fits r works cells words trees lines lent) ∙ counted_words F S fits r words

  -- Neither run is refused; the lines of each are the ordinary reading of its own list; the lines of the two are the same exactly when
  -- the readings are; and lists that differ in that reading never end in the same cells and packed words.
  pub two_runs : (A B : LentRun F S)
      → (number_of (ran F S A).outcome ≡ 0) × (number_of (ran F S B).outcome ≡ 0)
      × (run_lines (ran F S A) ≡ read F S (run_of F S A)) × (run_lines (ran F S B) ≡ read F S (run_of F S B))
      × ((run_lines (ran F S A) ≡ run_lines (ran F S B)) ↔ (read F S (run_of F S A) ≡ read F S (run_of F S B)))
      × ((read F S (run_of F S A) ≡ read F S (run_of F S B) → ⊥) → (run_cells (ran F S A) ≡ run_cells (ran F S B)) × (run_words (ran F S A) ≡ run_words (ran F S B)) → ⊥)
  two_runs A B =
      let one = lines_read A in
      let two = lines_read B in (
        not_refused A,
        not_refused B,
        one,
        two,
        (λ e. sym one ∙ (e ∙ two), λ e. one ∙ (e ∙ sym two)),
        λ differ same. (tree.two_runs F S fits (run_of F S A) (run_of F S B) tree-run.straight tree-run.straight).3 differ
            (sym (cells_built A) ∙ (same.0 ∙ cells_built B), sym (words_built A) ∙ (same.1 ∙ words_built B)),
      )

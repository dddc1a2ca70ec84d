-- "lent what 11 to 14 ask": for each call of a run enough work, and the space for what it writes.
use Rattle.std.specs.Prelude.{List, [], ℕ, ◌+◌, ◌*◌, ◌/◌, ◌≤◌, length}
use Rattle.words.specs.Words.{record_width}
use Rattle.tree.specs.Run.{Run, built, materialised, read}
use Rattle.rules.specs.Calls.{items}
use Rattle.run.specs.Running.{Steps, Works, run_call, materialising_call}

-- build and list
pub record Lent (F S : ℕ) (r : Run F S) (works : Works) (cells words lines : List ℕ) : Type 0 where
  pub build_work : 96 * (length r.records / record_width) + 96 ≤ works.build
  pub list_work : 96 * items (built F S r).cells (built F S r).words + 96 ≤ works.list
  pub cells_space : length (built F S r).cells ≤ length cells
  pub words_space : length (built F S r).words ≤ length words
  pub lines_space : length (read F S r) ≤ length lines

-- build, materialise and list
pub record LentMaterialising (F S : ℕ) (r : Run F S) (works : Works) (cells words trees lines : List ℕ) : Type 0 where
  pub build_work : 96 * (length r.records / record_width) + 96 ≤ works.build
  pub materialise_work : 96 * items (built F S r).cells (built F S r).words + 96 ≤ works.materialise
  pub list_work : 96 * items (materialised F S r) [] + 96 ≤ works.list
  pub cells_space : length (built F S r).cells ≤ length cells
  pub words_space : length (built F S r).words ≤ length words
  pub trees_space : length (materialised F S r) ≤ length trees
  pub lines_space : length (read F S r) ≤ length lines

-- A run of an accepted list nested at most 2,503 levels, in either form, with the slices it is lent: the work slice of each call by its
-- length, the outputs by what they held before.
pub data LentRun (F S : ℕ) : Type 0 where
  straight : (r : Run F S) (works : Works) (cells words lines : List ℕ) → Lent F S r works cells words lines → LentRun F S
  materialising : (r : Run F S) (works : Works) (cells words trees lines : List ℕ) → LentMaterialising F S r works cells words trees lines → LentRun F S

-- the list that is run, with its numbers
abbrev pub run_of : (F S : ℕ) → LentRun F S → Run F S
run_of F S (straight r works cells words lines lent) = r
run_of F S (materialising r works cells words trees lines lent) = r

-- what the calls then give in turn
abbrev pub ran : (F S : ℕ) → LentRun F S → Steps
ran F S (straight r works cells words lines lent) =
    run_call r.types F r.bound S r.top r.given works r.records cells words lines
ran F S (materialising r works cells words trees lines lent) =
    materialising_call r.types F r.bound S r.top r.given works r.records cells words trees lines

-- A run of demand 3, in its two forms.
use Rattle.std.specs.Prelude.{List, [], ℕ, ◌≤◌}
use Rattle.std.specs.Prelude.{Option}
use Rattle.records.specs.Forest.{levels, reading}
use Rattle.records.specs.Parse.{parse}
use Rattle.records.specs.Check.{Accepted}
use Rattle.tree.specs.Calls.{Written, build_cells, materialise_cells, list_cells}

-- "Between the two runs T, top id, b and a given length may differ." The list is accepted under the numbers given with
-- it, and nested at most 2,503 levels.
pub record Run (F S : ℕ) : Type 0 where
  pub types : ℕ
  pub bound : ℕ
  pub top : ℕ
  pub given : Option ℕ
  pub records : List ℕ
  pub accepted : Accepted types bound top S records
  pub nested : levels (parse records) ≤ 2503

-- "a build, materialise on the cells and words it wrote, then listing on the cells that materialise wrote, with one T, F and S
-- throughout"; or, since listing takes packed parts, a build and listing on the cells and words it wrote
pub data Form : Type 0 where
  materialising : Form
  straight : Form

module _ (F S : ℕ) (r : Run F S) where
  -- the cells and packed words that the build writes
  unfoldable pub built : Written
  built = build_cells F r.bound S r.top r.given (parse r.records)

  -- the cells that materialise writes of them
  unfoldable pub materialised : List ℕ
  materialised = materialise_cells built.cells built.words

  -- the lines that listing writes: of those, without packed words, or of what the build wrote
  unfoldable pub listed : Form → List ℕ
  listed materialising = list_cells F S materialised []
  listed straight = list_cells F S built.cells built.words

  -- the list's ordinary reading
  unfoldable pub read : List ℕ
  read = reading F 0 (parse r.records)

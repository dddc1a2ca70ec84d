-- What the build of an accepted list asks and leaves. Nothing here is needed to read what the call promises.
use Rattle.std.specs.Prelude.{◌≡◌, false, cond, List, [], ◌∷◌, ℕ, suc, ◌+◌, ◌-◌, ◌*◌, ◌/◌, ◌≤◌, ◌<◌, eqb, length}
use Rattle.std.specs.Prelude.{Option, Some}
use Rattle.words.specs.Outcome.{Result, settled as settled-call}
use Rattle.words.specs.Words.{front, end_of, record_width}
use Rattle.records.specs.Check.{Accepted}
use Rattle.records.specs.Parse.{parse}
use Rattle.tree.specs.Trees.{Trees, nil, tree, nodes}
use Rattle.tree.specs.Cells.{tree_cells, packed}
use Rattle.tree.specs.Build.{build}
use Rattle.tree.specs.Calls.{room}
use Rattle.store.specs.Store.{Holds, node_width}

-- where the last record ends; without one, S
abbrev pub list_end : (S : ℕ) → List ℕ → ℕ
list_end S w = cond (eqb (length w / record_width) 0) S (end_of w (length w / record_width - 1))

-- an accepted list, and a work slice of just the words that 11 asks
pub record Listed (b S : ℕ) (w : List ℕ) (work : ℕ) : Type 0 where
  pub T : ℕ
  pub top : ℕ
  pub accepted : Accepted T b top S w
  pub start_fits : S ≤ 4294967295
  pub size : work ≡ 96 * (length w / record_width) + 96

-- first-level trees that can be put under a top and written out
pub record Writes (l : List ℕ) (top kids : ℕ) : Type 0 where
  pub base : ℕ
  pub low : ℕ
  pub trees : Trees
  pub live : 0 < base
  pub above : base ≤ top
  pub free : top + node_width + 2 * suc (nodes trees) ≤ low
  pub inside : low ≤ length l
  pub fits : low ≤ 4294967295
  pub holds : Holds false l base top low kids trees
  pub narrow : length (packed trees) < 4294967295

-- what the outputs hold in the end, of a tree t that starts at S
abbrev pub written_tree : (S : ℕ) (t : Trees) (cells words : List ℕ) → Result
written_tree S t cells words =
    settled-call (room (nodes t) (length (packed t)) (length cells) (length words)) (front (tree_cells S t) cells ∷ front (packed t) words ∷ []) (cells ∷ words ∷ [])

abbrev pub written_out : (id S l : ℕ) (kids : Trees) (cells words : List ℕ) → Result
written_out id S l kids cells words = written_tree S (tree (Some id) S l kids nil) cells words

abbrev pub built : (F b S top : ℕ) (given : Option ℕ) (records cells words : List ℕ) → Result
built F b S top given records cells words = written_tree S (build F b S top given (parse records)) cells words

-- The calls: what they write, and the outcome of the build.
use Rattle.std.specs.Prelude.{Bool, cond, List, [], ◌∷◌, ℕ, ◌*◌, ltb, length}
use Rattle.std.specs.Prelude.{Option}
use Rattle.words.specs.Outcome.{Outcome, accepted, refused, unless_refused, Result, settled}
use Rattle.words.specs.Words.{front}
use Rattle.records.specs.Forest.{Forest}
use Rattle.records.specs.Parse.{parse}
use Rattle.records.specs.Check.{check}
use Rattle.tree.specs.Trees.{Trees, nodes}
use Rattle.tree.specs.Balance.{balanced}
use Rattle.tree.specs.Build.{build}
use Rattle.tree.specs.Materialise.{materialise}
use Rattle.tree.specs.Listing.{lines}
use Rattle.tree.specs.Cells.{cell_width, absolute, packed, tree_cells, decode}

-- cells and packed words that a call writes
pub record Written : Type 0 where
  pub cells : List ℕ
  pub words : List ℕ

-- of a tree that starts at S
unfoldable pub written : (S : ℕ) → Trees → Written
written S t = record { cells = tree_cells S t; words = packed t }

-- what the build writes of a record list
unfoldable pub build_cells : (F b S top : ℕ) (given : Option ℕ) → Forest → Written
build_cells F b S top given f = written S (build F b S top given f)

-- what materialise writes of cells and packed words: it packs nothing
unfoldable pub materialise_cells : (cs ws : List ℕ) → List ℕ
materialise_cells cs ws = tree_cells 0 (materialise (absolute 0 (decode ws cs)))

-- what `Tree::balance` writes of cells and packed words; `none_first`: is place 0 of the set none?
unfoldable pub balance_cells : (none_first : Bool) (cs ws : List ℕ) → Written
balance_cells f cs ws = written 0 (balanced f (absolute 0 (decode ws cs)))

-- What listing writes of cells and packed words: "absolute start and absolute end, both with S added". "The lines are those that the two
-- calls gave in turn": of the materialised tree.
unfoldable pub list_cells : (F S : ℕ) (cs ws : List ℕ) → List ℕ
list_cells F S cs ws = lines F (materialise (absolute S (decode ws cs)))

-- 12 and 13, "too little space for the result's cells (seven words each), packed words": of a result of n cells and w
-- words, in slices of `cells` and `words` words; else the counts
unfoldable pub room : (n w cells words : ℕ) → Outcome
room n w cells words =
    cond (ltb cells (cell_width * n)) (refused 12 0)
    (cond (ltb words w) (refused 13 0)
    (accepted (n ∷ w ∷ [])))

-- The call `build`: the refusals of the check, then 12 and 13. `work` is the length of the work slice; `cells` and
-- `words` are what the output slices held before.
unfoldable pub build_call : (T F b S top : ℕ) (given : Option ℕ) (work : ℕ) (records cells words : List ℕ) → Result
build_call T F b S top given work records cells words =
    let t = build F b S top given (parse records) in
    let w = written S t in
    settled (unless_refused (check T b top S work records) (room (nodes t) (length w.words) (length cells) (length words)))
    (front w.cells cells ∷ front w.words words ∷ []) (cells ∷ words ∷ [])

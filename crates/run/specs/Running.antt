-- A run by its calls, in its two forms: a build, then listing on the cells and words it wrote, which is what `run` is proved to make; and
-- document 01's "a build, materialise on the cells and words it wrote, then listing on the cells that materialise wrote". Both "with one T,
-- F and S throughout". The calls are those that `build`, `materialize` and `list` are proved to make.
use Rattle.std.specs.Prelude.{List, [], ◌∷◌, ◌++◌, ℕ, suc, ◌-◌, ◌*◌, length, get_or, take}
use Rattle.std.specs.Prelude.{Option}
use Rattle.words.specs.Outcome.{Outcome, accepted, refused, counts_of, Result}
use Rattle.tree.specs.Cells.{cell_width}
use Rattle.tree.specs.Calls.{build_call}
use Rattle.tree.specs.Listing.{line_width}
use Rattle.rules.specs.Calls.{materialise_call, list_call}

-- What calls in turn give: the outcome of the one that is refused, else the counts of all, in the order of the calls; how many are
-- accepted; and what the output slices of all then hold.
pub record Steps : Type 0 where
  pub outcome : Outcome
  pub calls : ℕ
  pub outputs : List (List ℕ)

-- the length of each call's work slice; a run that does not materialise has no use for the second
pub record Works : Type 0 where
  pub build : ℕ
  pub materialise : ℕ
  pub list : ℕ

-- one work slice for all calls
abbrev pub one_work : ℕ → Works
one_work n = record { build = n; materialise = n; list = n }

-- no call
abbrev pub none_left : Steps
none_left = record { outcome = accepted []; calls = 0; outputs = [] }

-- the counts of an accepted call before those of the calls after it
abbrev pub with_counts : List ℕ → Outcome → Outcome
with_counts counts (accepted more) = accepted (counts ++ more)
with_counts counts (refused number place) = refused number place

-- A call with its outcome and outputs. Accepted, it is followed by the calls `rest`; refused, their outputs stay as they were before.
abbrev pub followed : Outcome → (outputs : List (List ℕ)) (rest : Steps) (before : List (List ℕ)) → Steps
followed (accepted counts) outputs rest before = record { outcome = with_counts counts rest.outcome; calls = suc rest.calls; outputs = outputs ++ rest.outputs }
followed (refused number place) outputs rest before = record { outcome = refused number place; calls = 0; outputs = outputs ++ before }

-- a count of a call, and an output slice, both from 0
abbrev pub count_at : Outcome → ℕ → ℕ
count_at o i = get_or (counts_of o) i 0

abbrev pub output_at : List (List ℕ) → ℕ → List ℕ
output_at outputs i = get_or outputs i []

-- "the cells and words it wrote": the counted fronts of the first two outputs, of a call or of a run, which begins with the build
abbrev pub cells_written : Outcome → List (List ℕ) → List ℕ
cells_written o outputs = take (cell_width * count_at o 0) (output_at outputs 0)

abbrev pub words_written : Outcome → List (List ℕ) → List ℕ
words_written o outputs = take (count_at o 1) (output_at outputs 1)

-- the build, then the calls `rest` on what it wrote
abbrev pub on_built : Result → (rest : (cs ws : List ℕ) → Steps) (before : List (List ℕ)) → Steps
on_built r rest before = followed r.outcome r.outputs (rest (cells_written r.outcome r.outputs) (words_written r.outcome r.outputs)) before

-- listing, the last call
unfoldable pub list_steps : (T F S : ℕ) (cs ws : List ℕ) (work : ℕ) (lines : List ℕ) → Steps
list_steps T F S cs ws work lines =
    let r = list_call T F S cs ws work lines in
    followed r.outcome r.outputs none_left []

-- materialise, then listing "on the cells that materialise wrote", the counted front of its output, with no packed words
unfoldable pub materialise_steps : (T F S : ℕ) (cs ws : List ℕ) (works : Works) (trees lines : List ℕ) → Steps
materialise_steps T F S cs ws works trees lines =
    let r = materialise_call T cs ws works.materialise trees in
    followed r.outcome r.outputs (list_steps T F S (cells_written r.outcome r.outputs) [] works.list lines) (lines ∷ [])

-- The run that `run` makes: build and list. Its counts are cells, packed words, lines.
unfoldable pub run_call : (T F b S top : ℕ) (given : Option ℕ) (works : Works) (records cells words lines : List ℕ) → Steps
run_call T F b S top given works records cells words lines =
    on_built (build_call T F b S top given works.build records cells words)
    (λ cs ws. list_steps T F S cs ws works.list lines) (lines ∷ [])

-- Document 01's run: build, materialise and list. Its counts are cells and words of the build, cells and words of materialise, lines.
unfoldable pub materialising_call : (T F b S top : ℕ) (given : Option ℕ) (works : Works) (records cells words trees lines : List ℕ) → Steps
materialising_call T F b S top given works records cells words trees lines =
    on_built (build_call T F b S top given works.build records cells words)
    (λ cs ws. materialise_steps T F S cs ws works trees lines) (trees ∷ lines ∷ [])

-- What an accepted run wrote, in either form: the cells and packed words of the build, and the lines, which are counted and written last.
abbrev pub run_cells : Steps → List ℕ
run_cells s = cells_written s.outcome s.outputs

abbrev pub run_words : Steps → List ℕ
run_words s = words_written s.outcome s.outputs

abbrev pub run_lines : Steps → List ℕ
run_lines s = take (line_width * count_at s.outcome (length (counts_of s.outcome) - 1)) (output_at s.outputs (length s.outputs - 1))

-- `listing::put_part` meets its contract: the lines of its records. Assumes nothing.
use mathlib.Core.Path.{◌≡◌, refl, sym, ap, ◌∙◌}
use mathlib.Core.List.{List}
use Prim.Native.Nat.{ℕ, ◌+◌, ◌-◌}
use lib.ListN.{length, take, drop}
use Rattle.words.specs.Words.{front}
use Rattle.tree.specs.Cells.{cell_kind, cell_position, cell_first, cell_count}
use Rattle.part_lines.specs.Steps as part
use Rattle.listing.specs.Steps.{cell_lines}
use Rattle.listing.proofs.Lines.{lines_part}
use Rattle.cells.proofs.Reading.{cut_same}
use Rattle.listing.proofs.put_part.Goals as goal

-- the lines of the words that the code takes
abbrev cut_lines : (F : ℕ) (cs ws : List ℕ) (i q d : ℕ) → List ℕ
cut_lines F cs ws i q d = part.listed_part F (q + cell_position cs i) d (take (cell_first cs i + cell_count cs i - cell_first cs i) (drop (cell_first cs i) ws))

lines_are : (F : ℕ) (cs ws : List ℕ) (i q d : ℕ) → cell_kind cs i ≡ 2 → cut_lines F cs ws i q d ≡ cell_lines F cs ws i q d
lines_are F cs ws i q d is =
    ap (part.listed_part F (q + cell_position cs i) d) (cut_same ws (cell_first cs i) (cell_count cs i) (cell_first cs i) (cell_count cs i) refl refl)
    ∙ sym (lines_part F cs ws i q d is)

-- `next` has a type of its own: a part that starts elsewhere than at base and position is refused there, in these words
pub returns-clause-value : goal.returns-clause-value
returns-clause-value c =
    let a = c.args in
    let next : c.list_part.result ≡ length (cut_lines a.first_repeat a.t.cells.now a.t.words.now a.i a.level.base a.level.depth) = c.list_part.ensures.value in
    next ∙ ap length (lines_are a.first_repeat a.t.cells.now a.t.words.now a.i a.level.base a.level.depth c.requires.is)

pub returns-clause-lines_after : goal.returns-clause-lines_after
returns-clause-lines_after c =
    let a = c.args in
    c.list_part.ensures.lines_after ∙ ap (λ (v : List ℕ). front v a.lines.now) (lines_are a.first_repeat a.t.cells.now a.t.words.now a.i a.level.base a.level.depth c.requires.is)

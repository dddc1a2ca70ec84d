-- The outcome of the calls that take a tree: materialise, balance and list. "Tree calls: 1, 11, 15, 12, 13, 14." Refused, the
-- output slices are unchanged; accepted, only the counted front of each is written. What the work slice held decides nothing;
-- `work` is its length.
use Rattle.std.specs.Prelude.{Bool, cond, List, [], ◌∷◌, ℕ, ◌+◌, ◌*◌, ◌/◌, ltb, length}
use Rattle.words.specs.Outcome.{Outcome, accepted, refused, unless_found, Result, settled}
use Rattle.words.specs.Words.{front, record_width}
use Rattle.tree.specs.Trees.{Trees, nodes}
use Rattle.tree.specs.Materialise.{materialise}
use Rattle.tree.specs.Balance.{balanced}
use Rattle.tree.specs.Listing.{line_width}
use Rattle.tree.specs.Cells.{cell_width, absolute, decode}
use Rattle.tree.specs.Calls.{room, materialise_cells, balance_cells, list_cells}
use Rattle.rules.specs.Lowest.{bad_cell}

-- "items are .. whole cells plus a quarter (rounded down) of the packed words in tree calls"
unfoldable pub items : (cs ws : List ℕ) → ℕ
items cs ws = length cs / cell_width + length ws / record_width

-- "1: T above 65,536"; "11: work slice below 96 × items + 96 words"; 15, at the lowest cell that breaks a rule; then what follows.
-- Absolute ends are counted from S.
unfoldable pub unless_bad : (T S : ℕ) (cs ws : List ℕ) (work : ℕ) → Outcome → Outcome
unless_bad T S cs ws work next =
    cond (ltb 65536 T) (refused 1 0)
    (cond (ltb work (96 * items cs ws + 96)) (refused 11 0)
    (unless_found 15 (λ c. c) (bad_cell T S cs ws) next))

-- 12 and 13 of a result of n cells and w words, in slices of `cells` and `words` words; else the counts. Cells are named by 32-bit
-- words. A result of more cells than these can number has no cells at all, so no slice has the space for it: 12.
unfoldable pub result_room : (n w cells words : ℕ) → Outcome
result_room n w cells words =
    cond (ltb 4294967295 n) (refused 12 0) (room n w cells words)

-- "14: too little space for the result's listing lines": of lines of n words in all, in a slice of `out` words; else their count. A
-- depth is a 32-bit word. Of more lines than 32 bits can number one may lie deeper than such a word can tell, so no slice has the space
-- for them: 14.
unfoldable pub lines_room : (n out : ℕ) → Outcome
lines_room n out =
    cond (ltb 4294967295 (n / line_width)) (refused 14 0)
    (cond (ltb out n) (refused 14 0)
    (accepted (n / line_width ∷ [])))

-- the trees of accepted cells, from 0
unfoldable pub handed_in : (cs ws : List ℕ) → Trees
handed_in cs ws = absolute 0 (decode ws cs)

-- Materialise: no packed words are written, so there is one output, and 13 cannot occur. `out` is what it held before. The set is not
-- looked at: "materialising treats id 0 as before".
unfoldable pub materialise_call : (T : ℕ) (cs ws : List ℕ) (work : ℕ) (out : List ℕ) → Result
materialise_call T cs ws work out =
    settled (unless_bad T 0 cs ws work (result_room (nodes (materialise (handed_in cs ws))) 0 (length out) 0))
    (front (materialise_cells cs ws) out ∷ []) (out ∷ [])

-- the most items of a tree that balance takes: for these the 96 × items + 96 words of work can still be named by 32-bit words
abbrev pub most_items : ℕ
most_items = 44739241

-- "12, 13" of balance, in slices of `cells` and `words` words; `none_first`: is place 0 of the set none? The words of the work slice are named by 32-bit words. A tree of more
-- items than these can name the work for is treated like a result that no slice has the space for: 12.
unfoldable pub balance_room : (none_first : Bool) (cs ws : List ℕ) (cells words : ℕ) → Outcome
balance_room f cs ws cells words =
    cond (ltb most_items (items cs ws)) (refused 12 0)
    (result_room (nodes (balanced f (handed_in cs ws))) (length (balance_cells f cs ws).words) cells words)

-- Balance: "the set now says whether its place 0 is none". `cells` and `words` are what its outputs held before.
unfoldable pub balance_call : (T : ℕ) (none_first : Bool) (cs ws : List ℕ) (work : ℕ) (cells words : List ℕ) → Result
balance_call T f cs ws work cells words =
    let w = balance_cells f cs ws in
    settled (unless_bad T 0 cs ws work (balance_room f cs ws (length cells) (length words)))
    (front w.cells cells ∷ front w.words words ∷ []) (cells ∷ words ∷ [])

-- List: "one call that takes a tree with packed parts"; "15 counts every cell's end from S, a part's too where its records end sooner".
-- The set is not looked at: "Listing still shows id 0 when it is ordinary."
unfoldable pub list_call : (T F S : ℕ) (cs ws : List ℕ) (work : ℕ) (out : List ℕ) → Result
list_call T F S cs ws work out =
    settled (unless_bad T S cs ws work (lines_room (length (list_cells F S cs ws)) (length out)))
    (front (list_cells F S cs ws) out ∷ []) (out ∷ [])

-- "The lines are those that the two calls gave in turn": where neither way is refused, `list` on cells and packed words counts and writes
-- the lines that `list` does on the cells that `materialise` wrote of them, with no packed words. Each call has a work slice of a length
-- of its own, and output slices that held anything. Packed words are 16-bit words and S fits 32 bits. By the laws of cells that keep the
-- rules. Assumes nothing.
use mathlib.Core.Path.{◌≡◌, refl, sym, ap, ◌∙◌}
use mathlib.Core.Bool.{Bool, true, false, cond}
use mathlib.Core.List.{List, [], ◌∷◌, ◌++◌}
use Rattle.std.specs.Prelude.{Option, None, Some}
use Prim.Native.Nat.{ℕ, suc, ◌+◌, ◌*◌, ◌/◌, ◌%◌, ◌≤◌}
use native.Mathlib.Omega.{arith}
use borrow.Author.Tests.{ltb-false}
use lib.Dec.{ltb}
use lib.ListN.{length, get_or, take, drop, length-append}
use lib.Seq.{take_at}
use Rattle.words.specs.Outcome.{Outcome, accepted, refused, number_of, counts_of, unless_found, Result, settled}
use Rattle.words.specs.Words.{front}
use Rattle.records.specs.Forest.{line}
use Rattle.tree.specs.Trees.{Trees, nil, tree, part, nodes, kids_of}
use Rattle.tree.specs.Materialise.{materialise}
use Rattle.tree.specs.Listing.{line_width, node_line, node_below, listing, lines}
use Rattle.tree.specs.Cells.{cell_width, absolute, decode}
use Rattle.tree.specs.Calls.{room, materialise_cells, list_cells}
use Rattle.tree.specs.Well.{Short}
use Rattle.tree.proofs.CellLaws.{length_tree_cells}
use Rattle.rules.specs.Lowest.{bad_cell}
use Rattle.rules.specs.Calls.{items, unless_bad, result_room, lines_room, handed_in, materialise_call, list_call}
use Rattle.rules.proofs.Accepted.{materialised_lists}

-- a call that is accepted: "Each call returns a number (0: accepted)"
abbrev pub Taken : Result → Type 0
Taken r = number_of r.outcome ≡ 0

-- the first count that a call tells, and its first output slice
abbrev pub count_of : Result → ℕ
count_of r = get_or (counts_of r.outcome) 0 0

abbrev pub output_of : Result → List ℕ
output_of r = get_or r.outputs 0 []

-- what it wrote, the counted front of its output: cells or lines
abbrev pub cells_out : Result → List ℕ
cells_out r = take (cell_width * count_of r) (output_of r)

abbrev pub lines_out : Result → List ℕ
lines_out r = take (line_width * count_of r) (output_of r)

-- what an accepted call says of the tests before its answer
outcome_settled : (o : Outcome) (after before : List (List ℕ)) → (settled o after before).outcome ≡ o
outcome_settled (accepted counts) after before = refl
outcome_settled (refused number place) after before = refl

passed : (t : Bool) (number place : ℕ) (next : Outcome) → number_of (cond t (refused (suc number) place) next) ≡ 0
    → (t ≡ false) × (cond t (refused (suc number) place) next ≡ next) × (number_of next ≡ 0)
passed true number place next h = absurd (omega arith)
passed false number place next h = (refl, refl, h)

found_none : (found : Option ℕ) (next : Outcome) → number_of (unless_found 15 (λ c. c) found next) ≡ 0
    → (found ≡ None) × (unless_found 15 (λ c. c) found next ≡ next) × (number_of next ≡ 0)
found_none None next h = (refl, refl, h)
found_none (Some c) next h = absurd (omega arith)

-- the tests that all tree calls have
record Passed (T S : ℕ) (cs ws : List ℕ) (work : ℕ) (next : Outcome) : Type 0 where
  types : T ≤ 65536
  kept : bad_cell T S cs ws ≡ None
  same : unless_bad T S cs ws work next ≡ next
  taken : number_of next ≡ 0

tests_passed : (T S : ℕ) (cs ws : List ℕ) (work : ℕ) (next : Outcome) → number_of (unless_bad T S cs ws work next) ≡ 0 → Passed T S cs ws work next
unfolding unless_bad
tests_passed T S cs ws work next h =
    let (a, p, h₁) = passed (ltb 65536 T) 0 0 (cond (ltb work (96 * items cs ws + 96)) (refused 11 0) (unless_found 15 (λ c. c) (bad_cell T S cs ws) next)) h in
    let (b, q, h₂) = passed (ltb work (96 * items cs ws + 96)) 10 0 (unless_found 15 (λ c. c) (bad_cell T S cs ws) next) h₁ in
    let (c, r, h₃) = found_none (bad_cell T S cs ws) next h₂ in
    record { types = ltb-false 65536 T a; kept = c; same = p ∙ (q ∙ r); taken = h₃ }

-- a line has four words
whole_line : (F d i s e : ℕ) → length (line F d i s e) % line_width ≡ 0
unfolding line
whole_line F d i s e = go (ltb i F)
  where
    go : (x : Bool) → length {A = ℕ} (elim x [ true ↦ d ∷ i ∷ s ∷ e ∷ [] | false ↦ [] ]) % line_width ≡ 0
    go true = refl
    go false = refl

whole_node : (F d : ℕ) (t : Option ℕ) (s e : ℕ) → length (node_line F d t s e) % line_width ≡ 0
unfolding node_line
whole_node F d None s e = refl
whole_node F d (Some i) s e = whole_line F d i s e

whole_listing : (F d : ℕ) (ts : Trees) → length (listing F d ts) % line_width ≡ 0
unfolding listing
whole_listing F d nil = refl
whole_listing F d (tree t s l kids rest) =
    let own = node_line F d t s (s + l) in
    let inside = listing F (node_below F d t) kids in
    omega (
      arith,
      length-append (own ++ inside) (listing F d rest),
      length-append own inside,
      whole_node F d t s (s + l),
      whole_listing F (node_below F d t) kids,
      whole_listing F d rest,
    )
whole_listing F d (part s l ws rest) = whole_listing F d rest

whole_lines : (F S : ℕ) (cs ws : List ℕ) → length (list_cells F S cs ws) ≡ line_width * (length (list_cells F S cs ws) / line_width)
unfolding list_cells lines
whole_lines F S cs ws = omega (arith, whole_listing F 0 (kids_of (materialise (absolute S (decode ws cs)))))

-- an accepted listing counts and writes the lines of its cells and words
record Lists (T F S : ℕ) (cs ws : List ℕ) (work : ℕ) (out : List ℕ) : Type 0 where
  types : T ≤ 65536
  kept : bad_cell T S cs ws ≡ None
  result : list_call T F S cs ws work out ≡ record {
    outcome = accepted (length (list_cells F S cs ws) / line_width ∷ []);
    outputs = front (list_cells F S cs ws) out ∷ [];
  }

lists : (T F S : ℕ) (cs ws : List ℕ) (work : ℕ) (out : List ℕ) → Taken (list_call T F S cs ws work out) → Lists T F S cs ws work out
unfolding list_call lines_room
lists T F S cs ws work out h =
    let ls = list_cells F S cs ws in
    let n = length ls in
    let next = lines_room n (length out) in
    let o = unless_bad T S cs ws work next in
    let p = tests_passed T S cs ws work next (sym (ap number_of (outcome_settled o (front ls out ∷ []) (out ∷ []))) ∙ h) in
    let (a, q, h₁) = passed (ltb 4294967295 (n / line_width)) 13 0 (cond (ltb (length out) n) (refused 14 0) (accepted (n / line_width ∷ []))) p.taken in
    let (b, r, h₂) = passed (ltb (length out) n) 13 0 (accepted (n / line_width ∷ [])) h₁ in
    record { types = p.types; kept = p.kept; result = ap (λ (x : Outcome). settled x (front ls out ∷ []) (out ∷ [])) (p.same ∙ (q ∙ r)) }

-- an accepted materialise hands over the cells that it makes
writes : (T : ℕ) (cs ws : List ℕ) (work : ℕ) (out : List ℕ) → Taken (materialise_call T cs ws work out) → cells_out (materialise_call T cs ws work out) ≡ materialise_cells cs ws
unfolding materialise_call result_room room materialise_cells handed_in
writes T cs ws work out h =
    let n = nodes (materialise (handed_in cs ws)) in
    let made = materialise_cells cs ws in
    let next = result_room n 0 (length out) 0 in
    let o = unless_bad T 0 cs ws work next in
    let p = tests_passed T 0 cs ws work next (sym (ap number_of (outcome_settled o (front made out ∷ []) (out ∷ []))) ∙ h) in
    let (a, q, h₁) = passed (ltb 4294967295 n) 11 0 (room n 0 (length out) 0) p.taken in
    let (b, r, h₂) = passed (ltb (length out) (cell_width * n)) 11 0 (cond (ltb 0 0) (refused 13 0) (accepted (n ∷ 0 ∷ []))) h₁ in
    ap (λ (x : Outcome). cells_out (settled x (front made out ∷ []) (out ∷ []))) (p.same ∙ (q ∙ r))
    ∙ take_at made (drop (length made) out) (cell_width * n) (length_tree_cells 0 (materialise (handed_in cs ws)))

-- The three calls: `list` on cells and packed words; `materialise` on them; and `list` on the cells that it wrote, without packed words.
module _ (T F S : ℕ) (cs ws : List ℕ) (fits : S ≤ 4294967295) (short : Short ws) (work₁ work₂ work₃ : ℕ) (trees lines₁ lines₂ : List ℕ) where
  abbrev pub straight : Result
  straight = list_call T F S cs ws work₁ lines₁

  abbrev pub made : Result
  made = materialise_call T cs ws work₂ trees

  abbrev pub in_turn : Result
  in_turn = list_call T F S (cells_out made) [] work₃ lines₂

  -- Where all three are accepted, both listings count the same lines and write them, those of the cells and words; and where their outputs
  -- held the same, all that they tell and leave is the same.
  pub same_listing : Taken straight → Taken made → Taken in_turn
      → (count_of straight ≡ count_of in_turn) × (lines_out straight ≡ lines_out in_turn)
      × (lines_out straight ≡ list_cells F S cs ws) × (lines_out in_turn ≡ list_cells F S cs ws)
      × (lines₁ ≡ lines₂ → straight ≡ in_turn)
  same_listing h₁ h₂ h₃ =
      let ls = list_cells F S cs ws in
      let one = lists T F S cs ws work₁ lines₁ h₁ in
      let two = lists T F S (cells_out made) [] work₃ lines₂ h₃ in
      let same : list_cells F S (cells_out made) [] ≡ ls =
      ap (λ (x : List ℕ). list_cells F S x []) (writes T cs ws work₂ trees h₂) ∙ materialised_lists T F S cs ws one.types fits short one.kept in
      let told : (out : List ℕ) → Result = λ out. record { outcome = accepted (length ls / line_width ∷ []); outputs = front ls out ∷ [] } in
      let a : straight ≡ told lines₁ = one.result in
      let b : in_turn ≡ told lines₂ =
      two.result ∙ ap (λ (x : List ℕ). record { outcome = accepted (length x / line_width ∷ []); outputs = front x lines₂ ∷ [] }) same in
      let x : lines_out straight ≡ ls = ap lines_out a ∙ take_at ls (drop (length ls) lines₁) (line_width * (length ls / line_width)) (whole_lines F S cs ws) in
      let y : lines_out in_turn ≡ ls = ap lines_out b ∙ take_at ls (drop (length ls) lines₂) (line_width * (length ls / line_width)) (whole_lines F S cs ws) in
      (ap count_of a ∙ sym (ap count_of b), x ∙ sym y, x, y, (λ e. a ∙ (ap told e ∙ sym b)))

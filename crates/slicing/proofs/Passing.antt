-- What slicing writes passes the part check again, and its length is the greatest end which that check tells. Assumes nothing.
use mathlib.Core.Path.{◌≡◌, refl, ◌∙◌}
use mathlib.Core.List.{List, [], ◌∷◌}
use mathlib.Core.Bool.{not}
use Rattle.std.specs.Prelude.{Option, None, Some}
use Prim.Native.Nat.{ℕ, ◌+◌, ◌-◌, ◌*◌, ◌/◌, ◌%◌, ◌≤◌}
use native.Mathlib.Omega.{arith}
use borrow.Author.Tests.{ltb-false}
use lib.Dec.{ltb, eqb}
use lib.ListN.{length}
use Rattle.words.specs.Outcome.{Outcome, accepted, refused, unless_refused, unless_found}
use Rattle.words.specs.Words.{run}
use Rattle.words.proofs.Outcomes.{never, passed}
use Rattle.words.proofs.Runs.{run_length}
use Rattle.part.specs.Part.{greatest_end, deepest_nesting, part_check}
use Rattle.part.proofs.Faults.{passes, passes_check}
use Rattle.part.proofs.Rebased.{rebased_length}
use Rattle.slicing.specs.Slice.{starts_below, sliced, in_source, slice_outcome}

-- the test of a call did not refuse, and what follows it is accepted
unrefused : (o next : Outcome) (counts : List ℕ) → unless_refused o next ≡ accepted counts → ((told : List ℕ) × (o ≡ accepted told)) × (next ≡ accepted counts)
unrefused (accepted told) next counts h = ((told, refl), h)
unrefused (refused number place) next counts h = absurd (never number place counts h)

not_found : (number : ℕ) (place : ℕ → ℕ) (o : Option ℕ) (next : Outcome) (counts : List ℕ) → unless_found number place o next ≡ accepted counts → next ≡ accepted counts
not_found number place None next counts h = h
not_found number place (Some i) next counts h = absurd (never number (place i) counts h)

in_place : (from : ℕ) (o : Outcome) (counts : List ℕ) → in_source from o ≡ accepted counts → o ≡ accepted counts
in_place from (accepted told) counts h = h
in_place from (refused number place) counts h = absurd (never number (from + place) counts h)

sliced_length : (w : List ℕ) (from to base : ℕ) → from ≤ to → to ≤ length w → length (sliced w from to base) / 4 ≡ (to - from) / 4
unfolding sliced
sliced_length w from to base a b = omega (arith, rebased_length from base (run w from to), run_length w from to a b)

-- The words that slicing writes pass the part check, and the slice's length is the second count of that check.
pub sliced_passes : (w : List ℕ) (types from to base room size length-told : ℕ)
    → slice_outcome w types from to base room ≡ accepted (size ∷ length-told ∷ [])
    → part_check (sliced w from to base) types ≡ accepted (size / 4 ∷ length-told ∷ deepest_nesting (sliced w from to base) ∷ [])
unfolding slice_outcome
sliced_passes w types from to base room size length-told h =
    let counts = size ∷ length-told ∷ [] in
    let (whole, h₁) = unrefused (part_check w types) _ counts h in
    let (a, h₂) = passed (ltb to from) 21 0 _ counts h₁ in
    let (b, h₃) = passed (ltb (length w) to) 21 0 _ counts h₂ in
    let (x, h₄) = passed (not (eqb (from % 4) 0)) 22 0 _ counts h₃ in
    let (y, h₅) = passed (not (eqb (to % 4) 0)) 22 0 _ counts h₄ in
    let h₆ = not_found 23 (λ i. from + i * 4) (starts_below (run w from to) base) _ counts h₅ in
    let (cut, h₇) = unrefused (in_source from (part_check (sliced w from to base) types)) _ counts h₆ in
    let (r, h₈) = passed (ltb room (to - from)) 13 0 _ counts h₇ in
    let v = sliced w from to base in
    let words : to - from ≡ size = cc in
    let greatest : greatest_end v ≡ length-told = cc in
    let long : length v / 4 ≡ size / 4 = sliced_length w from to base (ltb-false to from a) (ltb-false (length w) to b) ∙ omega arith in
    passes_check v types (passes v types cut.0 (in_place from (part_check v types) cut.0 cut.1)) ∙ rw (long, greatest)

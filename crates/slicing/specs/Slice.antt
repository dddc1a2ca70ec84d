-- Slicing a packed part, as document 01 has it: the part check, 21, 22, 23, 19 on the cut part, 13.
use Rattle.std.specs.Prelude.{ℕ, ◌+◌, ◌-◌, ◌*◌, ◌/◌, ◌%◌, List, [], ◌∷◌, cond, not, length, ltb, eqb}
use Rattle.std.specs.Prelude.{Option}
use Rattle.words.specs.Outcome.{Outcome, accepted, refused, unless_refused, unless_found, Result, settled}
use Rattle.words.specs.Words.{start_of, run, front, record_width}
use Rattle.words.specs.First.{first_from}
use Rattle.part.specs.Part.{greatest_end, part_check}
use Rattle.part.specs.Rebased.{rebased}

-- 23: the first record of the cut whose start is below the base
abbrev pub starts_below : List ℕ → ℕ → Option ℕ
starts_below cut base = first_from (λ i. ltb (start_of cut i) base) 0 (length cut / record_width)

-- "A slice of a part is its words from start up to end, rebased"
unfoldable pub sliced : List ℕ → ℕ → ℕ → ℕ → List ℕ
sliced w from to base = rebased from base (run w from to)

-- what the part check of the cut answers, with its place as an "offset in the source"
abbrev pub in_source : (from : ℕ) → Outcome → Outcome
in_source from (accepted counts) = accepted counts
in_source from (refused number place) = refused number (from + place)

-- The tests in their order, with room for `room` words; the counts are words and length. "19 on the cut part" is the part check of the part
-- written, and "a slice's length is this figure", the greatest end of any record, "for the part written".
unfoldable pub slice_outcome : List ℕ → ℕ → ℕ → ℕ → ℕ → ℕ → Outcome
slice_outcome w types from to base room =
    unless_refused (part_check w types)
    (cond (ltb to from) (refused 21 0)
    (cond (ltb (length w) to) (refused 21 0)
    (cond (not (eqb (from % record_width) 0)) (refused 22 0)
    (cond (not (eqb (to % record_width) 0)) (refused 22 0)
    (unless_found 23 (λ i. from + i * record_width) (starts_below (run w from to) base)
    (unless_refused (in_source from (part_check (sliced w from to base) types))
    (cond (ltb room (to - from)) (refused 13 0)
    (accepted ((to - from) ∷ greatest_end (sliced w from to base) ∷ [])))))))))

-- the whole call: its outcome, and the output slice with the words of the slice at its front
unfoldable pub slice_part : List ℕ → ℕ → ℕ → ℕ → ℕ → List ℕ → Result
slice_part w types from to base out =
    settled (slice_outcome w types from to base (length out)) (front (sliced w from to base) out ∷ []) (out ∷ [])

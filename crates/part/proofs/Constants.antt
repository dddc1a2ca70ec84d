-- The part check's constants from both sides: one less or one more in the definition would break a law here. By computation.
-- Assumes nothing.
use mathlib.Core.Path.{◌≡◌, refl}
use mathlib.Core.List.{[], ◌∷◌}
use Rattle.words.specs.Outcome.{accepted, refused}
use Rattle.part.specs.Part.{part_check, faults_from, fault, own_fault, crosses, greatest_end, enclosing, deepest_from}

-- "1: T above 65,536"
pub type_limits : (part_check [] 65536 ≡ accepted (0 ∷ 0 ∷ 0 ∷ [])) × (part_check [] 65537 ≡ refused 1 0)
unfolding part_check faults_from greatest_end deepest_from
type_limits = (refl, refl)

-- "16: length not a multiple of 4"; "19: end index below offset + 4, above the length, or not a multiple of 4"
pub word_limits :
    (part_check (0 ∷ 0 ∷ 0 ∷ []) 1 ≡ refused 16 0) × (part_check (0 ∷ 0 ∷ 0 ∷ 4 ∷ 0 ∷ []) 1 ≡ refused 16 0)
    × (part_check (0 ∷ 0 ∷ 0 ∷ 4 ∷ []) 1 ≡ accepted (1 ∷ 0 ∷ 1 ∷ []))
    × (part_check (0 ∷ 0 ∷ 0 ∷ 0 ∷ []) 1 ≡ refused 19 0) × (part_check (0 ∷ 0 ∷ 0 ∷ 8 ∷ []) 1 ≡ refused 19 0)
    × (part_check (0 ∷ 0 ∷ 0 ∷ 6 ∷ 0 ∷ 0 ∷ 0 ∷ 8 ∷ []) 1 ≡ refused 19 0)
unfolding part_check faults_from fault own_fault crosses greatest_end enclosing deepest_from
word_limits = (refl, refl, refl, refl, refl, refl)

-- "the greatest end of any record", which need not be the last one's, nor that of a record held by no other; nesting goes by end indices
pub counts :
    (part_check (0 ∷ 0 ∷ 9 ∷ 4 ∷ 0 ∷ 0 ∷ 2 ∷ 8 ∷ []) 1 ≡ accepted (2 ∷ 9 ∷ 1 ∷ []))
    × (part_check (1 ∷ 0 ∷ 2 ∷ 8 ∷ 1 ∷ 0 ∷ 9 ∷ 8 ∷ []) 2 ≡ accepted (2 ∷ 9 ∷ 2 ∷ []))
    × (part_check (0 ∷ 0 ∷ 6 ∷ 16 ∷ 0 ∷ 0 ∷ 4 ∷ 12 ∷ 0 ∷ 1 ∷ 2 ∷ 12 ∷ 0 ∷ 5 ∷ 6 ∷ 16 ∷ 0 ∷ 6 ∷ 7 ∷ 20 ∷ []) 1 ≡ accepted (5 ∷ 7 ∷ 3 ∷ []))
    × (part_check (0 ∷ 0 ∷ 9 ∷ 8 ∷ 1 ∷ 0 ∷ 0 ∷ 8 ∷ []) 1 ≡ refused 17 4)
unfolding part_check faults_from fault own_fault crosses greatest_end enclosing deepest_from
counts = (refl, refl, refl, refl)

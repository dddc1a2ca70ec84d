-- The search's constant from both sides: one less or one more in the definition would break this law. By computation.
-- Assumes nothing.
use mathlib.Core.Path.{◌≡◌, refl}
use mathlib.Core.List.{[], ◌∷◌}
use lib.IntN.{pos}
use Rattle.words.specs.Outcome.{accepted, refused}
use Rattle.words.specs.First.{first_in}
use Rattle.part.specs.Part.{part_check, faults_from, fault, own_fault, crosses}
use Rattle.search.specs.Side.{on_side}
use Rattle.search.specs.Search.{meets, way, beyond, choose, child, search_part}

-- "25: base plus the end of a record met on that way .. above 4,294,967,295"
pub end_limits :
    (search_part (0 ∷ 0 ∷ 1 ∷ 4 ∷ []) 1 0 4 (pos 1) 0 4294967294 (pos 4) ≡ accepted (1 ∷ 0 ∷ []))
    × (search_part (0 ∷ 0 ∷ 1 ∷ 4 ∷ []) 1 0 4 (pos 1) 0 4294967295 (pos 4) ≡ refused 25 0)
unfolding search_part meets way beyond choose child on_side first_in part_check faults_from fault own_fault crosses
end_limits = (refl, refl)

-- The check of a part's records inside the tree check: what its functions ask and promise. Only internal functions cite these.
use Rattle.std.specs.Prelude.{Bool, false, cond, List, ℕ, ◌-◌, ◌/◌, ◌≤◌, min, ltb, eqb, get_or}
use Rattle.words.specs.Words.{record_width}

-- Room for the records of a part of m words: for the end indices of those around, and for their ends. Both slices are lent from the tree
-- check down to the loop over a part's records, so that nothing is cleared for a part; so each function on the way asks for the room.
pub record Room (m indices ends : ℕ) : Type 0 where
  pub for_indices : min (m / record_width) 16383 ≤ indices
  pub for_ends : m ≤ ends

-- an end past that of the innermost of t records around, the first t of `ends`
unfoldable pub past_parent : (ends : List ℕ) (t e : ℕ) → Bool
past_parent ends t e = cond (eqb t 0) false (ltb (get_or ends (t - 1) 0) e)

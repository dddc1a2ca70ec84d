-- Searching a packed part, as document 01 has it: the part check, 21, 22, 24, 25, then find_buffer_child of the source.
use Rattle.std.specs.Prelude.{ℕ, suc, zero, ◌+◌, ◌%◌, List, [], ◌∷◌, Bool, cond, not, length, get_or, ltb, eqb, ℤ, pos}
use Rattle.std.specs.Prelude.{Option, None, Some}
use Rattle.std.specs.Int.Signed.{lt_z}
use Rattle.words.specs.Words.{record_width}
use Rattle.words.specs.Outcome.{Outcome, accepted, refused, unless_refused, unless_found}
use Rattle.words.specs.First.{first_in}
use Rattle.part.specs.Part.{part_check}
use Rattle.search.specs.Side.{on_side}

-- 24: whether following end indices from the offset `at` meets `stop`, in at most `fuel` steps
unfoldable pub meets : List ℕ → ℕ → ℕ → ℕ → Bool
meets w zero at stop = eqb at stop
meets w (suc fuel) at stop = let rest = meets w fuel (get_or w (at + 3) 0) stop in cond (ltb at stop) rest (eqb at stop)

-- the offsets of the records met on that way
unfoldable pub way : List ℕ → ℕ → ℕ → ℕ → List ℕ
way w zero at stop = []
way w (suc fuel) at stop = let rest = way w fuel (get_or w (at + 3) 0) stop in cond (ltb at stop) (at ∷ rest) []

-- the way from one bound to the other: each step is at least four words long, so that a part has steps enough
abbrev pub way_to : List ℕ → ℕ → ℕ → List ℕ
way_to w from to = way w (length w) from to

-- 25: whether the base plus the end of the record at an offset is above 4,294,967,295
abbrev pub too_far : List ℕ → ℕ → ℕ → Bool
too_far w base at = ltb 4294967295 (base + get_or w (at + 2) 0)

-- 25: the first such record met on the way, "past a match too"
unfoldable pub beyond : List ℕ → ℕ → ℕ → ℕ → Option ℕ
beyond w from to base = first_in (too_far w base) (way_to w from to)

-- whether the record at an offset, counted from the base, is on the given side of a position
abbrev pub matching : List ℕ → ℕ → ℕ → ℤ → ℕ → Bool
matching w position base side at = on_side side position (base + get_or w (at + 1) 0) (base + get_or w (at + 2) 0)

-- of those of a list for which a test holds the first one, or (not forward) the last; d where there is none
unfoldable pub choose : (ℕ → Bool) → Bool → Option ℕ → List ℕ → Option ℕ
choose test forward d [] = d
choose test forward d (a ∷ l) =
    let rest = choose test forward (Some a) l in
    let other = choose test forward d l in
    cond (test a) (cond forward (Some a) rest) other

-- "forward (a direction above 0) the first match, else the last"
unfoldable pub child : List ℕ → ℕ → ℕ → ℤ → ℕ → ℕ → ℤ → Option ℕ
child w from to direction position base side = choose (matching w position base side) (lt_z (pos 0) direction) None (way_to w from to)

-- "for searching 1 and the match's word offset, or 0 and 0 for none"
abbrev pub match_counts : Option ℕ → Outcome
match_counts None = accepted (0 ∷ 0 ∷ [])
match_counts (Some at) = accepted (1 ∷ at ∷ [])

-- the whole call
unfoldable pub search_part : List ℕ → ℕ → ℕ → ℕ → ℤ → ℕ → ℕ → ℤ → Outcome
search_part w types from to direction position base side =
    unless_refused (part_check w types)
    (cond (ltb to from) (refused 21 0)
    (cond (ltb (length w) to) (refused 21 0)
    (cond (not (eqb (from % record_width) 0)) (refused 22 0)
    (cond (not (eqb (to % record_width) 0)) (refused 22 0)
    (cond (not (meets w (length w) from to)) (refused 24 0)
    (unless_found 25 (λ at. at) (beyond w from to base)
    (match_counts (child w from to direction position base side))))))))

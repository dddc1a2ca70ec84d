-- The rules for a part's records, in one pass: `PartRules` has them as document 01 words them, and proofs/PartRanges shows that
-- both accept the same parts.
use Rattle.std.specs.Prelude.{Bool, true, false, ◌&&◌, List, [], ◌∷◌, ℕ, ◌+◌, leb}
use Rattle.words.specs.Words.{record_width}
use Rattle.words.specs.Outcome.{Outcome, accepted, refused}
use Rattle.part.specs.Part.{greatest_end, part_check}

-- A record around the ones that follow: its end index and its end.
pub record Around : Type 0 where
  pub stop : ℕ
  pub end : ℕ

-- of the records around, innermost first, those that go on past the word offset off
unfoldable pub still : (off : ℕ) → List Around → List Around
still off [] = []
still off (a ∷ outer) = elim (leb a.stop off) [ true ↦ still off outer | false ↦ a ∷ outer ]

-- Where a record at the offset off starts at the earliest: at the end of the sibling before it, which is the outermost of
-- those that do not go on; without one, at lo (its parent's start).
unfoldable pub earliest : (off lo : ℕ) → List Around → ℕ
earliest off lo [] = lo
earliest off lo (a ∷ outer) = elim (leb a.stop off) [ true ↦ earliest off a.end outer | false ↦ lo ]

-- does a record end at its parent's end or before it? Where there is no parent nothing is asked here
unfoldable pub ends_inside : (e : ℕ) → List Around → Bool
ends_inside e [] = true
ends_inside e (a ∷ outer) = leb e a.end

-- The ranges of the records from the offset off on: each starts at the earliest start or later and ends within its parent.
unfoldable pub ranges : (off lo : ℕ) → List Around → List ℕ → Bool
ranges off lo outer [] = true
ranges off lo outer (i ∷ []) = true
ranges off lo outer (i ∷ s ∷ []) = true
ranges off lo outer (i ∷ s ∷ e ∷ []) = true
ranges off lo outer (i ∷ s ∷ e ∷ x ∷ ws) =
    leb (earliest off lo outer) s
    && (ends_inside e (still off outer)
    && ranges (off + record_width) s (record { stop = x; end = e } ∷ still off outer) ws)

-- does nothing refuse it?
abbrev pub is_accepted : Outcome → Bool
is_accepted (accepted counts) = true
is_accepted (refused number place) = false

-- The rules for a part of the length l: 16 to 20, the greatest end of any record within the length, and the ranges. Refusal 1 is tested
-- before any cell is read, so that here `part_check` is 16 to 20.
unfoldable pub part_kept : (T l : ℕ) → List ℕ → Bool
part_kept T l ws = is_accepted (part_check ws T) && (leb (greatest_end ws) l && ranges 0 0 [] ws)

-- What a call of document 01 gives: a number (0: accepted), a place, counts, and what its output slices then hold.
use Rattle.std.specs.Prelude.{ℕ, List, []}
use Rattle.std.specs.Prelude.{Option, None, Some}

pub data Outcome : Type 0 where
  -- accepted, with the counts
  accepted : List ℕ → Outcome
  -- refused, with the number and the place
  refused : ℕ → ℕ → Outcome

-- "Each call returns a number (0: accepted)"
abbrev pub number_of : Outcome → ℕ
number_of (accepted counts) = 0
number_of (refused number place) = number

-- "Accepted: the place is 0"
abbrev pub place_of : Outcome → ℕ
place_of (accepted counts) = 0
place_of (refused number place) = place

-- a refused call has none: "counts are 0" wherever they are told
abbrev pub counts_of : Outcome → List ℕ
counts_of (accepted counts) = counts
counts_of (refused number place) = []

-- the outcome of a later test where an earlier one refuses nothing
abbrev pub unless_refused : Outcome → Outcome → Outcome
unless_refused (refused number place) next = refused number place
unless_refused (accepted counts) next = next

-- the outcome of a later test where nothing was found; else refused at the place of what was found
abbrev pub unless_found : ℕ → (ℕ → ℕ) → Option ℕ → Outcome → Outcome
unless_found number place None next = next
unless_found number place (Some i) next = refused number (place i)

-- The outcome of a call, and what each of its output slices holds afterwards, in the order of the parameters.
pub record Result : Type 0 where
  pub outcome : Outcome
  pub outputs : List (List ℕ)

-- "Refused: outputs are unchanged. Accepted: only the counted front of each output is written": what the output slices
-- hold afterwards, of those written and those that were there before
abbrev pub settled : Outcome → (written before : List (List ℕ)) → Result
settled (accepted counts) written before = record { outcome = accepted counts; outputs = written }
settled (refused number place) written before = record { outcome = refused number place; outputs = before }

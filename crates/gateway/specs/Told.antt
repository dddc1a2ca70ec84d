-- What an exported call returns, and what it leaves in the answer slice and in its output slices.
use Rattle.std.specs.Prelude.{ℕ, zero, suc, cond, List, [], ◌∷◌, map, ltb}
use Rattle.words.specs.Outcome.{Outcome, number_of, place_of, counts_of, Result}

pub record Told : Type 0 where
  pub number : ℕ
  pub info : List ℕ
  pub outputs : List (List ℕ)

-- A number that no word holds is told as the largest word. Only a place or a count on slices of more than 4,294,967,295 elements is
-- so large.
abbrev pub as_word : ℕ → ℕ
as_word n = cond (ltb 4294967295 n) 4294967295 n

-- n counts: "counts are 0" where a call is refused, and so is each that a call does not have
abbrev pub padded : (n : ℕ) → List ℕ → List ℕ
padded zero counts = []
padded (suc n) [] = 0 ∷ padded n []
padded (suc n) (count ∷ counts) = count ∷ padded n counts

-- words to the front of a slice, "as many as it holds"
unfoldable pub laid : (words info : List ℕ) → List ℕ
laid [] info = info
laid (w ∷ words) [] = []
laid (w ∷ words) (i ∷ info) = w ∷ laid words info

-- "They return the number and write place and counts to the front of one more lent word slice, as many as it holds": of a call
-- without output slices
abbrev pub told : (n : ℕ) → Outcome → (info : List ℕ) → Told
told n o info = record { number = number_of o; info = laid (map as_word (place_of o ∷ padded n (counts_of o))) info; outputs = [] }

-- of a call with output slices
abbrev pub told_result : (n : ℕ) → Result → (info : List ℕ) → Told
told_result n r info = record { number = (told n r.outcome info).number; info = (told n r.outcome info).info; outputs = r.outputs }

-- What the private functions of the search ask.
use Rattle.std.specs.Prelude.{ℕ, ◌+◌, ◌%◌, ◌≤◌, ◌<◌, ◌≡◌, List, length, get_or}
use Rattle.words.specs.Words.{record_width}

-- a part whose end indices can be followed from one bound to the other: each leads to a later whole record, or to the end
pub record Linked (w : List ℕ) (from to : ℕ) : Type 0 where
  pub start : from % record_width ≡ 0
  pub within : from ≤ length w
  pub stop : to ≤ length w
  pub whole : length w % record_width ≡ 0
  pub later : (at : ℕ) → at % record_width ≡ 0 → at < length w → at + record_width ≤ get_or w (at + 3) 0
  pub inside : (at : ℕ) → at % record_width ≡ 0 → at < length w → get_or w (at + 3) 0 ≤ length w
  pub record_end : (at : ℕ) → at % record_width ≡ 0 → at < length w → get_or w (at + 3) 0 % record_width ≡ 0

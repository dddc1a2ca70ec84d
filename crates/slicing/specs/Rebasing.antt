-- What the private functions of slicing ask and promise.
use Rattle.std.specs.Prelude.{ℕ, ◌/◌, ◌≤◌, ◌<◌, List, length}
use Rattle.words.specs.Words.{start_of, end_of, record_width}
use Rattle.part.specs.Part.{end_index}

-- a cut of whole records none of which starts below the base or ends before the cut, with room for the result
pub record Rebasable (cut : List ℕ) (from base room : ℕ) : Type 0 where
  pub starts : (i : ℕ) → i < length cut / record_width → base ≤ start_of cut i
  pub order : (i : ℕ) → i < length cut / record_width → start_of cut i ≤ end_of cut i
  pub after : (i : ℕ) → i < length cut / record_width → from ≤ end_index cut i
  pub fits : length cut ≤ room

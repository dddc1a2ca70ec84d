-- How many words of repeat records stand before each place, kept in the first words of the work slice. Only internal functions
-- cite these.
use Rattle.std.specs.Prelude.{◌≡◌, List, ℕ, ◌+◌, ◌-◌, ◌*◌, ◌≤◌, ◌<◌, length, get_or}
use Rattle.words.specs.Words.{record_width}
use Rattle.cursor.specs.Spells.{skips}

-- word k holds the words of the repeat records among the first k, up to k = n
pub record Counted (F : ℕ) (w l : List ℕ) (n : ℕ) : Type 0 where
  pub room : n < length l
  pub count : (k : ℕ) → k ≤ n → get_or l k 0 ≡ skips F w k

-- the count up to n, and nothing else, has been written into l
pub record Counting (F : ℕ) (w l l' : List ℕ) (n : ℕ) : Type 0 where
  pub size : length l' ≡ length l
  pub counted : Counted F w l' n
  pub kept : (k : ℕ) → n < k → get_or l' k 0 ≡ get_or l k 0

-- two places whose counts can be subtracted: between them stand at most four words for each record
pub record Rising (l : List ℕ) (from at : ℕ) : Type 0 where
  pub order : from ≤ at
  pub room : at < length l
  pub small : at < 4294967296
  pub up : get_or l from 0 ≤ get_or l at 0
  pub few : get_or l at 0 ≤ get_or l from 0 + (at - from) * record_width

-- 19 on the cut part, by the second bound. That the part check of the rebased cut answers just that is `nineteen_exactly` in
-- proofs/NineteenExactly. No function cites this.
use Rattle.std.specs.Prelude.{ℕ, ◌*◌, ◌/◌, ◌%◌, ◌≤◌, ◌<◌, ◌≡◌, List, ltb, length}
use Rattle.std.specs.Prelude.{Option}
use Rattle.words.specs.Outcome.{accepted}
use Rattle.words.specs.Words.{start_of, record_width}
use Rattle.words.specs.First.{first_from}
use Rattle.part.specs.Part.{end_index, part_counts, part_check}

-- none of 1, 16 to 23 applies to a slice from one bound up to another
pub record Cuttable (w : List ℕ) (types from to base : ℕ) : Type 0 where
  -- 1, 16 to 20: the part is accepted, with its counts
  pub part : part_check w types ≡ accepted (part_counts w)
  -- 21: "two bounds reversed or past the length"
  pub in_order : from ≤ to
  pub inside : to ≤ length w
  -- 22: "not multiples of 4"
  pub whole_from : from % record_width ≡ 0
  pub whole_to : to % record_width ≡ 0
  -- 23: "slice base above a record's start", of the records between the bounds
  pub starts : (i : ℕ) → from ≤ i * record_width → i * record_width < to → base ≤ start_of w i

-- 19 on the cut part by the second bound: the first record of the cut whose end index is past it
abbrev pub outside : List ℕ → ℕ → Option ℕ
outside cut to = first_from (λ i. ltb to (end_index cut i)) 0 (length cut / record_width)

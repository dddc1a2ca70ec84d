-- When the check answers 9, in document 01's own words, by counting words. That it is so is `nine_exactly` in
-- proofs/NineExactly. No function cites this.
use Rattle.std.specs.Prelude.{◌≡◌, List, ℕ, ◌+◌, ◌-◌, ◌*◌, ◌/◌, ◌%◌, ◌≤◌, ◌<◌, length}
use Rattle.words.specs.Words.{id_of, start_of, end_of, last_of, record_width}

-- the word at which the span of record i begins: "a record's span is the size words ending with its last"
abbrev pub begin_of : List ℕ → (i : ℕ) → ℕ
begin_of ws i = (i + 1) * record_width - last_of ws i

-- the word behind the last one of record i, with which its span ends
abbrev pub behind_of : (i : ℕ) → ℕ
behind_of i = (i + 1) * record_width

-- 9: "its span begins inside an earlier record's span without covering it whole"
pub record Crosses (ws : List ℕ) (i : ℕ) : Type 0 where
  pub other : ℕ
  pub earlier : other < i
  pub inside : (begin_of ws other ≤ begin_of ws i) × (begin_of ws i < behind_of other)
  pub uncovered : ((begin_of ws i ≤ begin_of ws other) × (behind_of other ≤ behind_of i)) → ⊥

-- none of 6 to 8 applies to record i
pub record Whole (T : ℕ) (ws : List ℕ) (i : ℕ) : Type 0 where
  -- 6: "id not below T"
  pub known : id_of ws i < T
  -- 7: "start after end"
  pub ordered : start_of ws i ≤ end_of ws i
  -- 8: "size below 4, not a multiple of 4, or above 4 × (record number + 1)"
  pub large : record_width ≤ last_of ws i
  pub fours : last_of ws i % record_width ≡ 0
  pub small : last_of ws i ≤ record_width * (i + 1)

-- 1 to 5 and 11 do not apply
pub record Admitted (T b top work : ℕ) (ws : List ℕ) : Type 0 where
  -- 1: "T above 65,536"; 2: "b above 65,535"; 3: "top id not below T"
  pub types : T ≤ 65536
  pub bound : b ≤ 65535
  pub top_known : top < T
  -- 4: "length not a multiple of 4"; 5: "over 1,048,576 records"
  pub fours : length ws % record_width ≡ 0
  pub few : length ws / record_width ≤ 1048576
  -- 11: "work slice below 96 × items + 96 words"
  pub room : 96 * (length ws / record_width) + 96 ≤ work

-- 9 is the answer, at record i
pub record Nine (T b top work : ℕ) (ws : List ℕ) (i : ℕ) : Type 0 where
  pub admitted : Admitted T b top work ws
  -- i is the number of a record
  pub listed : i < length ws / record_width
  -- no record before it has a fault of 6 to 9
  pub before : (j : ℕ) → j < i → Whole T ws j × (Crosses ws j → ⊥)
  -- it draws none of 6 to 8
  pub whole : Whole T ws i
  pub crosses : Crosses ws i

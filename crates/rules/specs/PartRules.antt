-- What the cell rules ask of a part of the length l: it passes 16 to 20, and its records "nest and order by range as in 10 and
-- end within the part's length". Record i stands at the word offset i * 4; w are the part's words.
use Rattle.std.specs.Prelude.{◌≡◌, List, ℕ, ◌*◌, ◌≤◌, ◌<◌, length}
use Rattle.words.specs.Outcome.{accepted}
use Rattle.words.specs.Words.{start_of, end_of, record_width}
use Rattle.part.specs.Part.{end_index, greatest_end, part_check}

module _ (w : List ℕ) where
  -- the record i lies inside the record j, whose descendants go up to its end index
  abbrev pub Inside : (i j : ℕ) → Type 0
  Inside i j = (j < i) × (i * record_width < end_index w j)

  -- j is the parent of i: of the records around it the innermost
  pub record Parent (j i : ℕ) : Type 0 where
    pub inside : Inside i j
    pub innermost : (k : ℕ) → Inside i k → k ≤ j

  -- j is the preceding sibling of i: it ends where i begins, and the records around j are around i too
  pub record Preceding (j i : ℕ) : Type 0 where
    pub before : j < i
    pub meets : end_index w j ≡ i * record_width
    pub around : (k : ℕ) → Inside j k → Inside i k

  pub record PartKept (T l : ℕ) : Type 0 where
    -- "pass 16 to 20"; refusal 1 is tested before any cell is read
    pub counts : List ℕ
    pub passes : part_check w T ≡ accepted counts
    -- 10: "a child's range leaves its parent's"
    pub children : (i j : ℕ) → i * record_width < length w → Parent j i → (start_of w j ≤ start_of w i) × (end_of w i ≤ end_of w j)
    -- 10: "a record starts before its preceding sibling's end"
    pub siblings : (i j : ℕ) → i * record_width < length w → Preceding j i → end_of w j ≤ start_of w i
    -- "end within the part's length": the greatest end of any record is compared with it
    pub ends : greatest_end w ≤ l

-- The words of a record list, and the items that they spell: what the functions of the build ask of a place in the list. Nothing
-- here is needed to read what a call promises.
use Rattle.std.specs.Prelude.{◌≡◌, true, false, cond, List, ℕ, suc, ◌+◌, ◌-◌, ◌*◌, ◌≤◌, ◌<◌, zero, length, leb, Option}
use Rattle.tree.specs.Items.{Items, nil, mark, span, same, repeats, records}
use Rattle.words.specs.Words.{record_width, id_of, start_of, end_of, last_of}

-- The records from number lo up to p, without p, spell these items from the last one back: a mark is its record alone, a
-- span its record behind its kids.
abbrev pub Spells : (w : List ℕ) (lo p : ℕ) → Items → Type 0
Spells w lo p nil = lo ≡ p
Spells w lo p (mark i s e n rest) =
    record {
      room : lo < p;
      id : id_of w (p - 1) ≡ i;
      start : start_of w (p - 1) ≡ s;
      end : end_of w (p - 1) ≡ e;
      size : last_of w (p - 1) ≡ n;
      rest : Spells w lo (p - 1) rest;
    }
Spells w lo p (span i s e kids rest) =
    record {
      room : lo + suc (records kids) ≤ p;
      id : id_of w (p - 1) ≡ i;
      start : start_of w (p - 1) ≡ s;
      end : end_of w (p - 1) ≡ e;
      size : last_of w (p - 1) ≡ record_width * suc (records kids);
      inner : Spells w (p - suc (records kids)) (p - 1) kids;
      rest : Spells w lo (p - suc (records kids)) rest;
    }

-- Under the repeat id `own`, marks are the records of that id, and spans all others.
abbrev pub Marked : (F : ℕ) (own : Option ℕ) → Items → Type 0
Marked F own nil = Unit {0}
Marked F own (mark i s e n rest) = record { alone : same own i ≡ true; repeat : F ≤ i; rest : Marked F own rest }
Marked F own (span i s e kids rest) =
    record { other : same own i ≡ false; inner : Marked F (repeats F i) kids; rest : Marked F own rest }

-- marks have repeat ids, inside spans too
abbrev pub Passed : (F : ℕ) → Items → Type 0
Passed F nil = Unit {0}
Passed F (mark i s e n rest) = record { repeat : F ≤ i; rest : Passed F rest }
Passed F (span i s e kids rest) = record { inner : Passed F kids; rest : Passed F rest }

-- What stands between record lo and the cursor behind record p - 1, under the repeat id `own`.
pub record Stands (F : ℕ) (own : Option ℕ) (w : List ℕ) (lo p : ℕ) (its : Items) : Type 0 where
  pub within : p * record_width ≤ length w
  pub spells : Spells w lo p its
  pub marked : Marked F own its

-- there are such items, and at least one
pub record Standing (F : ℕ) (own : Option ℕ) (w : List ℕ) (lo p : ℕ) : Type 0 where
  pub its : Items
  pub stands : Stands F own w lo p its
  pub some_record : lo < p

-- the words of the repeat records among the first n
unfoldable pub skips : (F : ℕ) (w : List ℕ) (n : ℕ) → ℕ
skips F w zero = 0
skips F w (suc n) = skips F w n + cond (leb F (id_of w n)) record_width 0

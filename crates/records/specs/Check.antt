-- The refusals of a record list, in document 01's order: 1, 2, 3, 4, 5, 11, then 6 to 9 record by record, then 10.
-- The place is the number of the record at fault, counted from 0; 1 to 5 and 11 name none.
use Rattle.std.specs.Prelude.{◌≡◌, Bool, true, false, cond, ◌&&◌, ◌||◌, not, List, [], ◌∷◌, ℕ, zero, suc, ◌+◌, ◌-◌, ◌*◌, ◌/◌, ◌%◌, ◌≤◌, ◌<◌, ltb, leb, eqb, length}
use Rattle.std.specs.Prelude.{Option, None, Some}
use Rattle.words.specs.Words.{record_width}
use Rattle.words.specs.Outcome.{Outcome, accepted, refused, unless_refused}
use Rattle.records.specs.Forest.{Forest, empty, add, count, behind}
use Rattle.records.specs.Parse.{descendants, nearest, farther, parse}

-- The first of 6 to 8 that applies to record number c, or 0. 6: id not below T; 7: start after end; 8: size below 4, not a
-- multiple of 4, or above 4 × (record number + 1).
unfoldable pub own_fault : (T c i s e n : ℕ) → ℕ
own_fault T c i s e n =
    cond (leb T i) 6
    (cond (ltb e s) 7
    (cond (ltb n record_width || (not (eqb (n % record_width) 0) || ltb (record_width * suc c) n)) 8 0))

-- do the last of the siblings hold exactly k records with their descendants?
unfoldable pub fills : Forest → (k : ℕ) → Bool
fills empty zero = true
fills empty (suc k) = false
fills (add before i s e kids) zero = true
fills (add before i s e kids) (suc k) = leb (count kids) k && fills before (k - count kids)

-- The first of 6 to 9 that applies to a record that follows those of `done`, or 0. 9: its span begins inside an earlier
-- record's span without covering it whole, so that no siblings fill it (specs/Nine has 9 by counting words, and
-- proofs/NineExactly that it is the same).
unfoldable pub record_fault : (T : ℕ) (done : Forest) (i s e n : ℕ) → ℕ
record_fault T done i s e n =
    elim (own_fault T (count done) i s e n) [
      | suc r ↦ suc r
      | zero ↦ cond (fills done (descendants n)) 0 9
    ]

-- 6 to 9 in this order, record by record, for the records that follow those of `done`.
unfoldable pub records_check : (T : ℕ) (done : Forest) → List ℕ → Outcome
records_check T done [] = accepted []
records_check T done (i ∷ []) = accepted []
records_check T done (i ∷ s ∷ []) = accepted []
records_check T done (i ∷ s ∷ e ∷ []) = accepted []
records_check T done (i ∷ s ∷ e ∷ n ∷ ws) =
    let k = descendants n in
    elim (record_fault T done i s e n) [
      | suc r ↦ refused (suc r) (count done)
      | zero ↦ records_check T (add (farther done k) i s e (nearest done k)) ws
    ]

-- 10 does not apply to a record from s to e: its range stays within lo to hi, and it starts at or after `after`.
unfoldable pub in_place : (lo hi after s e : ℕ) → Bool
in_place lo hi after s e = leb lo s && (leb after s && leb e hi)

-- the first of two answers
unfoldable pub or_else : Option ℕ → Option ℕ → Option ℕ
or_else None o = o
or_else (Some n) o = Some n

-- 10: the lowest record of a forest, numbered from c on, under a parent from lo to hi: "a child's range leaves its parent's, or a
-- record starts before its preceding sibling's end".
unfoldable pub range_fault : (lo hi c : ℕ) → Forest → Option ℕ
range_fault lo hi c empty = None
range_fault lo hi c (add before i s e kids) =
    let c' = c + count before in
    or_else (range_fault lo hi c before)
    (or_else (range_fault s e c' kids)
    (elim (in_place lo hi (behind lo before) s e) [ true ↦ None | false ↦ Some (c' + count kids) ]))

-- 10 in a whole list: "a first-level record starts before S". It may end anywhere: ends are 32-bit words.
unfoldable pub list_range_fault : (S : ℕ) → List ℕ → Option ℕ
list_range_fault S ws = range_fault S 4294967295 0 (parse ws)

-- 10, lowest record first; without one the count of records.
abbrev pub range_outcome : (records : ℕ) → Option ℕ → Outcome
range_outcome records None = accepted (records ∷ [])
range_outcome records (Some c) = refused 10 c

-- 6 to 9, then 10.
unfoldable pub list_check : (T S : ℕ) → List ℕ → Outcome
list_check T S ws = unless_refused (records_check T empty ws) (range_outcome (length ws / record_width) (list_range_fault S ws))

-- The check. 1: T above 65,536; 2: b above 65,535; 3: top id not below T; 4: length not a multiple of 4; 5: over 1,048,576
-- records; 11: work slice (of `work` words) below 96 × records + 96 words.
unfoldable pub check : (T b top S work : ℕ) → List ℕ → Outcome
check T b top S work ws =
    cond (ltb 65536 T) (refused 1 0)
    (cond (ltb 65535 b) (refused 2 0)
    (cond (leb T top) (refused 3 0)
    (cond (not (eqb (length ws % record_width) 0)) (refused 4 0)
    (cond (ltb 1048576 (length ws / record_width)) (refused 5 0)
    (cond (ltb work (96 * (length ws / record_width) + 96)) (refused 11 0)
    (list_check T S ws))))))

-- "A list is accepted, under the numbers given with it, where none of 1 to 10 applies."
pub record Accepted (T b top S : ℕ) (ws : List ℕ) : Type 0 where
  pub types : T ≤ 65536
  pub bound : b ≤ 65535
  pub top_known : top < T
  pub whole : length ws % record_width ≡ 0
  pub few : length ws / record_width ≤ 1048576
  pub records : records_check T empty ws ≡ accepted []
  pub ranges : list_range_fault S ws ≡ None

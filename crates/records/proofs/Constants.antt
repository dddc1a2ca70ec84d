-- The check's constants from both sides: one less or one more in the definition would break a law here. By computation, and for
-- 1,048,576 by the length alone.
-- Assumes nothing.
use mathlib.Core.Path.{◌≡◌, refl}
use mathlib.Core.List.{List, [], ◌∷◌}
use mathlib.Core.Bool.{cond}
use Prim.Native.Nat.{ℕ, zero, suc}
use lib.Dec.{ltb}
use lib.ListN.{length}
use Rattle.words.specs.Outcome.{accepted, refused}
use Rattle.records.specs.Forest.{count, behind}
use Rattle.records.specs.Parse.{nearest, farther, parse_from, parse}
use Rattle.records.specs.Check.{own_fault, fills, record_fault, records_check, in_place, or_else, range_fault, list_range_fault, list_check, check}

-- "1: T above 65,536"; "2: b above 65,535"; "3: top id not below T"
pub grammar_limits :
    (check 65536 65535 65535 0 96 [] ≡ accepted (0 ∷ [])) × (check 65537 0 0 0 96 [] ≡ refused 1 0)
    × (check 1 65536 0 0 96 [] ≡ refused 2 0) × (check 65536 0 65536 0 96 [] ≡ refused 3 0)
unfolding check list_check list_range_fault range_fault records_check parse parse_from
grammar_limits = (refl, refl, refl, refl)

-- "11: work slice below 96 × items + 96 words"
pub work_limits :
    (check 1 0 0 0 95 [] ≡ refused 11 0) × (check 1 0 0 0 96 [] ≡ accepted (0 ∷ []))
    × (check 1 0 0 0 191 (0 ∷ 0 ∷ 0 ∷ 4 ∷ []) ≡ refused 11 0) × (check 1 0 0 0 192 (0 ∷ 0 ∷ 0 ∷ 4 ∷ []) ≡ accepted (1 ∷ []))
unfolding check list_check list_range_fault range_fault or_else in_place records_check record_fault fills own_fault parse parse_from nearest farther behind count
work_limits = (refl, refl, refl, refl)

-- "4: length not a multiple of 4"; 32 bits hold an end of 4,294,967,295
pub word_limits :
    (check 1 0 0 0 192 (0 ∷ 0 ∷ 0 ∷ []) ≡ refused 4 0) × (check 1 0 0 0 192 (0 ∷ 0 ∷ 0 ∷ 4 ∷ 0 ∷ []) ≡ refused 4 0)
    × (check 1 0 0 0 192 (0 ∷ 0 ∷ 4294967295 ∷ 4 ∷ []) ≡ accepted (1 ∷ []))
unfolding check list_check list_range_fault range_fault or_else in_place records_check record_fault fills own_fault parse parse_from nearest farther behind count
word_limits = (refl, refl, refl)

-- the list of record c, of the given size, behind c empty ones of 4 words
unfoldable pub behind_empty : (c size : ℕ) → List ℕ
behind_empty zero size = 0 ∷ 0 ∷ 0 ∷ size ∷ []
behind_empty (suc c) size = 0 ∷ 0 ∷ 0 ∷ 4 ∷ behind_empty c size

-- "8: size below 4, not a multiple of 4, or above 4 × (record number + 1)"
pub size_limits :
    (check 1 0 0 0 480 (behind_empty 0 0) ≡ refused 8 0) × (check 1 0 0 0 480 (behind_empty 0 4) ≡ accepted (1 ∷ []))
    × (check 1 0 0 0 480 (behind_empty 1 5) ≡ refused 8 1) × (check 1 0 0 0 480 (behind_empty 1 6) ≡ refused 8 1)
    × (check 1 0 0 0 480 (behind_empty 3 16) ≡ accepted (4 ∷ [])) × (check 1 0 0 0 480 (behind_empty 3 20) ≡ refused 8 3)
unfolding behind_empty check list_check list_range_fault range_fault or_else in_place records_check record_fault fills own_fault parse parse_from nearest farther behind count
size_limits = (refl, refl, refl, refl, refl, refl)

-- "5: over 1,048,576 records": so many are looked at, where the work slice has 96 × 1,048,576 + 96 words; one more is refused
pub most_records : (S work : ℕ) (ws : List ℕ) → length ws ≡ 4194304 → check 1 0 0 S work ws ≡ cond (ltb work 100663392) (refused 11 0) (list_check 1 S ws)
unfolding check
most_records S work ws e = rw e

pub one_record_more : (S work : ℕ) (ws : List ℕ) → length ws ≡ 4194308 → check 1 0 0 S work ws ≡ refused 5 0
unfolding check
one_record_more S work ws e = rw e

-- The part check of document 01: 1, 16, then 17 to 20 record by record.
-- A part is a list of words, four to a record: id, start, end, end index. Record i stands at word offset i * 4, which is
-- the place of a refusal at it.
use Rattle.std.specs.Prelude.{ℕ, suc, zero, ◌+◌, ◌*◌, ◌/◌, ◌%◌, max, List, [], ◌∷◌, Bool, false, cond, not, ◌&&◌, ◌||◌, length, ltb, leb, eqb}
use Rattle.words.specs.Outcome.{Outcome, accepted, refused}
use Rattle.words.specs.Words.{id_of, start_of, end_of, last_of, record_width}

-- the end index of record i: the word offset behind its last descendant
abbrev pub end_index : List ℕ → ℕ → ℕ
end_index w i = last_of w i

-- 17: id not below T; 18: start after end; 19: end index below offset + 4, above the length, or not a multiple of 4; or 0
unfoldable pub own_fault : List ℕ → ℕ → ℕ → ℕ
own_fault w types i =
    cond (leb types (id_of w i)) 17
    (cond (ltb (end_of w i) (start_of w i)) 18
    (cond (ltb (end_index w i) (i * record_width + record_width)) 19
    (cond (ltb (length w) (end_index w i)) 19
    (cond (not (eqb (end_index w i % record_width) 0)) 19 0))))

-- 20: whether e is above the end index of one of the first n records that encloses the offset `at`
unfoldable pub crosses : List ℕ → ℕ → ℕ → ℕ → Bool
crosses w zero at e = false
crosses w (suc n) at e = (ltb at (end_index w n) && ltb (end_index w n) e) || crosses w n at e

-- the first of 17 to 20 at record i, or 0
unfoldable pub fault : List ℕ → ℕ → ℕ → ℕ
fault w types i =
    cond (eqb (own_fault w types i) 0)
    (cond (crosses w i (i * record_width) (end_index w i)) 20 0)
    (own_fault w types i)

-- "the greatest end of any record (0 for an empty part)"
unfoldable pub greatest_end : List ℕ → ℕ
greatest_end (id ∷ start ∷ end ∷ index ∷ rest) = max end (greatest_end rest)
greatest_end [] = 0
greatest_end (id ∷ []) = 0
greatest_end (id ∷ start ∷ []) = 0
greatest_end (id ∷ start ∷ end ∷ []) = 0

-- how many of the first n records enclose the offset `at`
unfoldable pub enclosing : List ℕ → ℕ → ℕ → ℕ
enclosing w zero at = 0
enclosing w (suc n) at = cond (ltb at (end_index w n)) 1 0 + enclosing w n at

-- the deepest nesting of `left` records from record i on: "1 for records held by no other"
unfoldable pub deepest_from : List ℕ → ℕ → ℕ → ℕ
deepest_from w i zero = 0
deepest_from w i (suc left) = max (enclosing w i (i * record_width) + 1) (deepest_from w (i + 1) left)

-- "its deepest nesting (1 for records held by no other, 0 for an empty part)"
abbrev pub deepest_nesting : List ℕ → ℕ
deepest_nesting w = deepest_from w 0 (length w / record_width)

-- the counts of a part: its records, the greatest end of any record, its deepest nesting
abbrev pub part_counts : List ℕ → List ℕ
part_counts w = length w / record_width ∷ greatest_end w ∷ deepest_nesting w ∷ []

-- the first fault among `left` records from record i on; without one the counts of the part
unfoldable pub faults_from : List ℕ → ℕ → ℕ → ℕ → Outcome
faults_from w types i zero = accepted (part_counts w)
faults_from w types i (suc left) =
    let rest = faults_from w types (i + 1) left in
    cond (eqb (fault w types i) 0) rest (refused (fault w types i) (i * record_width))

-- the part check: T above 65,536; length not a multiple of 4; then record by record
unfoldable pub part_check : List ℕ → ℕ → Outcome
part_check w types =
    cond (ltb 65536 types) (refused 1 0)
    (cond (not (eqb (length w % record_width) 0)) (refused 16 0)
    (faults_from w types 0 (length w / record_width)))

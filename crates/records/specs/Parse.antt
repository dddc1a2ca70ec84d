-- A list of words read as a forest.
use Rattle.std.specs.Prelude.{List, [], ◌∷◌, ℕ, zero, suc, ◌-◌, ◌/◌}
use Rattle.words.specs.Words.{record_width}
use Rattle.records.specs.Forest.{Forest, empty, add, count}

-- how many descendants a record of size n has: "a record's span is the size words ending with its last"
abbrev pub descendants : (n : ℕ) → ℕ
descendants n = (n - record_width) / record_width

-- Of siblings, the last ones, which hold k records with their descendants; and those before them.
unfoldable pub nearest : Forest → (k : ℕ) → Forest
nearest empty k = empty
nearest (add before i s e kids) zero = empty
nearest (add before i s e kids) (suc k) = add (nearest before (k - count kids)) i s e kids

unfoldable pub farther : Forest → (k : ℕ) → Forest
farther empty k = empty
farther (add before i s e kids) zero = add before i s e kids
farther (add before i s e kids) (suc k) = farther before (k - count kids)

-- The records that follow those of the forest `done`: each has the records inside its span as descendants. Words after the
-- last whole record are not read.
unfoldable pub parse_from : (done : Forest) → List ℕ → Forest
parse_from done [] = done
parse_from done (i ∷ []) = done
parse_from done (i ∷ s ∷ []) = done
parse_from done (i ∷ s ∷ e ∷ []) = done
parse_from done (i ∷ s ∷ e ∷ n ∷ ws) =
    let k = descendants n in
    parse_from (add (farther done k) i s e (nearest done k)) ws

unfoldable pub parse : List ℕ → Forest
parse ws = parse_from empty ws

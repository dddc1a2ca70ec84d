-- The records under one parent as the build meets them: "reading runs from the last record back".
use Rattle.std.specs.Prelude.{Bool, true, false, ℕ, zero, suc, ◌+◌, ◌*◌, ltb, eqb}
use Rattle.std.specs.Prelude.{Option, None, Some}
use Rattle.words.specs.Words.{record_width}
use Rattle.records.specs.Forest.{Forest, empty, add, count}

-- "Directly under a repeat tree, a record of its id counts alone": it is a `mark`, with its size in words, and what
-- stands in it follows. Any other record is a `span`, with the items of its children. The last one comes first.
pub data Items : Type 0 where
  nil : Items
  mark : (id start end size : ℕ) (rest : Items) → Items
  span : (id start end : ℕ) (kids rest : Items) → Items

-- the repeat id that the children of a record of id i stand under: "ids from F up are repeat records"
unfoldable pub repeats : (F i : ℕ) → Option ℕ
repeats F i = elim (ltb i F) [ true ↦ None | false ↦ Some i ]

-- is i the repeat id of the parent?
unfoldable pub same : (own : Option ℕ) → (i : ℕ) → Bool
same None i = false
same (Some r) i = eqb r i

-- the items of records under a parent of the repeat id `own`, in front of the items `acc`
unfoldable pub items : (F : ℕ) (own : Option ℕ) → Forest → (acc : Items) → Items
items F own empty acc = acc
items F own (add before i s e kids) acc =
    elim (same own i) [
      | true ↦ mark i s e (record_width * suc (count kids)) (items F own kids (items F own before acc))
      | false ↦ span i s e (items F (repeats F i) kids nil) (items F own before acc)
    ]

-- how many records there are
unfoldable pub records : Items → ℕ
records nil = 0
records (mark i s e n rest) = suc (records rest)
records (span i s e kids rest) = suc (records kids + records rest)

-- the first k items
unfoldable pub first : (k : ℕ) → Items → Items
first zero its = nil
first (suc k) nil = nil
first (suc k) (mark i s e n rest) = mark i s e n (first k rest)
first (suc k) (span i s e kids rest) = span i s e kids (first k rest)

-- "the start of the run's span walked last (records counted alone aside, other repeat spans not)", or q
unfoldable pub leftmost : (q : ℕ) → Items → ℕ
leftmost q nil = q
leftmost q (mark i s e n rest) = leftmost q rest
leftmost q (span i s e kids rest) = leftmost s rest

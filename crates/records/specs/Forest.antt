-- The forest that a record list stands for: its words, its levels, its ranges and its ordinary reading.
use Rattle.std.specs.Prelude.{true, false, List, [], ◌∷◌, ◌++◌, ℕ, suc, ◌+◌, ◌*◌, ◌≤◌, ◌<◌, max, ltb}
use Rattle.words.specs.Words.{record_width}

-- Siblings, from the last one back: each has an id, a start, an end and its children. This is the order in which a list is
-- read from its last record on.
pub data Forest : Type 0 where
  empty : Forest
  add : (before : Forest) (id start end : ℕ) (kids : Forest) → Forest

-- how many records there are
unfoldable pub count : Forest → ℕ
count empty = 0
count (add before i s e kids) = suc (count kids + count before)

-- the words of the list: "a record as id, start, end, size, children before parents; size counts the words of the node and
-- its descendants"
unfoldable pub postfix : Forest → List ℕ
postfix empty = []
postfix (add before i s e kids) = postfix before ++ (postfix kids ++ (i ∷ s ∷ e ∷ record_width * suc (count kids) ∷ []))

-- the highest level, 0 if empty: "a record's level counts itself and the spans holding it"
unfoldable pub levels : Forest → ℕ
levels empty = 0
levels (add before i s e kids) = max (suc (levels kids)) (levels before)

-- where the last sibling ends, or lo if there is none
unfoldable pub behind : (lo : ℕ) → Forest → ℕ
behind lo empty = lo
behind lo (add before i s e kids) = e

-- Ids are below T and ranges nested and ordered from lo to hi: none starts after its end, a child's stays within its parent's,
-- and each starts at or after its preceding sibling's end.
abbrev pub Nested : (T lo hi : ℕ) → Forest → Type 0
Nested T lo hi empty = lo ≤ hi
Nested T lo hi (add before i s e kids) =
    record { known : i < T; ordered : s ≤ e; ends : e ≤ hi; inner : Nested T s e kids; earlier : Nested T lo s before }

-- A record's own line, at depth d, if it is ordinary: "ids from F up are repeat records, the rest ordinary".
unfoldable pub line : (F d i s e : ℕ) → List ℕ
line F d i s e = elim (ltb i F) [ true ↦ d ∷ i ∷ s ∷ e ∷ [] | false ↦ [] ]

-- the depth of its children: "depth (ordinary records around it)"
unfoldable pub depth_below : (F d i : ℕ) → ℕ
depth_below F d i = elim (ltb i F) [ true ↦ suc d | false ↦ d ]

-- "The ordinary reading lists the ordinary records, parents before children and siblings in list order, as lines of depth,
-- id, start, end": d is the depth of the first level.
unfoldable pub reading : (F d : ℕ) → Forest → List ℕ
reading F d empty = []
reading F d (add before i s e kids) = reading F d before ++ (line F d i s e ++ reading F (depth_below F d i) kids)

-- The scan, and the packing of a run.
use Rattle.std.specs.Prelude.{Bool, true, false, ◌&&◌, List, [], ◌∷◌, ◌++◌, ℕ, suc, ◌+◌, ◌-◌, ◌*◌, ltb, leb}
use Rattle.std.specs.Prelude.{Option, None, Some}
use Rattle.std.specs.Option.{option_map}
use Rattle.words.specs.Words.{record_width}
use Rattle.tree.specs.Trees.{Trees, part}
use Rattle.tree.specs.Items.{Items, nil, mark, span, records, first, leftmost}

-- the words that a record of id i takes in a part: a repeat record takes none
unfoldable pub width : (F i : ℕ) → ℕ
width F i = elim (ltb i F) [ true ↦ record_width | false ↦ 0 ]

-- a run's "words without repeat records"
unfoldable pub words : (F : ℕ) → Items → ℕ
words F nil = 0
words F (mark i s e n rest) = words F rest
words F (span i s e kids rest) = words F rest + (width F i + words F kids)

-- Where the walk stops before a span: "the run is the whole walk if the parent is no repeat tree", which ends here;
-- else nothing is noted from here on.
unfoldable pub stopped : (own : Option ℕ) → Option ℕ
stopped None = Some 0
stopped (Some r) = None

-- a span that starts at s "starts earlier than" the limit
unfoldable pub early : (s limit : ℕ) → Bool
early s limit = ltb s limit

-- How many of these items the run takes up, or none where no run was noted from here on. "The walk stops before a span
-- that starts earlier than" the limit. Of a record counted alone "its start is not tested, and the run before it is
-- noted". A walk that reaches the parent's span start is the run.
unfoldable pub scan : (own : Option ℕ) (limit : ℕ) → Items → Option ℕ
scan own limit nil = Some 0
scan own limit (mark i s e n rest) = elim (scan own limit rest) [ None ↦ Some 0 | Some k ↦ Some (suc k) ]
scan own limit (span i s e kids rest) = elim (early s limit) [ true ↦ stopped own | false ↦ option_map suc (scan own limit rest) ]

-- "a run above 4 words"
unfoldable pub long : Items → Bool
long run = ltb record_width (record_width * records run)

-- "A run above 4 words packs if its words without repeat records are at most 65,532."
unfoldable pub packs : (F : ℕ) → Items → Bool
packs F run = long run && leb (words F run) 65532

-- The run that packs and begins with a span: how many of the items behind that span it takes up. "For a record no
-- longer than b, a scan answers a run or nothing"; the limit is "the first record's end − b (at least 0)".
unfoldable pub run_from : (F b : ℕ) (own : Option ℕ) (i s e : ℕ) (kids rest : Items) → Option ℕ
run_from F b own i s e kids rest =
    elim (leb (e - s) b) [
      | false ↦ None
      | true ↦ elim (scan own (e - b) rest) [
        | None ↦ None
        | Some k ↦ elim (packs F (span i s e kids (first k rest))) [ true ↦ Some k | false ↦ None ]
      ]
    ]

-- "Packed record: id, start and end from the part's start, end index": in a part that starts at p, for a record at word
-- `off` whose descendants take n words.
unfoldable pub entry : (F p off i s e n : ℕ) → List ℕ
entry F p off i s e n = elim (ltb i F) [ true ↦ i ∷ (s - p) ∷ (e - p) ∷ (off + record_width + n) ∷ [] | false ↦ [] ]

-- the words of a run in a part that starts at p, from word `off` on: "parents first"
unfoldable pub pack : (F p off : ℕ) → Items → List ℕ
pack F p off nil = []
pack F p off (mark i s e n rest) = pack F p off rest
pack F p off (span i s e kids rest) =
    let at = off + words F rest in
    pack F p off rest ++ (entry F p at i s e (words F kids) ++ pack F p (at + width F i) kids)

-- The part of a run, in front of the trees ts: a span from s to e, which is read first, and the items `more` behind it.
-- "Position is the start of the run's span walked last", "length runs to the end of the first record walked".
unfoldable pub run_part : (F i s e : ℕ) (kids more : Items) → Trees → Trees
run_part F i s e kids more ts =
    let p = leftmost s more in
    part p (e - p) (pack F p 0 (span i s e kids more)) ts

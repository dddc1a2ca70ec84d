-- The steps of a scan in numbers. Only internal functions cite these.
use Rattle.std.specs.Prelude.{Bool, false, cond, ◌&&◌, not, List, ℕ, ◌-◌, ◌*◌, min, ltb, leb, get_or, Option, None, Some, Result, Ok, Err}
use Rattle.words.specs.Words.{record_width}
use Rattle.scan.specs.declared.BufferScan.{BufferScan}
use Rattle.scan.specs.declared.Memo.{Memo}

-- the memo to go on from: where nothing is remembered the walk begins at `at`; a mark not before `at` is no mark
abbrev pub resumed : (at : ℕ) → Memo → Memo
resumed at m =
    cond (ltb m.place at)
    (record { place = m.place; start = m.start; mark = min m.mark at; edge = m.edge })
    (record { place = at; start = 0; mark = at; edge = 0 })

-- the run from one place up to another, by the counts
abbrev pub between : (l : List ℕ) (from at start : ℕ) → BufferScan
between l from at start = record { size = (at - from) * record_width; start = start; skip = get_or l at 0 - get_or l from 0 }

-- "a run above 4 words packs if its words without repeat records are at most 65,532"
unfoldable pub packable : (size skip : ℕ) → Bool
packable size skip = ltb record_width size && leb (size - skip) 65532

-- nothing can pack any more: the ordinary words seen are too many, and the run noted last does not pack
unfoldable pub settles : (l : List ℕ) (at : ℕ) → Memo → Bool
settles l at m =
    let seen = between l m.place at m.start in
    let noted = between l m.mark at m.edge in
    cond (leb (seen.size - seen.skip) 65532) false (not (packable noted.size noted.skip))

abbrev pub decided : BufferScan → Memo → Result BufferScan Memo
decided t m = cond (packable t.size t.skip) (Ok t) (Err m)

-- the run where the walk stops before a span that starts too early: all that was seen, or under a repeat tree the last noted
abbrev pub stopped_at : Option ℕ → (seen noted : BufferScan) → BufferScan
stopped_at None seen noted = seen
stopped_at (Some id) seen noted = noted

-- the answer after a walk: "the run is the whole walk if the parent is no repeat tree or the walk reached its limit, else the
-- last noted"
abbrev pub chosen : (own : Option ℕ) (l : List ℕ) (lo at : ℕ) → Memo → Result BufferScan Memo
chosen own l lo at m =
    let seen = between l m.place at m.start in
    let noted = between l m.mark at m.edge in
    cond (leb m.place lo) (decided seen m) (decided (stopped_at own seen noted) m)

-- What packing a run and taking it ask and give. Only internal functions cite these.
use Rattle.std.specs.Prelude.{◌≡◌, List, ℕ, ◌+◌, ◌-◌, ◌*◌, ◌/◌, ◌%◌, ◌≤◌, length, Option, None, Some, Result, Ok, Err}
use Rattle.words.specs.Words.{put, record_width}
use Rattle.tree.specs.Items.{Items, span, records, first, leftmost}
use Rattle.tree.specs.Pack.{words, pack}
use Rattle.cursor.specs.Spells.{Stands}
use Rattle.scan.specs.Walked.{Remembered, Scans}
use Rattle.scan.specs.declared.BufferScan.{BufferScan}
use Rattle.scan.specs.declared.Memo.{Memo}
use Rattle.pack.specs.declared.Part.{Part}
use Rattle.tree.specs.Ordered.{From, Fits}

-- the words `ws` stand from `low` up to `high`, and nothing else is changed
pub record Filled (l l' : List ℕ) (low high : ℕ) (ws : List ℕ) : Type 0 where
  pub room : low + length ws ≡ high
  pub is : l' ≡ put l low ws

-- a run of items that ends behind record p - 1, as a scan has measured it
pub record Runs (F : ℕ) (own : Option ℕ) (w : List ℕ) (p : ℕ) (t : BufferScan) (run : Items) : Type 0 where
  pub reach : t.size ≤ p * record_width
  pub begins : t.size % record_width ≡ 0
  pub stands : Stands F own w (p - t.size / record_width) p run
  pub from : From t.start run
  pub few : t.skip ≤ t.size
  pub sized : t.size - t.skip ≡ words F run

-- there is such a run, with room for its words below `low`
pub record Packable (F : ℕ) (w : List ℕ) (p : ℕ) (t : BufferScan) (l : List ℕ) (low : ℕ) : Type 0 where
  pub own : Option ℕ
  pub run : Items
  pub runs : Runs F own w p t run
  pub short : words F run ≤ 65532
  pub enough : words F run ≤ low
  pub inside : low ≤ length l

-- What taking a span needs: all that a scan needs, it and the items before it in order and nested, and room for their packed
-- words below `low`.
pub record Takable (F : ℕ) (own : Option ℕ) (w : List ℕ) (lo p bound : ℕ) (memo : Memo) (l : List ℕ) (low : ℕ) : Type 0 where
  pub T : ℕ
  pub from : ℕ
  pub to : ℕ
  pub i : ℕ
  pub s : ℕ
  pub e : ℕ
  pub kids : Items
  pub rest : Items
  pub scans : Scans F own w l lo p bound memo i s e kids rest
  pub fits : Fits F T from to (span i s e kids rest)
  pub enough : words F (span i s e kids rest) ≤ low
  pub inside : low ≤ length l

-- The run of k items behind the span is staged below `low` and described; or nothing is changed, and what the scan walked is
-- remembered.
abbrev pub Takes : (F bound i s e : ℕ) (kids rest : Items) (p : ℕ) (l : List ℕ) (low : ℕ) → Option ℕ → (r : Result Part Memo) (l' : List ℕ) → Type 0
Takes F bound i s e kids rest p l low None r l' =
    (m : Memo) × (r ≡ Err m) × Remembered p (span i s e kids rest) (e - bound) m × (l' ≡ l)
Takes F bound i s e kids rest p l low (Some k) r l' =
    let run = span i s e kids (first k rest) in
    let start = leftmost s (first k rest) in
    (r ≡ Ok (record { p = p - records run; low = low - words F run; start = start; length = e - start }))
    × Filled l l' (low - words F run) low (pack F start 0 run)

-- What a scan answers. Only internal functions cite this.
use Rattle.std.specs.Prelude.{◌≡◌, ℕ, ◌-◌, ◌*◌, Option, None, Some, Result, Ok, Err}
use Rattle.words.specs.Words.{record_width}
use Rattle.tree.specs.Items.{Items, span, records, first, leftmost}
use Rattle.tree.specs.Pack.{words}
use Rattle.scan.specs.Walked.{Remembered}
use Rattle.scan.specs.declared.BufferScan.{BufferScan}
use Rattle.scan.specs.declared.Memo.{Memo}

-- a run in words: all of them, where its leftmost span starts, and the words of its repeat records
unfoldable pub measured : (F : ℕ) (start : ℕ) (run : Items) → BufferScan
measured F start run = record { size = record_width * records run; start = start; skip = record_width * records run - words F run }

-- "A scan answers a run or nothing": the run of k items behind the span, measured; or nothing, and how far the walk got, with
-- the limit that it kept.
abbrev pub Found : (F at limit i s e : ℕ) (kids rest : Items) → Option ℕ → Result BufferScan Memo → Type 0
Found F at limit i s e kids rest None r = (m : Memo) × (r ≡ Err m) × Remembered at (span i s e kids rest) limit m
Found F at limit i s e kids rest (Some k) r = r ≡ Ok (measured F (leftmost s (first k rest)) (span i s e kids (first k rest)))

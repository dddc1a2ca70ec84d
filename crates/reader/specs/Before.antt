-- The records that a reader reads: the last one before its place, and all before it. Nothing here is needed to read what a call promises.
use Rattle.std.specs.Prelude.{Option, None, List, [], ◌∷◌, ℕ, zero, suc, ◌≡◌, ◌-◌, ◌*◌, ◌<◌, ◌≤◌, length}
use Rattle.std.specs.Iterator.{YieldsFirst}
use Rattle.words.specs.Words.{record_width}
use Rattle.records.specs.OneRecord.{record_of}
use Rattle.reader.specs.declared.Record.{Record}
use Rattle.reader.specs.declared.Reader.{Reader}

-- there is a record before place p, and it stands in the list whole
abbrev pub Readable : List ℕ → ℕ → Type 0
Readable w p = (0 < p) × (p * record_width ≤ length w)

-- it, and the place before it
abbrev pub record_before : List ℕ → ℕ → Record
record_before w p = record { own = record_of w (p - 1); before = p - 1 }

-- the records before place p, from the last one back
abbrev pub records_before : List ℕ → ℕ → List Record
records_before w zero = []
records_before w (suc p) = record_before w (suc p) ∷ records_before w p

-- what one step of a reader does: it goes one back on the same list, and gives the record before its place, if one stands there whole
pub record StepsBack (s : Reader) (next : Option Record) (t : Reader) : Type 0 where
  pub same : t.records ≡ s.records
  pub back : t.at ≡ s.at - 1
  pub first : s.at * record_width ≤ length s.records.now → YieldsFirst (λ r. records_before r.records.now r.at) s next t
  pub none : length s.records.now < s.at * record_width → next ≡ None

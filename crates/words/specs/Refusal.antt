-- The numbers and places of the refusals, and the outcome that a call's answer says.
use Rattle.std.specs.Prelude.{ℕ, List}
use Rattle.std.specs.declared.result.Result.{Result}
use Rattle.std.specs.declared.result.Result.TheVariants.{Ok, Err}
use Rattle.words.specs.Outcome.{Outcome, accepted, refused}
use Rattle.words.specs.declared.refusal.RecordFault.{RecordFault}
use Rattle.words.specs.declared.refusal.PackedFault.{PackedFault}
use Rattle.words.specs.declared.refusal.Refusal.{Refusal}

-- of a record of a list: id not below T; start after end; size; span; place
abbrev pub list_number : RecordFault → ℕ
list_number RecordFault.Id = 6
list_number RecordFault.Range = 7
list_number RecordFault.Size = 8
list_number RecordFault.Span = 9
list_number RecordFault.Place = 10

-- of a packed record: id not below T; start after end; end index; end index above an enclosing record's
abbrev pub packed_number : PackedFault → ℕ
packed_number PackedFault.Id = 17
packed_number PackedFault.Range = 18
packed_number PackedFault.EndIndex = 19
packed_number PackedFault.Nesting = 20

-- "the place is the offender, or 0 where none is named"
abbrev pub refused_by : Refusal → Outcome
refused_by Refusal.ManyTypes = refused 1 0
refused_by Refusal.WideBound = refused 2 0
refused_by Refusal.TopId = refused 3 0
refused_by Refusal.UnevenList = refused 4 0
refused_by Refusal.ManyRecords = refused 5 0
refused_by (Refusal.Record fault i) = refused (list_number fault) i
refused_by Refusal.LittleWork = refused 11 0
refused_by Refusal.LittleCells = refused 12 0
refused_by Refusal.LittleWords = refused 13 0
refused_by Refusal.LittleLines = refused 14 0
refused_by (Refusal.Cell c) = refused 15 c
refused_by Refusal.UnevenPart = refused 16 0
refused_by (Refusal.Packed fault at) = refused (packed_number fault) at
refused_by Refusal.Bounds = refused 21 0
refused_by Refusal.UnevenBounds = refused 22 0
refused_by (Refusal.BaseAbove at) = refused 23 at
refused_by Refusal.NoWay = refused 24 0
refused_by (Refusal.FarEnd at) = refused 25 at

-- what an answer says: accepted, with the counts of its value, or refused
abbrev pub answered : {A : Type 0} → (counts : A → List ℕ) → Result A Refusal → Outcome
answered counts (Ok a) = accepted (counts a)
answered counts (Err r) = refused_by r

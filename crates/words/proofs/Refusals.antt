-- What is known of the numbers of refusals. Assumes nothing.
use Rattle.std.proofs.Common.{◌≡◌, arith}
use mathlib.Core.Path.{refl}
use Rattle.words.specs.Outcome.{refused, number_of, place_of}
use Rattle.words.specs.Refusal.{list_number, packed_number, refused_by}
use Rattle.words.specs.declared.refusal.RecordFault.{RecordFault}
use Rattle.words.specs.declared.refusal.PackedFault.{PackedFault}
use Rattle.words.specs.declared.refusal.Refusal.{Refusal}

-- the number of a fault is not that of none
pub some_packed_number : (fault : PackedFault) → packed_number fault ≡ 0 → ⊥
some_packed_number PackedFault.Id e = omega arith
some_packed_number PackedFault.Range e = omega arith
some_packed_number PackedFault.EndIndex e = omega arith
some_packed_number PackedFault.Nesting e = omega arith

pub some_list_number : (fault : RecordFault) → list_number fault ≡ 0 → ⊥
some_list_number RecordFault.Id e = omega arith
some_list_number RecordFault.Range e = omega arith
some_list_number RecordFault.Size e = omega arith
some_list_number RecordFault.Span e = omega arith
some_list_number RecordFault.Place e = omega arith

-- each refusal has a number and a place
pub told : (r : Refusal) → refused_by r ≡ refused (number_of (refused_by r)) (place_of (refused_by r))
told Refusal.ManyTypes = refl
told Refusal.WideBound = refl
told Refusal.TopId = refl
told Refusal.UnevenList = refl
told Refusal.ManyRecords = refl
told (Refusal.Record fault i) = refl
told Refusal.LittleWork = refl
told Refusal.LittleCells = refl
told Refusal.LittleWords = refl
told Refusal.LittleLines = refl
told (Refusal.Cell c) = refl
told Refusal.UnevenPart = refl
told (Refusal.Packed fault at) = refl
told Refusal.Bounds = refl
told Refusal.UnevenBounds = refl
told (Refusal.BaseAbove at) = refl
told Refusal.NoWay = refl
told (Refusal.FarEnd at) = refl

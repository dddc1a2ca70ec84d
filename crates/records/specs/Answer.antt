-- The number and counts that the answers of the check say.
use Rattle.std.specs.Prelude.{ℕ, List, [], ◌∷◌}
use Rattle.std.specs.declared.result.Result.{Result}
use Rattle.std.specs.declared.result.Result.TheVariants.{Ok, Err}
use Rattle.words.specs.Refusal.{list_number}
use Rattle.words.specs.declared.refusal.RecordFault.{RecordFault}

-- counts: "records for check"
abbrev pub record_count : ℕ → List ℕ
record_count n = n ∷ []

-- the number of a fault, 0 where there is none
abbrev pub number_or_none : {A : Type 0} → Result A RecordFault → ℕ
number_or_none (Ok a) = 0
number_or_none (Err fault) = list_number fault

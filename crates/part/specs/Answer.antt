-- The number, place and counts that the answers of the part check say.
use Rattle.std.specs.Prelude.{ℕ, List, [], ◌∷◌}
use Rattle.std.specs.declared.result.Result.{Result}
use Rattle.std.specs.declared.result.Result.TheVariants.{Ok, Err}
use Rattle.words.specs.Outcome.{Outcome, accepted, refused}
use Rattle.words.specs.Refusal.{packed_number}
use Rattle.words.specs.declared.refusal.PackedFault.{PackedFault}
use Rattle.part.specs.declared.Figures.{Figures}
use Rattle.part.specs.declared.BadRecord.{BadRecord}

-- the counts: "records, the greatest end of any record, its deepest nesting"
abbrev pub figures : Figures → List ℕ
figures f = f.records ∷ f.greatest ∷ f.deepest ∷ []

-- the number of a fault, 0 where there is none
abbrev pub number_or_none : {A : Type 0} → Result A PackedFault → ℕ
number_or_none (Ok a) = 0
number_or_none (Err fault) = packed_number fault

-- the outcome of a walk over records
abbrev pub outcome_of : Result Figures BadRecord → Outcome
outcome_of (Ok f) = accepted (figures f)
outcome_of (Err bad) = refused (packed_number bad.fault) bad.at

-- The number, place and counts that an answer of the run says, and how many of its calls are accepted.
use Rattle.std.specs.Prelude.{[], ◌∷◌, ℕ}
use Rattle.std.specs.declared.result.Result.{Result}
use Rattle.std.specs.declared.result.Result.TheVariants.{Ok, Err}
use Rattle.words.specs.Outcome.{Outcome, accepted}
use Rattle.words.specs.Refusal.{refused_by}
use Rattle.run.specs.declared.Figures.{Figures}
use Rattle.run.specs.declared.Stopped.{Stopped}

abbrev pub ran_outcome : Result Figures Stopped → Outcome
ran_outcome (Ok f) = accepted (f.cells ∷ f.words ∷ f.lines ∷ [])
ran_outcome (Err s) = refused_by s.refusal

abbrev pub ran_calls : Result Figures Stopped → ℕ
ran_calls (Ok f) = 2
ran_calls (Err s) = s.calls

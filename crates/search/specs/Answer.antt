-- The number, place and counts that an answer of the search says.
use Rattle.std.specs.Prelude.{ℕ, Option}
use Rattle.std.specs.declared.result.Result.{Result}
use Rattle.std.specs.declared.result.Result.TheVariants.{Ok, Err}
use Rattle.words.specs.Outcome.{Outcome}
use Rattle.words.specs.Refusal.{refused_by}
use Rattle.words.specs.declared.refusal.Refusal.{Refusal}
use Rattle.search.specs.Search.{match_counts}

abbrev pub searched_outcome : Result (Option ℕ) Refusal → Outcome
searched_outcome (Ok found) = match_counts found
searched_outcome (Err r) = refused_by r

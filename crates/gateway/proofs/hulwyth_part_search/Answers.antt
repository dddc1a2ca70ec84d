-- `gateway::hulwyth_part_search` meets its contract: what is told is what the call answers. Assumes nothing.
use Rattle.std.proofs.Common.{◌≡◌, ℤ, ℕ, Option, None, Some, Ok, Err, [], ◌∷◌}
use Rattle.std.specs.declared.result.Result.{Result}
use mathlib.Core.Path.{sym, ap, ap₂, ◌∙◌}
use mir.Facts.{to_z-of_z}
use Rattle.words.specs.Outcome.{accepted}
use Rattle.words.specs.declared.refusal.Refusal.{Refusal}
use Rattle.search.specs.Search.{search_part}
use Rattle.search.specs.Answer.{searched_outcome}
use Rattle.gateway.proofs.Telling.{told_as, told_refused}
use Rattle.gateway.proofs.hulwyth_part_search.Goals.{After-search}
use Rattle.gateway.proofs.hulwyth_part_search.Goals as goal

-- the answer is the outcome of the definition; a signed argument is its bits at the call
searched_at : (a : After-search) (v : Result (Option ℕ) Refusal) → a.search.result ≡ v → searched_outcome v ≡ search_part a.args.words.now a.args.types a.args.from a.args.to a.args.direction a.args.position a.args.base a.args.side
searched_at a v e = ap searched_outcome (sym e) ∙ a.search.ensures ∙ ap₂ (λ (d z : ℤ). search_part a.args.words.now a.args.types a.args.from a.args.to d a.args.position a.args.base z) (to_z-of_z a.ranges.direction) (to_z-of_z a.ranges.side)

pub returns-in-Ok-Some : goal.returns-in-Ok-Some
returns-in-Ok-Some c = told_as 2 _ (accepted (1 ∷ c.in-Ok-Some.at ∷ [])) _ _ (searched_at (goal.at.returns-in-Ok-Some c).After-search (Ok (Some c.in-Ok-Some.at)) (c.in-Ok-Some.is ∙ ap Ok c.in-Ok-Some.field-0-is)) c.tell.ensures

pub returns-in-Ok-None : goal.returns-in-Ok-None
returns-in-Ok-None c = told_as 2 _ (accepted (0 ∷ 0 ∷ [])) _ _ (searched_at (goal.at.returns-in-Ok-None c).After-search (Ok None) (c.in-Ok-None.is ∙ ap Ok c.in-Ok-None.field-0-is)) c.tell-in-Ok-None.ensures

pub returns-in-Err : goal.returns-in-Err
returns-in-Err c = rw c.refuse.ensures.number (told_refused _ c.in-Err.refusal _ _ (searched_at (goal.at.returns-in-Err c).After-search (Err c.in-Err.refusal) c.in-Err.is) c.refuse.ensures.place)

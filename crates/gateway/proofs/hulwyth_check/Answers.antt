-- `gateway::hulwyth_check` meets its contract: what is told is what the call answers. Assumes nothing.
use Rattle.std.proofs.Common.{[], ◌∷◌}
use mathlib.Core.Path.{sym, ap, ◌∙◌}
use Rattle.words.specs.Outcome.{accepted}
use Rattle.words.specs.Refusal.{answered}
use Rattle.records.specs.Answer.{record_count}
use Rattle.gateway.proofs.Telling.{told_as, told_refused}
use Rattle.gateway.proofs.hulwyth_check.Goals as goal

pub returns-in-Ok : goal.returns-in-Ok
returns-in-Ok c = told_as 2 _ (accepted (c.in-Ok.count ∷ [])) _ _ (ap (answered record_count) (sym c.in-Ok.is) ∙ c.check.ensures) c.tell.ensures

pub returns-in-Err : goal.returns-in-Err
returns-in-Err c = rw c.refuse.ensures.number (told_refused _ c.in-Err.refusal _ _ (ap (answered record_count) (sym c.in-Err.is) ∙ c.check.ensures) c.refuse.ensures.place)

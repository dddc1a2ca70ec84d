-- `gateway::hulwyth_part_check` meets its contract: what is told is what the call answers. Assumes nothing.
use Rattle.std.proofs.Common.{◌≡◌}
use mathlib.Core.Path.{refl, sym, ap, ◌∙◌}
use Rattle.words.specs.Outcome.{accepted, place_of, counts_of}
use Rattle.words.specs.Refusal.{answered, refused_by}
use Rattle.words.proofs.Refusals.{told}
use Rattle.part.specs.Answer.{figures}
use Rattle.gateway.proofs.Telling.{told_as}
use Rattle.gateway.proofs.hulwyth_part_check.Goals as goal

pub returns-in-Ok : goal.returns-in-Ok
returns-in-Ok c = told_as 3 _ (accepted (figures c.in-Ok.figures)) _ _ (ap (answered figures) (sym c.in-Ok.is) ∙ c.part_check.ensures) (c.tell.ensures ∙ rw c.from.ensures refl)

pub returns-in-Err : goal.returns-in-Err
returns-in-Err c =
    let r = c.in-Err.refusal in
    let place : c.place.result ≡ place_of (refused_by r) = c.place.ensures in
    let counts = ap counts_of (told r) in
    rw c.number.ensures (told_as 3 _ (refused_by r) _ _ (ap (answered figures) (sym c.in-Err.is) ∙ c.part_check.ensures) (c.tell-in-Err.ensures ∙ rw (place, counts) refl))

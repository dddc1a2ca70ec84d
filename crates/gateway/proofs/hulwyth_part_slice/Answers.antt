-- `gateway::hulwyth_part_slice` meets its contract: what is told is what the call answers. Assumes nothing.
use Rattle.std.proofs.Common.{[], ◌∷◌}
use Rattle.std.specs.declared.result.Result.{Result}
use mathlib.Core.Path.{refl, sym, ap, ◌∙◌}
use Rattle.words.specs.Outcome.{accepted}
use Rattle.words.specs.Refusal.{answered}
use Rattle.words.specs.declared.refusal.Refusal.{Refusal}
use Rattle.slicing.specs.Answer.{slice_counts}
use Rattle.slicing.specs.declared.Sliced.{Sliced}
use Rattle.gateway.proofs.Telling.{told_result_as, told_result_refused}
use Rattle.gateway.proofs.hulwyth_part_slice.Goals as goal

pub returns-in-Ok : goal.returns-in-Ok
returns-in-Ok c =
    let e = ap (λ (x : Result Sliced Refusal). record { outcome = answered slice_counts x; outputs = c.slice.new.out ∷ [] }) (sym c.in-Ok.is) ∙ c.slice.ensures in
    told_result_as 2 _ (accepted (slice_counts c.in-Ok.slice)) _ _ _ e (c.tell.ensures ∙ rw c.from.ensures refl)

pub returns-in-Err : goal.returns-in-Err
returns-in-Err c =
    let e = ap (λ (x : Result Sliced Refusal). record { outcome = answered slice_counts x; outputs = c.slice.new.out ∷ [] }) (sym c.in-Err.is) ∙ c.slice.ensures in
    rw c.refuse.ensures.number (told_result_refused _ c.in-Err.refusal _ _ _ e c.refuse.ensures.place)

-- `gateway::hulwyth_materialise` meets its contract: what is told is what the call answers. Assumes nothing.
use Rattle.std.proofs.Common.{ℕ, [], ◌∷◌}
use Rattle.std.specs.declared.result.Result.{Result}
use mathlib.Core.Path.{sym, ap, ◌∙◌}
use Rattle.words.specs.Outcome.{accepted}
use Rattle.words.specs.Refusal.{answered}
use Rattle.words.specs.declared.refusal.Refusal.{Refusal}
use Rattle.materialize.specs.Answer.{materialized_counts}
use Rattle.gateway.proofs.Telling.{told_result_as, told_result_refused}
use Rattle.gateway.proofs.hulwyth_materialise.Goals as goal

pub returns-in-Ok : goal.returns-in-Ok
returns-in-Ok c =
    let e = ap (λ (x : Result ℕ Refusal). record { outcome = answered materialized_counts x; outputs = c.materialize.new.out ∷ [] }) (sym c.in-Ok.is) ∙ c.materialize.ensures in
    told_result_as 2 _ (accepted (c.in-Ok.count ∷ 0 ∷ [])) _ _ _ e c.tell.ensures

pub returns-in-Err : goal.returns-in-Err
returns-in-Err c =
    let e = ap (λ (x : Result ℕ Refusal). record { outcome = answered materialized_counts x; outputs = c.materialize.new.out ∷ [] }) (sym c.in-Err.is) ∙ c.materialize.ensures in
    rw c.refuse.ensures.number (told_result_refused _ c.in-Err.refusal _ _ _ e c.refuse.ensures.place)

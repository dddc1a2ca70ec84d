-- `gateway::hulwyth_list` meets its contract: what is told is what the call answers. Assumes nothing.
use Rattle.std.proofs.Common.{ℕ, [], ◌∷◌}
use Rattle.std.specs.declared.result.Result.{Result}
use mathlib.Core.Path.{sym, ap, ◌∙◌}
use Rattle.words.specs.Outcome.{accepted}
use Rattle.words.specs.Refusal.{answered}
use Rattle.words.specs.declared.refusal.Refusal.{Refusal}
use Rattle.listing.specs.Answer.{listed_counts}
use Rattle.gateway.proofs.Telling.{told_result_as, told_result_refused}
use Rattle.gateway.proofs.hulwyth_list.Goals as goal

pub returns-in-Ok : goal.returns-in-Ok
returns-in-Ok c =
    let e = ap (λ (x : Result ℕ Refusal). record { outcome = answered listed_counts x; outputs = c.list.new.lines ∷ [] }) (sym c.in-Ok.is) ∙ c.list.ensures in
    told_result_as 2 _ (accepted (c.in-Ok.count ∷ [])) _ _ _ e c.tell.ensures

pub returns-in-Err : goal.returns-in-Err
returns-in-Err c =
    let e = ap (λ (x : Result ℕ Refusal). record { outcome = answered listed_counts x; outputs = c.list.new.lines ∷ [] }) (sym c.in-Err.is) ∙ c.list.ensures in
    rw c.refuse.ensures.number (told_result_refused _ c.in-Err.refusal _ _ _ e c.refuse.ensures.place)

-- `gateway::hulwyth_balance` meets its contract: what is told is what the call answers. Assumes nothing.
use Rattle.std.proofs.Common.{[], ◌∷◌}
use Rattle.std.specs.declared.result.Result.{Result}
use mathlib.Core.Path.{sym, ap, ◌∙◌}
use Rattle.words.specs.Outcome.{accepted}
use Rattle.words.specs.Refusal.{answered}
use Rattle.words.specs.declared.refusal.Refusal.{Refusal}
use Rattle.tree.specs.Written.{written_counts}
use Rattle.tree.specs.declared.Written.{Written}
use Rattle.gateway.proofs.Telling.{told_result_as, told_result_refused}
use Rattle.gateway.proofs.hulwyth_balance.Goals as goal

pub returns-in-Ok : goal.returns-in-Ok
returns-in-Ok c =
    let e = ap (λ (x : Result Written Refusal). record { outcome = answered written_counts x; outputs = c.balance.new.out ∷ c.balance.new.packed ∷ [] }) (sym c.in-Ok.is) ∙ c.balance.ensures in
    told_result_as 2 _ (accepted (written_counts c.in-Ok.written)) _ _ _ e c.tell.ensures

pub returns-in-Err : goal.returns-in-Err
returns-in-Err c =
    let e = ap (λ (x : Result Written Refusal). record { outcome = answered written_counts x; outputs = c.balance.new.out ∷ c.balance.new.packed ∷ [] }) (sym c.in-Err.is) ∙ c.balance.ensures in
    rw c.refuse.ensures.number (told_result_refused _ c.in-Err.refusal _ _ _ e c.refuse.ensures.place)

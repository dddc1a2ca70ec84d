-- `gateway::hulwyth_build` meets its contract: what is told is what the call answers. Assumes nothing.
use Rattle.std.proofs.Common.{ℕ, [], ◌∷◌}
use Rattle.std.specs.declared.result.Result.{Result}
use mathlib.Core.Path.{sym, ap, ◌∙◌}
use Rattle.words.specs.Outcome.{accepted}
use Rattle.words.specs.Refusal.{answered}
use Rattle.words.specs.declared.refusal.Refusal.{Refusal}
use Rattle.tree.specs.Written.{written_counts}
use Rattle.tree.specs.declared.Written.{Written}
use Rattle.gateway.proofs.Telling.{told_result_as, told_result_refused}
use Rattle.std.proofs.Common.{Option, length}
use Rattle.tree.specs.Calls.{build_call}
use Rattle.gateway.proofs.hulwyth_build.Goals as goal

pub returns-in-Ok : goal.returns-in-Ok
returns-in-Ok c =
    let e = ap (λ (x : Result Written Refusal). record { outcome = answered written_counts x; outputs = c.build.new.cells ∷ c.build.new.words ∷ [] }) (sym c.in-Ok.is) ∙ c.build.ensures ∙ ap (λ (o : Option ℕ). build_call c.args.types c.args.first_repeat c.args.bound c.args.start c.args.top o (length c.args.work.now) c.args.records.now c.args.cells.now c.args.words.now) c.given_length-last.ensures in
    told_result_as 2 _ (accepted (written_counts c.in-Ok.built)) _ _ _ e c.tell.ensures

pub returns-in-Err : goal.returns-in-Err
returns-in-Err c =
    let e = ap (λ (x : Result Written Refusal). record { outcome = answered written_counts x; outputs = c.build.new.cells ∷ c.build.new.words ∷ [] }) (sym c.in-Err.is) ∙ c.build.ensures ∙ ap (λ (o : Option ℕ). build_call c.args.types c.args.first_repeat c.args.bound c.args.start c.args.top o (length c.args.work.now) c.args.records.now c.args.cells.now c.args.words.now) c.given_length-last.ensures in
    rw c.refuse.ensures.number (told_result_refused _ c.in-Err.refusal _ _ _ e c.refuse.ensures.place)

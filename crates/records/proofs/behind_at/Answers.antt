-- `records::behind_at` meets its contract: the last of the first p records is the last sibling. Assumes nothing.
use mathlib.Core.Path.{sym, ap, ◌∙◌}
use Prim.Native.Nat.{ℕ}
use native.Mathlib.Omega.{arith}
use Rattle.records.specs.Forest.{behind}
use Rattle.records.specs.Parse.{nearest}
use Rattle.records.specs.Taking.{finished}
use Rattle.records.proofs.OneRecord.{end_is}
use Rattle.records.proofs.Spelling as S
use Rattle.records.proofs.behind_at.Goals as goal

pub returns-then-left-eq0 : goal.returns-then-left-eq0
returns-then-left-eq0 c = let a = c.args in
    sym (ap (λ (k : ℕ). behind a.lo (nearest (finished a.records.now a.p) k)) c.if-left-eq0.true ∙ S.behind_none (finished a.records.now a.p) a.lo)

pub returns : goal.returns
returns c =
    end_is _ _ c.record_at.ensures ∙ sym (S.behind_last c.args.records.now c.args.p c.requires.spelt c.args.left (omega arith) c.requires.left_le_p c.args.lo)

-- `gateway::put` meets its contract: a store past the end changes nothing. Assumes nothing.
use mathlib.Core.Path.{sym, ap}
use Prim.Native.Nat.{ℕ}
use lib.ListN.{set}
use lib.Seq.{set_out}
use Rattle.gateway.proofs.put.Goals as goal

pub returns-then-at-info : goal.returns-then-at-info
returns-then-at-info c = ap (λ (w : ℕ). set c.args.info.now c.args.at w) c.word.ensures

pub returns-else-at-info : goal.returns-else-at-info
returns-else-at-info c = sym (set_out _ _ _ c.if-at-info.false)

-- `store::copy_words` meets its contract: lists of equal length with equal words are the same. Assumes nothing.
use native.Mathlib.Omega.{arith}
use lib.Seq.{ext_get_or}
use Rattle.store.proofs.copy_words.Goals as goal

pub returns : goal.returns
returns c = ext_get_or 0 c.loop-i.out c.args.words.now (omega arith) (λ k h. c.loop-i.invariant k (omega arith))

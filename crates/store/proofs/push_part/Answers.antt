-- `store::push_part` meets its contract: a part's node at the top of the store. Assumes nothing.
use mathlib.Core.Path.{refl}
use native.Mathlib.Omega.{arith}
use Rattle.store.proofs.Frame.{pushed_part}
use Rattle.store.proofs.push_part.Goals as goal

pub returns : goal.returns
returns c =
    let a = c.args in
    pushed_part a.work.now _ a.top 2 a.count a.start a.length a.from a.next _ _ _ 0 c.requires.node_width_bound c.put.ensures refl refl
    (omega arith) (omega arith) (omega arith)

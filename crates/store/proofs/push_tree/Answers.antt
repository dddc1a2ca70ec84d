-- `store::push_tree` meets its contract: a tree's node at the top of the store. Assumes nothing.
use native.Mathlib.Omega.{arith}
use Prim.Native.Nat.{max}
use mathlib.Core.Path.{◌≡◌}
use Rattle.store.proofs.Frame.{pushed_tree}
use Rattle.store.proofs.push_tree.Goals as goal

pub returns : goal.returns
returns c =
    let a = c.args in
    pushed_tree a.work.now _ a.top a.own.kind a.own.id a.start a.length a.kids a.next _ _ _ _ c.requires.node_width_bound c.put.ensures
    (omega arith) (omega arith) (omega arith) (let m : c.max-size.result ≡ max 1 c.like.result = omega arith in cc)

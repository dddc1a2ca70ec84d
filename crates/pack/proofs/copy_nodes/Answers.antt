-- `pack::copy_nodes` meets its contract: the nodes are copied one by one from the back, until the part is full. Assumes nothing.
use Prim.Native.Nat.{◌/◌, ◌<◌}
use native.Mathlib.Omega.{arith}
use lib.ListN.{take}
use Rattle.pack.specs.Copying.{Copies}
use Rattle.pack.proofs.Copy as L
use Rattle.pack.proofs.Parts as P
use Rattle.pack.proofs.copy_nodes.Goals.{At-loop-q, In-loop-q}
use Rattle.pack.proofs.copy_nodes.Goals as goal

-- what is copied where the loop is
copied_at : (c : At-loop-q)
    → Copies c.args.first_repeat c.args.records.now c.args.start (c.args.floor / 4) 0 c.requires.its c.args.part.now (c.loop-q.q / 4) c.loop-q.k c.loop-q.part
copied_at c = c.loop-q.invariant.2 c.requires.its c.requires.fills

-- a node is left
left_at : (c : In-loop-q) → c.args.floor / 4 < c.loop-q.q / 4
left_at c = omega (arith, c.requires.fills.begins, c.loop-q-test.true, c.loop-q.invariant.0)

step_at : (c : In-loop-q) → L.Step c.args.first_repeat c.args.records.now c.loop-q.q
step_at c =
    let d = copied_at (goal.at.In-loop-q c).At-loop-q in
    L.ready_step c.args.first_repeat c.args.records.now c.args.start _ _ d.left c.loop-q.q c.loop-q.k d.ready c.loop-q.invariant.0 (left_at c)

front_at : (c : At-loop-q) → let w = c.args.records.now in P.Front w (take c.loop-q.q w) c.loop-q.q
front_at c = P.front_take c.args.records.now c.loop-q.q c.loop-q.invariant.1

pub copy_to_buffer-k-requires : goal.copy_to_buffer-k-requires
copy_to_buffer-k-requires c =
    let i = goal.at.copy_to_buffer-k-requires c in
    L.copyable_cut c.args.first_repeat c.args.records.now _ _ (front_at i.At-loop-q) c.args.start _ _ _ _ _ _ c.loop-q.invariant.0 (copied_at i.At-loop-q)
    (left_at i.In-loop-q) c.requires.short

pub skip_node-q-requires-clause-p_bound : goal.skip_node-q-requires-clause-p_bound
skip_node-q-requires-clause-p_bound c = (step_at (goal.at.skip_node-q-requires-clause-p_bound c).In-loop-q).size

pub loop-q-smaller : goal.loop-q-smaller
loop-q-smaller c = omega (arith, c.skip_node-q.ensures, (step_at (goal.at.loop-q-smaller c).In-loop-q).less)

pub loop-q-preserved : goal.loop-q-preserved
loop-q-preserved c =
    let i = goal.at.loop-q-preserved c in
    let z = step_at i.In-loop-q in (
      omega (arith, c.skip_node-q.ensures, z.whole),
      omega (arith, c.skip_node-q.ensures, z.less, c.loop-q.invariant.1),
      λ its h.
          rw c.skip_node-q.ensures
          (L.copies_again c.args.first_repeat c.args.records.now _ _ (front_at i.At-loop-q) c.args.start _ 0 its _ _ _ c.loop-q.invariant.0
          (c.loop-q.invariant.2 its h) (left_at i.In-loop-q) _ _ c.copy_to_buffer-k.ensures),
    )

pub returns : goal.returns
returns c = λ its h. L.copies_all _ _ _ _ its _ _ _ _ (c.loop-q.invariant.2 its h) (omega (arith, c.loop-q-test.false))

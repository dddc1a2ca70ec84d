-- `take::stepping::open_tree` meets its contract. Assumes nothing.
use mathlib.Core.Path.{refl}
use Prim.Native.Nat.{◌-◌}
use Rattle.take.proofs.Opening.{opened}
use Rattle.take.proofs.stepping.open_tree.Goals as goal

pub returns : goal.returns
returns c =
    let open_at = opened c.args.records.now c.args.work.now c.args.s c.args.next.node c.args.next.memo c.requires in
    rw c.push_frame.ensures (open_at (c.args.s.p - 1) c.no_memo.result refl c.no_memo.ensures)

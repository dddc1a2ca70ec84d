-- `materialize::unpack_part` meets its contract: the records passed stand as trees before the siblings behind the part. Assumes nothing.
use native.Mathlib.Omega.{arith}
use Prim.Native.Nat.{ℕ, ◌+◌, ◌-◌, ◌*◌}
use mathlib.Core.Path.{ap, ◌∙◌}
use Rattle.words.specs.Words.{last_of}
use Rattle.materialize.proofs.Unpacking.{unpacking_start, unpacking_next, opened, taken, inner_few, cell_few}
use Rattle.materialize.proofs.unpack_part.Goals as goal

pub loop-i-init : goal.loop-i-init
loop-i-init c = unpacking_start c.requires

pub overflow_add-limit-in-loop-i-2 : goal.overflow_add-limit-in-loop-i-2
overflow_add-limit-in-loop-i-2 c =
    let off : ℕ = (c.loop-i.i - 1) * 4 in
    let stop : ℕ = last_of c.args.part.now (c.loop-i.i - 1) in
    omega (arith, cell_few c.loop-i.invariant c.loop-i-test.true c.requires, c.inside.ensures, inner_few stop off, c.type_inv.part (off + 3))

pub hand_over-requires : goal.hand_over-requires
hand_over-requires c = opened c.loop-i.invariant c.loop-i-test.true c.inside.ensures c.requires

pub push-requires : goal.push-requires
push-requires c = taken c.loop-i.invariant c.loop-i-test.true c.inside.ensures c.hand_over.ensures c.hand_over.auto.out c.requires

pub loop-i-preserved : goal.loop-i-preserved
loop-i-preserved c =
    let start_is = ap (λ (x : ℕ). c.args.position + x) c.from.ensures in
    let length_is = c.from-in-loop-i-2.ensures ∙ c.saturating_sub.ensures in
    unpacking_next c.loop-i.invariant c.loop-i-test.true c.inside.ensures c.hand_over.ensures c.hand_over.auto.out
    c.push.ensures c.push.auto.roots c.push.auto.out start_is length_is c.from-in-loop-i.ensures c.requires

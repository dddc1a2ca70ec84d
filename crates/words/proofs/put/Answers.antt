-- `words::put` meets its contract: the values stand from the offset on. Assumes nothing.
use Rattle.std.proofs.Common.{rules, ◌≡◌, refl, ◌∙◌, length}
use native.Mathlib.Omega.{arith}
use Rattle.std.proofs.Math.Seq.{paste-zero}
use Rattle.std.proofs.lemmas.List.Edits.{paste_more, paste_all}
use Rattle.words.proofs.put.Goals as goal

pub loop-k-init : goal.loop-k-init
loop-k-init g c = paste-zero c.args.out.now c.args.at c.args.values

pub loop-k-preserved : goal.loop-k-preserved
loop-k-preserved g c =
    let whole : length c.args.values ≡ g.row.N = search rules in
    rw c.loop-k.invariant (paste_more c.args.out.now c.args.at c.args.values c.loop-k.k c.index-values-k.result
    (omega (arith, c.requires, c.loop-k-test.true)) (omega (arith, c.loop-k-test.true, whole)))

pub returns : goal.returns
returns g c =
    let whole : length c.args.values ≡ g.row.N = search rules in
    let last : c.loop-k.k ≡ length c.args.values = omega (arith, c.loop-k-test.false, c.loop-k.auto.k-end, whole) in
    c.loop-k.invariant ∙ (rw last (paste_all c.args.out.now c.args.at c.args.values (length c.args.values) refl))

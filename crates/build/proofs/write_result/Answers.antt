-- `build::write_result` meets its contract: the counts in the first node decide 12 and 13. Assumes nothing.
use mathlib.Core.Path.{refl}
use Prim.Native.Nat.{◌+◌}
use native.Mathlib.Omega.{arith}
use Rattle.build.proofs.Writing.{refuses_words, top_ready, writes}
use Rattle.build.proofs.write_result.Goals as goal

pub returns-then-words-packed : goal.returns-then-words-packed
returns-then-words-packed c =
    λ q. refuses_words c.args.work.now c.args.first.top c.args.first.kids q c.args.id c.args.start c.args.length c.args.cells.now c.args.words.now (c.tell.result + 1) c.tell.result c.tell.ensures refl (omega arith) c.tell-packed.result c.tell-packed.ensures c.if-words-packed.true

pub write_top-requires : goal.write_top-requires
write_top-requires c =
    top_ready c.args.work.now c.args.first.top c.args.first.kids c.requires c.args.id c.args.start c.args.length c.args.cells.now c.args.words.now (c.tell.result + 1) c.tell.result c.tell.ensures refl (omega arith) c.tell-packed.result c.tell-packed.ensures (omega (arith, c.if-words-packed.false))

pub returns : goal.returns
returns c =
    λ q. writes c.args.work.now c.args.first.top c.args.first.kids q c.args.id c.args.start c.args.length c.args.cells.now c.args.words.now (c.tell.result + 1) c.tell.result c.tell.ensures refl (omega arith) c.tell-packed.result c.tell-packed.ensures (omega (arith, c.if-words-packed.false)) c.write_top.new.out c.write_top.new.words c.write_top.ensures

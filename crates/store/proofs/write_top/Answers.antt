-- `store::write_top` meets its contract: a top over a list, written out. Assumes nothing.
use Rattle.store.proofs.Top.{top_kids, top_writable, top_wrote}
use native.Mathlib.Omega.{arith}
use lib.ListN.{length}
use Prim.Native.Nat.{◌+◌}
use mathlib.Core.Path.{refl}
use Rattle.store.proofs.write_top.Goals as goal

pub push_tree-root-requires : goal.push_tree-root-requires
push_tree-root-requires c = record { node_width_bound = omega (arith, c.requires.free, c.requires.inside); readable = top_kids c.args.work.now c.args.top c.args.kids (length c.args.out.now) (length c.args.words.now) c.requires; readable_2 = λ z. absurd (z refl) }

pub write_cells-requires : goal.write_cells-requires
write_cells-requires c =
    let a = c.args in
    top_writable a.work.now c.push_tree-root.new.work a.top a.id a.start a.length a.kids c.push_tree-root.result (a.top + 10) c.push_tree-root.ensures refl (length c.args.out.now) (length c.args.words.now) c.requires

pub returns : goal.returns
returns c =
    let a = c.args in
    top_wrote a.work.now c.push_tree-root.new.work a.top a.id a.start a.length a.kids c.push_tree-root.result (a.top + 10) c.push_tree-root.ensures refl
    a.out.now c.write_cells.new.out a.words.now c.write_cells.new.words c.write_cells.ensures

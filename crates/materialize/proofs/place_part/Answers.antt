-- `materialize::place_part` meets its contract: the records of the part stand before the siblings behind it. Assumes nothing.
use native.Mathlib.Omega.{arith}
use lib.ListN.{take, drop}
use Prim.Native.Nat.{ℕ, ◌+◌, ◌-◌}
use mathlib.Core.List.{List}
use mathlib.Core.Path.{◌≡◌, refl}
use Rattle.materialize.proofs.Placing.{part_ready, part_few, part_wrote}
use Rattle.cells.proofs.Reading.{cut_same}
use Rattle.tree.specs.Cells.{cell_first, cell_count, part_at}
use Rattle.materialize.proofs.place_part.Goals as goal

-- the words that the code takes are the part's
cut_is : (cs ws : List ℕ) (i : ℕ) → take (cell_first cs i + cell_count cs i - cell_first cs i) (drop (cell_first cs i) ws) ≡ part_at cs ws i
cut_is cs ws i = cut_same ws (cell_first cs i) (cell_count cs i) (cell_first cs i) (cell_count cs i) refl refl

pub overflow_sub-cell : goal.overflow_sub-cell
overflow_sub-cell c = (part_few c.requires (cut_is c.args.t.cells.now c.args.t.words.now c.args.i)).1

pub unpack_part-trees-requires : goal.unpack_part-trees-requires
unpack_part-trees-requires c = part_ready c.requires (cut_is c.args.t.cells.now c.args.t.words.now c.args.i)

pub overflow_cast-marks : goal.overflow_cast-marks
overflow_cast-marks c = omega (arith, (part_few c.requires (cut_is c.args.t.cells.now c.args.t.words.now c.args.i)).0)

pub returns : goal.returns
returns c = part_wrote c.requires (cut_is c.args.t.cells.now c.args.t.words.now c.args.i) c.unpack_part-trees.ensures c.unpack_part-trees.auto.roots c.unpack_part-trees.auto.out

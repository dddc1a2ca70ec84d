-- `part_lines::list_part` meets its contract. The invariant: the lines of the records before record i are written, and what is still to
-- be written goes by the end indices that are held. Assumes nothing.
use mathlib.Core.Path.{ap, ◌∙◌}
use Prim.Native.Nat.{◌+◌, ◌-◌, ◌*◌, ◌≤◌}
use native.Mathlib.Omega.{arith}
use borrow.Author.Tests.{lt-ltb, le-ltb}
use lib.ListN.{length, set, drop, length-take, length-drop}
use Rattle.words.specs.Words.{id_of}
use Rattle.part_lines.proofs.Walk.{walk_first, walk_end, walk_miss, line_fits, walk_hit}
use Rattle.part_lines.proofs.list_part.Goals.{else-from-first_repeat, then-from-first_repeat}
use Rattle.part_lines.proofs.list_part.Goals as goal

pub loop-i-init : goal.loop-i-init
loop-i-init c = walk_first c.args.lines.now c.args.ends.now c.requires

-- record i has a line
pub put_record-requires : goal.put_record-requires
put_record-requires c =
    let record_in : c.loop-i.i * 4 + 4 ≤ length c.args.part.now = omega (arith, c.loop-i-test.true) in
    let fits = line_fits c.loop-i.invariant c.open_ends-top.result c.open_ends-top.ensures record_in
    (lt-ltb (id_of c.args.part.now c.loop-i.i) c.args.first_repeat (omega (arith, c.if-from-first_repeat.true, c.from.ensures))) in
    record { record_width_in_bounds = record_in; i_bound = (fits.start, fits.end); line_width_in_bounds = omega (arith, fits.line, length-take (length c.loop-i.lines - c.loop-i.to) (drop c.loop-i.to c.loop-i.lines), length-drop c.loop-i.to c.loop-i.lines) }

pub loop-i-preserved : goal.loop-i-preserved
loop-i-preserved c =
    let s = c.if-from-first_repeat in
    let id = id_of c.args.part.now c.loop-i.i in
    let record_in : c.loop-i.i * 4 + 4 ≤ length c.args.part.now = omega (arith, c.loop-i-test.true) in
    elim s.branch [
      | then-from-first_repeat u ↦ walk_hit c.loop-i.invariant c.open_ends-top.result c.open_ends-top.ensures record_in
          (lt-ltb id c.args.first_repeat (omega (arith, u.if-from-first_repeat.true, c.from.ensures)))
          s.ends s.lines u.put_record.new.line s.top s.to (u.ends-is ∙ ap (set c.loop-i.ends c.open_ends-top.result) u.from-then-from-first_repeat.ensures) u.put_record.ensures u.lines-is u.top-is u.to-is
      | else-from-first_repeat v ↦ walk_miss c.loop-i.invariant c.open_ends-top.result c.open_ends-top.ensures record_in
          (le-ltb id c.args.first_repeat (omega (arith, v.if-from-first_repeat.false, c.from.ensures)))
          s.ends s.lines s.top s.to v.ends-is v.lines-is v.top-is v.to-is
    ]

pub returns : goal.returns
returns c = let (a, b) = walk_end c.loop-i.invariant (omega (arith, c.loop-i-test.false)) in record { value = a; lines_after = b }

-- `listing::write_lines` meets its contract. The invariant: the lines of the cells before cell i are written, and what the cells still
-- to come need is noted. Assumes nothing.
use mathlib.Core.Path.{refl, ap}
use Prim.Native.Nat.{ℕ, ◌*◌, ◌+◌, ◌-◌}
use native.Mathlib.Omega.{arith}
use lib.ListN.{length, take, drop, length-take, length-drop}
use Rattle.tree.specs.Cells.{cell_width, first_place, next_place}
use Rattle.part_lines.proofs.Lending.{lent_front}
use Rattle.listing.proofs.Turns.{child_small}
use Rattle.listing.proofs.Writes.{top_fits, first_fits, pass_end, pass_first, pass_turn}
use Rattle.listing.proofs.write_lines.Goals as goal

pub bounds-cells-4 : goal.bounds-cells-4
bounds-cells-4 c = omega (arith, top_fits c.requires)

pub note-requires : goal.note-requires
note-requires c = first_fits c.requires

pub loop-i-init : goal.loop-i-init
loop-i-init c = pass_first c.args.lines.now c.args.notes.now c.requires c.note.ensures refl (omega (arith, c.type_inv.cells 4))

pub put_lines-at-requires : goal.put_lines-at-requires
put_lines-at-requires c =
    let part = take (length c.loop-i.lines - c.loop-i.at) (drop c.loop-i.at c.loop-i.lines) in
    rw c.loop-i.auto.ends ((pass_turn c.loop-i.invariant c.loop-i-test.true).cell_ready (length part) (simp (length-take, length-drop) (omega arith)))

pub note_links-requires : goal.note_links-requires
note_links-requires c =
    let f = pass_turn c.loop-i.invariant c.loop-i-test.true in
    record { ready = f.ready; i_in_bounds = (omega (arith, f.links_fit.0, c.loop-i.auto.notes), omega (arith, f.links_fit.1, c.loop-i.auto.notes)) }

pub loop-i-preserved : goal.loop-i-preserved
loop-i-preserved c =
    let i : ℕ = c.loop-i.i in
    let child = child_small c.args.t.cells.now i 4294967295 (omega (arith, c.type_inv.cells (i * cell_width + first_place))) in
    (pass_turn c.loop-i.invariant c.loop-i-test.true).goes_on _ c.note_links.new.notes (c.loop-i.at + c.put_lines-at.result)
    (ap (λ (n : ℕ). c.loop-i.at + n) c.put_lines-at.ensures.value)
    (lent_front c.loop-i.lines _ c.put_lines-at.new.lines c.loop-i.at c.put_lines-at.ensures.lines_after) c.note_links.ensures
    child (omega (arith, c.type_inv.cells (i * cell_width + next_place)))

pub returns : goal.returns
returns c = pass_end c.loop-i.invariant c.loop-i-test.false

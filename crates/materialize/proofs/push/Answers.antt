-- `materialize::push` meets its contract: one more tree before its siblings. Assumes nothing.
use native.Mathlib.Omega.{arith}
use Rattle.materialize.proofs.Pushing.{taken_fits, push_law}
use Rattle.materialize.proofs.push.Goals as goal

pub first_child-first-requires : goal.first_child-first-requires
first_child-first-requires c = (taken_fits c.requires).first

pub next_sibling-next-requires : goal.next_sibling-next-requires
next_sibling-next-requires c = let f = taken_fits c.requires in record { kept_in_bounds = omega (arith, f.deep); kept_bound = f.next }

pub end_links-requires : goal.end_links-requires
end_links-requires c = let f = taken_fits c.requires in record { kept_in_bounds = (λ h. f.deep); next_place_in_bounds = f.last }

pub overflow_sub-sp : goal.overflow_sub-sp
overflow_sub-sp c = (taken_fits c.requires).below

pub overflow_cast-sp : goal.overflow_cast-sp
overflow_cast-sp c = omega (arith, (taken_fits c.requires).few)

pub offset_bounds-roots-kept : goal.offset_bounds-roots-kept
offset_bounds-roots-kept c = omega (arith, (taken_fits c.requires).deep)

pub bounds-roots-kept : goal.bounds-roots-kept
bounds-roots-kept c = (taken_fits c.requires).deep

pub returns : goal.returns
returns c =
    let a = c.args in
    push_law a.roots.now a.out.now c.end_links.new.out c.put_cell.new.out
    a.cell a.kept a.sp a.node.kind a.node.id a.node.start a.node.len
    c.first_child-first.result c.next_sibling-next.result c.first_child-first.ensures c.next_sibling-next.ensures c.end_links.ensures c.put_cell.ensures

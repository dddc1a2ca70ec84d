-- `balance::write_out` meets its contract: the counts in the node decide. Assumes nothing.
use Rattle.balance.proofs.Writing.{refuses_words, writes}
use native.Mathlib.Omega.{arith}
use Rattle.balance.proofs.write_out.Goals as goal

pub returns-then-packed-words : goal.returns-then-packed-words
returns-then-packed-words c = λ ts s.
    let a = c.args in
    refuses_words a.work.now a.top a.root ts s a.out.now a.packed.now _ c.tell-cells.ensures (omega arith) _ c.tell-words.ensures c.if-packed-words.true

pub returns : goal.returns
returns c = λ ts s.
    let a = c.args in
    writes a.work.now a.top a.root ts s a.out.now a.packed.now _ c.tell-cells.ensures (omega arith) _ c.tell-words.ensures
    (omega (arith, c.if-packed-words.false)) c.write_cells.new.out c.write_cells.new.words c.write_cells.ensures

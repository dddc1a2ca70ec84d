-- `Way::next` gives the first record of the way that is left. Assumes nothing.
use Rattle.search.proofs.Walk.{way_none, way_more, way_shorter, linked_next}
use Rattle.search.proofs.WayIterator.next.Goals as goal

pub returns-then-self-at-clause-steps : goal.returns-then-self-at-clause-steps
returns-then-self-at-clause-steps c =
    let s = c.args.self.now in
    let none = way_none s.words.now s.at s.to c.requires c.if-self-at.true in
    (none, none)

pub returns-clause-steps : goal.returns-clause-steps
returns-clause-steps c =
    let s = c.args.self.now in
    way_more s.words.now s.at s.to c.requires c.from-self.result c.if-self-at.false c.from-self.ensures

pub returns-clause-goes : goal.returns-clause-goes
returns-clause-goes c =
    let s = c.args.self.now in
    let linked = linked_next s.words.now s.at s.to c.requires c.from-self.result c.if-self-at.false c.from-self.ensures in
    let shorter = way_shorter s.words.now s.at s.to c.requires c.from-self.result c.if-self-at.false c.from-self.ensures in
    record { on = λ _. (linked, tt, shorter); keeps = linked; rests = λ _. tt }

-- `records::follows` meets its contract: the record before `from` is the last sibling of those before it. Assumes nothing.
use Rattle.records.proofs.Spelling as S
use Rattle.records.proofs.follows.Goals as goal

pub returns : goal.returns
returns c = rw (c.behind_at.ensures, S.behind_all c.args.records.now c.args.from c.requires c.args.start)

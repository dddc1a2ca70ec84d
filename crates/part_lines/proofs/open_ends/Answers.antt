-- `part_lines::open_ends` meets its contract. Assumes nothing.
use Rattle.std.proofs.Common.{rules, length}
use Rattle.std.proofs.Math.Path.{sym}
use Rattle.part_lines.proofs.Ends.{still_last, still_none}
use Rattle.part_lines.proofs.open_ends.Goals as goal

pub returns-in-Some : goal.returns-in-Some
returns-in-Some c = sym (still_last c.args.ends.now c.args.off (length c.args.ends.now) c.in-Some.t (search rules) (search rules) (λ k a b. search rules))

pub returns-in-None : goal.returns-in-None
returns-in-None c = sym (still_none c.args.ends.now c.args.off (length c.args.ends.now) (λ k a. search rules))

-- `gateway::given_length` meets its contract, each case. Assumes nothing.
use Rattle.gateway.proofs.Given.{none_given, some_given}
use Rattle.gateway.proofs.given_length.Goals as goal

pub returns-then-given-eq0 : goal.returns-then-given-eq0
returns-then-given-eq0 c = none_given c.args.given c.args.length c.if-given-eq0.true

pub returns-else-given-eq0 : goal.returns-else-given-eq0
returns-else-given-eq0 c = some_given c.args.given c.args.length c.if-given-eq0.false

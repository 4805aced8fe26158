use Rattle.trick_body_statements.proofs.Lists.{if_none, if_some}
use Rattle.trick_body_statements.proofs.statements.choice_of.Goals as goal

pub returns-in-None : goal.returns-in-None
returns-in-None c = rw c.in-None.is (if_none c.args.branches)

pub returns-in_ok-otherwise-in-Some : goal.returns-in_ok-otherwise-in-Some
returns-in_ok-otherwise-in-Some c = rw c.in-Some.is (if_some c.args.branches c.in_ok-otherwise-in-Some.otherwise c.in-Some.statement c.in_ok-otherwise-in-Some.ensures.ok)

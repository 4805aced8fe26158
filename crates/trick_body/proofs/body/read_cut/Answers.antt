use Rattle.trick_body.proofs.Refused.{condition_read, fault_behind}
use Rattle.trick_body.proofs.body.read_cut.Goals as goal

pub returns-in-None : goal.returns-in-None
returns-in-None c = rw c.in-None.is (condition_read c.args.text.now c.args.tokens.now c.in-Ok.expression c.in-Ok.ensures)

pub returns-in-Some : goal.returns-in-Some
returns-in-Some c = rw c.in-Some.is (fault_behind c.args.text.now c.args.tokens.now c.in-Ok.expression c.in-Some.first c.in-Ok.ensures)

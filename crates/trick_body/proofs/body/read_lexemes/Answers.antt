use Rattle.trick_body.proofs.Refused.{body_read, body_refused}
use Rattle.trick_body.proofs.body.read_lexemes.Goals as goal

pub returns-in-Ok : goal.returns-in-Ok
returns-in-Ok c = body_read c.args.text.now c.args.tokens.now c.args.from _ c.in-Ok.found.0 c.in-Ok.found.1.now c.in-Ok.ensures c.place_behind-to.ensures

pub returns-in-Err-At : goal.returns-in-Err-At
returns-in-Err-At c = body_refused c.args.text.now c.args.tokens.now c.args.from (record { kind = c.in-Err-At.reason; rest = c.in-Err-At.rest.now }) _ (rw c.in-Err-At.field-0-is at c.in-Err-At.ensures) c.told_by.ensures

use Rattle.std.proofs.Common.{inl, inr}
use Rattle.trick_body.proofs.Refused.{condition_refused, fault_at_end, nil_of, not_nil}
use Rattle.trick_body.proofs.body.refused.Goals as goal

pub returns-in-None : goal.returns-in-None
returns-in-None c e = condition_refused c.args.text.now c.args.tokens.now c.args.fault (record { kind = c.args.reason; rest = c.args.rest.now }) _ e (inl c.in-None.is) c.told_by.ensures

pub returns-in-empty : goal.returns-in-empty
returns-in-empty c e = rw c.in-Some.is (fault_at_end c.args.text.now c.args.tokens.now c.args.reason c.args.rest.now c.in-Some.first (nil_of c.args.rest.now c.in-empty.len_below) e)

pub returns-in-len1-up : goal.returns-in-len1-up
returns-in-len1-up c e = condition_refused c.args.text.now c.args.tokens.now c.args.fault (record { kind = c.args.reason; rest = c.args.rest.now }) _ e (inr (not_nil c.args.rest.now c.in-len1-up.len_at_least)) c.told_by-in-len1-up.ensures

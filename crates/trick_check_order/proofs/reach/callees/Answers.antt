use Rattle.std.proofs.Common.{◌∙◌}
use Rattle.trick_check_order.proofs.Has.{callees_in}
use Rattle.trick_check_order.proofs.reach.callees.Goals as goal

pub returns : goal.returns
returns c = c.as_slice.ensures ∙ (c.index-calls-method.is ∙ callees_in c.args.calls.now c.args.method c.index-calls-method.result c.requires.here)

use Rattle.trick_sdef_grammar.proofs.BodyLimits.{conditions_tell}
use Rattle.trick_sdef_grammar.proofs.laws.conditions_tell_limits.Goals as goal

pub returns : goal.returns
returns c text limit more depth deeper some lt deep = conditions_tell text limit more lt depth deeper deep

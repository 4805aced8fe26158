use Rattle.trick_sdef_grammar.proofs.BodyLimits.{methods_tell}
use Rattle.trick_sdef_grammar.proofs.laws.methods_tell_limits.Goals as goal

pub returns : goal.returns
returns c text limit more depth deeper some lt deep = methods_tell text limit more lt some depth deeper deep

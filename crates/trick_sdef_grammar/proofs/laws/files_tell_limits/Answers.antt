use Rattle.trick_sdef_grammar.proofs.FileLimits.{files_tell}
use Rattle.trick_sdef_grammar.proofs.laws.files_tell_limits.Goals as goal

pub returns : goal.returns
returns c text limit more depth deeper some lt deep = files_tell text limit more lt some depth deeper deep

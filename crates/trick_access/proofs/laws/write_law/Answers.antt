use Rattle.std.proofs.Common.{◌∙◌}
use Rattle.trick_access.proofs.laws.write_law.Goals as goal

pub returns : goal.returns
returns c p job ranges m stored cell n are effect at = are.exact cell ∙ c.write_law.ensures p job m stored cell n effect at

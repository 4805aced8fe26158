use Rattle.std.proofs.Common.{◌∙◌}
use Rattle.trick_access.proofs.laws.frame_law.Goals as goal

pub returns : goal.returns
returns c p job ranges m n are agree = c.frame_law.ensures p job m n (λ cell within. agree cell (are.exact cell ∙ within))

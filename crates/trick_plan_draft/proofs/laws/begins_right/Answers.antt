use Rattle.trick_plan_draft.proofs.Keeping.{begun_right}
use Rattle.trick_plan_draft.proofs.laws.begins_right.Goals as goal

pub returns : goal.returns
returns c = begun_right

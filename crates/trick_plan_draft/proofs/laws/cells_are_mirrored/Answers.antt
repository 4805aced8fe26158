use Rattle.trick_plan_draft.proofs.Mirrored.{mirrored}
use Rattle.trick_plan_draft.proofs.laws.cells_are_mirrored.Goals as goal

pub returns : goal.returns
returns c = mirrored

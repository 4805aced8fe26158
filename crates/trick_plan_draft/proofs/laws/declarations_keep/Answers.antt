use Rattle.trick_plan_draft.proofs.KeepingDeclared.{declare}
use Rattle.trick_plan_draft.proofs.laws.declarations_keep.Goals as goal

pub returns : goal.returns
returns c = λ jobs threads p. declare jobs threads p

use Rattle.trick_plan_draft.proofs.KeepingDeclared.{declare_deeds}
use Rattle.trick_plan_draft.proofs.laws.declarations_keep_deeds.Goals as goal

pub returns : goal.returns
returns c = λ jobs threads declared d e h right. declare_deeds jobs threads declared d e h right

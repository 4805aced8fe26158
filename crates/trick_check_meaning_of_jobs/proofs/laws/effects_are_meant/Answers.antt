use Rattle.trick_check_meaning_of_jobs.proofs.Effects.{effects_meant}
use Rattle.trick_check_meaning_of_jobs.proofs.laws.effects_are_meant.Goals as goal

pub returns : goal.returns
returns c = effects_meant c.methods_keep.ensures

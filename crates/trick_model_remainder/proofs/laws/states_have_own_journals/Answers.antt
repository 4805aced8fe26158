use Rattle.trick_model_remainder.proofs.Going.{states_have_own_journals}
use Rattle.trick_model_remainder.proofs.laws.states_have_own_journals.Goals as goal

pub returns : goal.returns
returns c = λ plan s good. states_have_own_journals c.turns_keep_validity.ensures c.plans_are_sound.ensures plan s good

use Rattle.trick_exec_turn.proofs.ChosenLemmas.{chosen_silent}
use Rattle.trick_exec_turn.proofs.publish.choose_publications.Goals as goal

pub returns-clause-silent : goal.returns-clause-silent
returns-clause-silent g c = chosen_silent _ _ _ _ _ c.in_ok-chosen.ensures.chosen.2

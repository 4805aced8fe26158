use Rattle.trick_wire.proofs.Writing.{wrote_hung}
use Rattle.trick_wire.proofs.writer.write_all.Goals as goal

pub returns-clause-wrote : goal.returns-clause-wrote
returns-clause-wrote g c = λ none. wrote_hung _ _ _ _ _ _ _ _ (c.write_messages-stop.ensures.wrote none) c.hang_up.ensures.taken c.hang_up.ensures.later

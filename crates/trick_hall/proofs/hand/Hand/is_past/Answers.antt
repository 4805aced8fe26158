use Rattle.trick_hall.proofs.Turns.{looks, waits_looked}
use Rattle.trick_hall.proofs.hand.Hand.is_past.Goals as goal

pub returns-clause-looked : goal.returns-clause-looked
returns-clause-looked g c = looks _ _ _ (waits_looked _ _ _ _ _ c.claim-turn.ensures.got) c.release.ensures

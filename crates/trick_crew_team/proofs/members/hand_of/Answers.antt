use Rattle.std.proofs.Common.{sym, subst}
use Rattle.trick_crew_team.proofs.Parts.{parts}
use Rattle.trick_crew_team.proofs.members.hand_of.Goals as goal
use Rattle.trick_crew_team.specs.Hands.{IsLeftBy}

pub finish-requires-send-W : goal.finish-requires-send-W
finish-requires-send-W g c κs within = search parts depth 30

pub returns-in-Started : goal.returns-in-Started
returns-in-Started g c = subst (λ m. IsLeftBy m c.finish.result) (sym c.in-Started.is) c.finish.ensures

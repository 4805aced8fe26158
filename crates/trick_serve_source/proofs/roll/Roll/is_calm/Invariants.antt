use Rattle.trick_serve_source.proofs.Calm.{AreCalmTo}
use Rattle.trick_serve_source.proofs.roll.Roll.is_calm.Given as goal

abbrev pub invariant-loop-at : goal.invariant-loop-at
invariant-loop-at l = AreCalmTo l.self.seats.items l.self.live.items l.reached l.at

use Rattle.std.proofs.Common.{◌≡◌, map}
use Rattle.std.specs.Arc.{arc_value}
use Rattle.std.specs.Prelude.{All}
use Rattle.trick_hall.proofs.hall.hands_with.Given as goal

abbrev pub invariant-loop-pass : goal.invariant-loop-pass
invariant-loop-pass g l = (map (λ h. h.pass) l.hands.items ≡ l.yielded) × All (λ h. arc_value h.lock ≡ arc_value l.lock) l.hands.items

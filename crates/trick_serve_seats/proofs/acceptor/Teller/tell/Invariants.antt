use Rattle.std.proofs.Common.{◌≡◌}
use Rattle.trick_wire.specs.Ends.{IsSamePutter, put_by}
use Rattle.trick_serve_seats.proofs.acceptor.Teller.tell.Given as goal

abbrev pub invariant-loop : goal.invariant-loop
invariant-loop g l = IsSamePutter l.initial.self.coming l.self.coming × (put_by l.self.coming ≡ put_by l.initial.self.coming) × (l.mine ≡ l.initial.mine)

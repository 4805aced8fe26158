use Rattle.std.proofs.Common.{◌≡◌}
use Rattle.trick_wire.specs.Ends.{IsSamePutter, put_by}
use Rattle.trick_wire.proofs.letterbox.Letterbox.put.Given as goal

abbrev pub invariant-loop : goal.invariant-loop
invariant-loop g l = IsSamePutter l.initial.self.inbox l.self.inbox × (put_by l.self.inbox ≡ put_by l.initial.self.inbox) × (l.mine ≡ l.initial.mine)

use Rattle.std.proofs.Common.{◌≡◌}
use Rattle.trick_serve_source.proofs.entries.tell_over.Given as goal
use Rattle.trick_wire.specs.Ends.{IsSamePutter, put_by}

abbrev pub invariant-loop : goal.invariant-loop
invariant-loop g l = IsSamePutter l.initial.gone l.gone × (put_by l.gone ≡ put_by l.initial.gone)

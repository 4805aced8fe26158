use Rattle.std.proofs.Common.{◌≡◌, drop}
use Rattle.trick_codes.proofs.field.literal.Given as goal
use Rattle.trick_codes.specs.Code.{literal_at}

abbrev pub invariant-loop-b : goal.invariant-loop-b
invariant-loop-b l = literal_at (drop l.b-index l.bytes) l.rest ≡ literal_at l.bytes l.fn.rest

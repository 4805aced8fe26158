use Rattle.std.proofs.Common.{◌≡◌, drop}
use Rattle.trick_codes.proofs.word.stands_at.Given as goal
use Rattle.trick_codes.specs.Code.{behind}

abbrev pub invariant-loop-b : goal.invariant-loop-b
invariant-loop-b l = behind (drop l.b-index l.word) l.here ≡ behind l.word l.rest

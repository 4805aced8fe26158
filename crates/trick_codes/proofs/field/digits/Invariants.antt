use Rattle.std.proofs.Common.{◌≡◌, ◌≤◌, length}
use Rattle.trick_codes.proofs.field.digits.Given as goal
use Rattle.trick_codes.specs.Code.{digits_at}

abbrev pub invariant-loop-rest : goal.invariant-loop-rest
invariant-loop-rest l = record { fits : l.value ≤ l.most; going : digits_at l.most l.end l.value l.rest ≡ digits_at l.most l.end l.first l.fn.rest }

abbrev pub decreases-loop-rest : goal.decreases-loop-rest
decreases-loop-rest l = length l.rest

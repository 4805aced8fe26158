use Rattle.std.proofs.Common.{◌≡◌, ◌≤◌}
use Rattle.trick_codes.proofs.Loops.{free_after}
use Rattle.trick_codes.proofs.field.free_length.Given as goal
use Rattle.trick_codes.specs.Code.{free_at}

abbrev pub invariant-loop-length : goal.invariant-loop-length
invariant-loop-length l = record { few : l.length ≤ l.most; going : free_after l.most l.end l.rest l.length ≡ free_at l.most l.end l.rest }

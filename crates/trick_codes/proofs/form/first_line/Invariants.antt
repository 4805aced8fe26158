use Rattle.std.proofs.Common.{◌≡◌, ◌+◌, ◌++◌, take, drop, length}
use Rattle.trick_codes.proofs.form.first_line.Given as goal
use Rattle.trick_codes.specs.Lines.{first_line}

abbrev pub invariant-loop-here : goal.invariant-loop-here
invariant-loop-here l = record { size : l.length + length l.here ≡ length l.rest; going : take l.length l.rest ++ first_line l.here ≡ first_line l.rest; here : l.here ≡ drop l.length l.rest }

abbrev pub decreases-loop-here : goal.decreases-loop-here
decreases-loop-here l = length l.here

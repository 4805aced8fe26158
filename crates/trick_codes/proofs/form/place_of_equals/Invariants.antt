use Rattle.std.proofs.Common.{◌≡◌, ◌+◌, length}
use Rattle.trick_codes.proofs.Loops.{moved_by}
use Rattle.trick_codes.proofs.form.place_of_equals.Given as goal
use Rattle.trick_codes.specs.Forms.{equals_place}

abbrev pub invariant-loop-here : goal.invariant-loop-here
invariant-loop-here l = record { size : l.at + length l.here ≡ length l.line; going : moved_by l.at (equals_place l.here) ≡ equals_place l.line }

abbrev pub decreases-loop-here : goal.decreases-loop-here
decreases-loop-here l = length l.here

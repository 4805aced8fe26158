use Rattle.std.proofs.Common.{◌≡◌, map}
use Rattle.trick_crew_clerks.proofs.roster.shifts_for.Given as goal

-- a shift for each clerk so far
abbrev pub invariant-loop-clerk : goal.invariant-loop-clerk
invariant-loop-clerk g l = map (λ s. s.clerk) l.shifts.items ≡ l.yielded

use Rattle.std.proofs.Common.{◌+◌, ◌≤◌, vec_capacity, vec_len}
use Rattle.trick_crew_clerks.proofs.Sharing.{IsSharing}
use Rattle.trick_crew_clerks.proofs.staff.start_each.Given as goal
use Rattle.trick_crew_clerks.specs.Serving.{HasServed}
use Rattle.trick_crew_clerks.specs.Staffs.{StayedAny}
use Rattle.trick_outside.specs.Causes.{HasCause}

abbrev pub invariant-loop-shift : goal.invariant-loop-shift
invariant-loop-shift g l = record {
  sharing : IsSharing HasServed l.fn.shifts.items l.shifts.items l.staff.here.items l.staff.away.items;
  here_room : vec_len l.staff.here + vec_len l.shifts ≤ vec_capacity l.staff.here;
  away_room : vec_len l.staff.away + vec_len l.shifts ≤ vec_capacity l.staff.away;
  cause : HasCause (g.S.Spawner.failures l.fn.spawner) (g.S.Spawner.failures l.spawner) (StayedAny l.staff.here.items);
}

abbrev pub decreases-loop-shift : goal.decreases-loop-shift
decreases-loop-shift g l = vec_len l.shifts

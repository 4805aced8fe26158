use Rattle.std.proofs.Common.{◌≡◌, ◌+◌, vec_capacity, vec_len}
use Rattle.trick_crew_team.proofs.Starting.{IsStarting}
use Rattle.trick_crew_team.proofs.members.start_each.Given as goal
use Rattle.trick_crew_team.specs.Members.{IsRefusedAny}
use Rattle.trick_crew_team.specs.Working.{HasWorked}
use Rattle.trick_outside.specs.Causes.{HasCause}

abbrev pub invariant-loop-worker : goal.invariant-loop-worker
invariant-loop-worker g l = record {
  starting : IsStarting HasWorked l.fn.workers.items l.workers.items l.members.items;
  many : vec_len l.workers + vec_len l.members ≡ vec_len l.fn.workers;
  room : vec_capacity l.members ≡ vec_capacity l.fn.members;
  cause : HasCause (g.S.Spawner.failures l.fn.spawner) (g.S.Spawner.failures l.spawner) (IsRefusedAny l.members.items);
}

abbrev pub decreases-loop-worker : goal.decreases-loop-worker
decreases-loop-worker g l = vec_len l.workers

use Rattle.std.proofs.Common.{◌≡◌, ◌≤◌, ◌+◌, ◌++◌, drop, vec_capacity, vec_len}
use Rattle.trick_crew_team.proofs.members.add_refused.Given as goal
use Rattle.trick_crew_team.specs.Members.{refused}

abbrev pub invariant-loop-member : goal.invariant-loop-member
invariant-loop-member g l = record {
  room : vec_len l.threads ≤ vec_len l.fn.threads + l.member-index;
  capacity : vec_capacity l.threads ≡ vec_capacity l.fn.threads;
  so_far : l.threads.items ++ refused (λ w. w.thread) (drop l.member-index l.members) ≡ l.fn.threads.items ++ refused (λ w. w.thread) l.members;
}

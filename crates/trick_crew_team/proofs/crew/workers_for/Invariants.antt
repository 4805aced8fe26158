use Rattle.std.proofs.Common.{◌≡◌, ◌+◌, ◌++◌, map, reverse, take, vec_len}
use Rattle.trick_crew_team.proofs.crew.workers_for.Given as goal

abbrev pub invariant-loop-thread : goal.invariant-loop-thread
invariant-loop-thread g l = record {
  threads : map (λ w. w.thread) l.workers.items ≡ take l.thread-index l.threads;
  many : vec_len l.workers ≡ l.thread-index;
  left : vec_len l.hands + l.thread-index ≡ vec_len l.fn.hands;
  hands : l.hands.items ++ reverse (map (λ w. w.hand) l.workers.items) ≡ l.fn.hands.items;
}

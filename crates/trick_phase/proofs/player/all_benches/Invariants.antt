use Rattle.std.proofs.Common.{◌≡◌, ℕ, ◌<◌, None, length}
use Rattle.trick_eval.specs.Bench.{IsFor}
use Rattle.trick_phase.specs.Steps.{bench_at}
use Rattle.trick_phase.proofs.player.all_benches.Given as goal

-- the benches so far are empty, and those of the plan
abbrev pub invariant-loop-thread : goal.invariant-loop-thread
invariant-loop-thread l = record {
  made : length l.benches.items ≡ l.thread;
  own : (k : ℕ) → k < length l.benches.items → IsFor l.accepted.plan.program (bench_at l.benches.items k).parts;
  empty : (k : ℕ) → k < length l.benches.items → (bench_at l.benches.items k).job ≡ None;
}

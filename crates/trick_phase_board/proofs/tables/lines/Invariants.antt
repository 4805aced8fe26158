use Rattle.std.proofs.Common.{◌≡◌, ℕ, ◌<◌, length}
use Rattle.trick_phase_board.specs.Tables.{ids_at, line_of}
use Rattle.trick_model.specs.PlanOf.{plan_of}
use Rattle.trick_phase_board.proofs.tables.lines.Given as goal

-- the threads so far have their jobs
abbrev pub invariant-loop-thread : goal.invariant-loop-thread
invariant-loop-thread l = record {
  made : length l.lines ≡ l.thread;
  right : (k : ℕ) → k < l.thread → ids_at l.lines k ≡ line_of (plan_of l.plan) k;
}

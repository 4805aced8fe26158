use Rattle.std.proofs.Common.{◌≡◌, ℕ, ◌<◌, length}
use Rattle.std.specs.List.{slice_index_or}
use Rattle.trick_model.specs.Plan.{thread_of}
use Rattle.trick_phase_board.proofs.tables.threads.Given as goal

-- the jobs so far have their threads
abbrev pub invariant-loop-number : goal.invariant-loop-number
invariant-loop-number l = record {
  made : length l.threads ≡ l.number;
  right : (k : ℕ) → k < l.number → slice_index_or l.threads k 0 ≡ thread_of l.plan.program.jobs k;
}

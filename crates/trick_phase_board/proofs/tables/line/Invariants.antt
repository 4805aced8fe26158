use Rattle.std.proofs.Common.{◌≡◌, ◌==◌, take}
use Rattle.std.specs.Prelude.{filter}
use Rattle.trick_model.specs.Plan.{thread_of}
use Rattle.trick_model.specs.Valid.{ids}
use Rattle.trick_phase_board.proofs.tables.line.Given as goal

-- those of the first jobs that are on the thread
abbrev pub invariant-loop-job : goal.invariant-loop-job
invariant-loop-job l = ids l.jobs ≡ filter (λ k. thread_of l.plan.program.jobs k == l.thread) (take l.job-index (ids l.all))

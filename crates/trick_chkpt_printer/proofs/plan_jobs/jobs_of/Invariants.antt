use Rattle.std.proofs.Common.{◌≡◌, ℕ, ◌<◌, ◌++◌, drop, length, map}
use Rattle.std.specs.Prelude.{All, filter, ◌==◌}
use Rattle.trick_chkpt_printer.proofs.plan_jobs.jobs_of.Given as goal
use Rattle.trick_lang.specs.declared.job.JobId.{JobId}
use Rattle.trick_model.specs.Plan.{job_numbers, numbers_from, thread_of}

abbrev pub invariant-loop-k : goal.invariant-loop-k
invariant-loop-k l = let on_thread = λ (k : ℕ). thread_of l.program.jobs k == l.thread.number in record {
  jobs : map (λ (job : JobId). job.0) l.found.items ++ filter on_thread (numbers_from l.k (drop l.k l.program.jobs))
      ≡ filter on_thread (job_numbers l.program.jobs);
  there : All (λ (job : JobId). job.0 < length l.program.jobs) l.found.items;
}

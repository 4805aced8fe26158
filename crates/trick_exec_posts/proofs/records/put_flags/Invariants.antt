use Rattle.std.proofs.Common.{◌≡◌, ◌++◌, drop, map}
use Rattle.trick_exec_posts.proofs.records.put_flags.Given as goal
use Rattle.trick_lang.specs.declared.job.JobId.{JobId}
use Rattle.trick_model.specs.Plan.{is_on}

-- the flags of the first jobs stand there
abbrev pub invariant-loop-job : goal.invariant-loop-job
invariant-loop-job l =
    let now = λ (job : JobId). is_on l.flags job.0 in
    l.on ++ map now (drop l.job-index l.jobs) ≡ map now l.jobs

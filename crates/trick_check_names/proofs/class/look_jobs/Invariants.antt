use Rattle.std.proofs.Common.{◌≡◌, drop}
use Rattle.trick_lang.specs.Syntax.{jobs_of}
use Rattle.trick_check_names.proofs.class.look_jobs.Given as goal
use Rattle.trick_check_names.specs.FileMistakes.{job_mistakes}
use Rattle.trick_check_names.specs.Mistakes.{noted}

-- what is left finds from here what all find from the start
abbrev pub invariant-loop-job : goal.invariant-loop-job
invariant-loop-job l = noted (job_mistakes (jobs_of (drop l.job-index l.jobs)) l.scope) l.found ≡ noted (job_mistakes (jobs_of l.jobs) l.scope) l.fn.found

use Rattle.std.proofs.Common.{◌≡◌, ◌++◌, [], drop, take}
use Rattle.trick_check_bodies.proofs.job.add_jobs.Given as goal
use Rattle.trick_check_bodies.specs.Jobs.{object_jobs}
use Rattle.trick_lang.specs.Syntax.{jobs_of}

-- what is made and what is left are all
abbrev pub invariant-loop-place : goal.invariant-loop-place
invariant-loop-place l =
    l.jobs ++ object_jobs l.object l.numbers (jobs_of (take l.place l.lines)) (jobs_of (drop l.place l.lines))
    ≡ l.fn.jobs ++ object_jobs l.object l.numbers [] (jobs_of l.lines)

use Rattle.std.proofs.Common.{◌≡◌, ◌++◌, drop}
use Rattle.trick_check_bodies.proofs.job.jobs.Given as goal
use Rattle.trick_check_bodies.specs.Jobs.{jobs_from}
use Rattle.trick_lang.specs.Syntax.{definitions_of}

-- what is made and what is left are all
abbrev pub invariant-loop-place : goal.invariant-loop-place
invariant-loop-place l =
    l.jobs ++ jobs_from (definitions_of l.definitions) l.numbers l.place (drop l.place l.objects)
    ≡ jobs_from (definitions_of l.definitions) l.numbers 0 l.objects

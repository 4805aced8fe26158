use Rattle.std.proofs.Common.{◌≡◌, ◌≤◌, ◌<◌, ℕ, Some, slice_get}
use Rattle.trick_check_bodies.specs.Classes.{made}
use Rattle.trick_check.proofs.step.first_long.Given as goal
use Rattle.trick_check.specs.Refused.{steps_in}
use Rattle.trick_lang.specs.declared.job.Job.{Job}

-- no job so far has too many steps
abbrev pub invariant-loop-number : goal.invariant-loop-number
invariant-loop-number l =
    (k : ℕ) (job : Job) → k < l.number → slice_get l.jobs k ≡ Some job → steps_in (made l.bodies) job ≤ 1000000

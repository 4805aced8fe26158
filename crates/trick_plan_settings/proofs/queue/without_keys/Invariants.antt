use Rattle.std.proofs.Common.{◌≡◌, ◌++◌, drop}
use Rattle.trick_model.specs.Valid.{ids}
use Rattle.trick_plan_settings.proofs.queue.without_keys.Given as goal
use Rattle.trick_plan_settings.specs.Keys.{jobs_of}

abbrev pub invariant-loop-entry : goal.invariant-loop-entry
invariant-loop-entry l = ids l.jobs ++ jobs_of (drop l.entry-index l.found) ≡ jobs_of l.found

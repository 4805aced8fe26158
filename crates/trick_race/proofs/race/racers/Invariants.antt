use Rattle.std.proofs.Common.{◌≡◌, take}
use Rattle.std.specs.List.{filter}
use Rattle.trick_model.specs.Plan.{is_on_scheduled}
use Rattle.trick_model.specs.Valid.{ids}
use Rattle.trick_race.proofs.race.racers.Given as goal

abbrev pub invariant-loop-job : goal.invariant-loop-job
invariant-loop-job l = ids l.racers.items ≡ filter (is_on_scheduled l.plan.program.jobs l.plan.threads)
    (ids (take l.job-index l.job-items))

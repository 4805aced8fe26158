use Rattle.std.proofs.Common.{◌≡◌, ◌++◌, drop, map}
use Rattle.trick_model.specs.Order.{jobs_in}
use Rattle.trick_model.specs.Valid.{ids}
use Rattle.trick_plan_settings.proofs.queue.queues_of.Given as goal

abbrev pub invariant-loop-class : goal.invariant-loop-class
invariant-loop-class l =
    map ids l.queues ++ map (jobs_in l.program.jobs) (drop l.class-index l.classes) ≡ map (jobs_in l.program.jobs) l.classes

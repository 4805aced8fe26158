use Rattle.trick_access.specs.Accesses.{AreAccessesOf}
use Rattle.trick_access.specs.declared.cells.Access.{Access}
use Rattle.std.proofs.Common.{List, length}
use Rattle.trick_model.specs.PlanOf.{plan_of}
use Rattle.trick_model.specs.declared.plan.Plan.{Plan as PlanValue}
use Rattle.trick_race.specs.Accesses.{AreAccesses}
use Rattle.trick_race.proofs.verdict.judge_cells.Goals as goal

-- what the jobs of a plan's program may read and write is what those of the plan may
of_program : (plan : PlanValue) (accesses : List Access) → AreAccessesOf plan.program accesses
    → AreAccesses (length plan.program.cells) (plan_of plan) accesses
of_program plan accesses are = record {
  many = are.many;
  reads = λ k less. are.reads (record { 0 = k }) less;
  writes = λ k less. are.writes (record { 0 = k }) less;
}

pub shared_writer-requires : goal.shared_writer-requires
shared_writer-requires c = of_program c.args.plan.now c.args.accesses.now c.requires.accesses

pub reach-requires : goal.reach-requires
reach-requires c = of_program c.args.plan.now c.args.accesses.now c.requires.accesses

pub first_race-requires : goal.first_race-requires
first_race-requires c = of_program c.args.plan.now c.args.accesses.now c.requires.accesses

use Rattle.trick_phase_cases.proofs.Trials.{zeros_memory}
use Rattle.trick_phase_cases.proofs.forms.run.Goals as goal

pub tic-after-requires-clause-given : goal.tic-after-requires-clause-given
tic-after-requires-clause-given g c = record {
  memory = zeros_memory c.args.accepted.now.plan c.plan-plan.result.now c.in_ok-memory.memory c.in_ok-memory.ensures c.plan-plan.ensures.plan;
  right = c.requires.due c.plan-plan.result.now.jobs;
  in_range = c.requires.tic;
}

use Rattle.std.proofs.Common.{◌≡◌, drop}
use Rattle.trick_phase_jobs.specs.Belongs.{IsMemoryOf}
use Rattle.trick_model.specs.FaultList.{with_faults}
use Rattle.trick_model.specs.Plan.{is_on}
use Rattle.trick_model.specs.PlanOf.{plan_of}
use Rattle.trick_model.specs.Running.{after_jobs}
use Rattle.trick_model.specs.Valid.{ids}
use Rattle.trick_phase_jobs.proofs.run.run_jobs.Given as goal

-- what is left of the jobs makes of what is there what all jobs make of the beginning
abbrev pub invariant-loop-job : goal.invariant-loop-job
invariant-loop-job g l = record {
  memory : (after_jobs (plan_of l.setting.plan.now) (is_on l.setting.on.now) l.setting.tic (ids (drop l.job-index l.jobs)) (g.M.Cells.numbers l.memory)).memory
      ≡ (after_jobs (plan_of l.setting.plan.now) (is_on l.setting.on.now) l.setting.tic (ids l.jobs) (g.M.Cells.numbers l.fn.memory)).memory;
  faults : with_faults (after_jobs (plan_of l.setting.plan.now) (is_on l.setting.on.now) l.setting.tic (ids (drop l.job-index l.jobs)) (g.M.Cells.numbers l.memory)).faults l.faults
      ≡ with_faults (after_jobs (plan_of l.setting.plan.now) (is_on l.setting.on.now) l.setting.tic (ids l.jobs) (g.M.Cells.numbers l.fn.memory)).faults l.fn.faults;
  belongs : IsMemoryOf l.setting.plan.now.program (g.M.Cells.numbers l.memory) (g.M.Cells.scalars l.memory);
  bench : l.bench.parts ≡ l.fn.bench.parts;
}

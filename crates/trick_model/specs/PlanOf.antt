-- The plan that a value of the code holds.
use Rattle.std.specs.Prelude.{map}
use Rattle.trick_lang.specs.Effect.{effect, reads, scalars_of, writes}
use Rattle.trick_lang.specs.Names.{job_name}
use Rattle.trick_model.specs.Commands.{command_of}
use Rattle.trick_model.specs.Condition.{condition_of, condition_reads}
use Rattle.trick_model.specs.Plan.{Plan, Event}
use Rattle.trick_model.specs.Valid.{cell_names}
use Rattle.trick_model.specs.declared.event.Event.{Event as EventValue}
use Rattle.trick_model.specs.declared.plan.Plan.{Plan as PlanValue}

-- the event that a value of the code holds
abbrev pub event_of : EventValue → Event
event_of event = record {
  name = event.name;
  cycle = event.cycle;
  condition = condition_of event.condition;
  reads = condition_reads event.condition;
  actions = event.actions;
}

-- The jobs mean what their bodies do, the conditions what their expressions say, and clients' lines
-- what their forms say.
abbrev pub plan_of : PlanValue → Plan
plan_of plan = let p = plan.program in record {
  names = cell_names p.cells;
  scalars = scalars_of p.cells;
  jobs = p.jobs;
  job_names = map (job_name p.objects p.methods) p.jobs;
  effect = λ k memory. effect p (record { 0 = k }) memory;
  reads = λ k. reads p (record { 0 = k });
  writes = λ k. writes p (record { 0 = k });
  command = command_of;
  frame = plan.frame;
  limit = plan.limit;
  frozen = plan.frozen;
  threads = plan.threads;
  depends = plan.depends;
  groups = plan.groups;
  events = map event_of plan.events;
  read_ats = plan.reads;
  assigns = plan.assigns;
  jobs_on = plan.jobs;
  events_on = plan.events_on;
  groups_on = plan.groups_on;
}

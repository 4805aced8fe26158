-- What a plan means, by what the lines have said.
use Rattle.std.specs.List.{slice_index_or}
use Rattle.std.specs.Prelude.{ℤ, pos, List, [], length, map, replicate, Option, Some, None, option_map, Result, Ok}
use Rattle.trick_plan_draft.specs.Cells.{only_names}
use Rattle.trick_plan_draft.specs.declared.draft.Draft.{Draft}
use Rattle.trick_plan_draft.specs.declared.event.EventDraft.{EventDraft}
use Rattle.trick_plan_draft.specs.declared.group.GroupDraft.{GroupDraft}
use Rattle.trick_plan_ending.specs.Added.{added}
use Rattle.trick_plan_ending.specs.Ending.{plan_group}
use Rattle.trick_lang.specs.Access.{term_reads}
use Rattle.trick_lang.specs.Effect.{base_of, body_of, reads, writes}
use Rattle.trick_lang.specs.Names.{job_name}
use Rattle.trick_lang.specs.Numbers.{and_then}
use Rattle.trick_lang.specs.Run.{State, block_runs}
use Rattle.trick_lang.specs.Tree.{Term}
use Rattle.trick_lang.specs.TreeOf.{codes_of}
use Rattle.trick_lang.specs.declared.fault.StatementFault.{StatementFault}
use Rattle.trick_lang.specs.declared.job.JobId.{JobId}
use Rattle.trick_lang.specs.declared.program.Program.{Program}
use Rattle.trick_lang.specs.declared.range.CellRange.{CellRange}
use Rattle.trick_lang.specs.declared.scalar.Scalar.{Scalar}
use Rattle.trick_model.specs.Commands.{command_of}
use Rattle.trick_model.specs.Condition.{condition_value}
use Rattle.trick_model.specs.Plan.{Event, Plan}
use Rattle.trick_plan_settings.specs.declared.settings.Settings.{Settings}

-- the cells that a condition reads; an event may have none
abbrev pub tree_reads : Option Term → List CellRange
tree_reads None = []
tree_reads (Some e) = term_reads e 0

-- the event that lines have made
abbrev pub event_said : EventDraft → Event
event_said draft = record {
  name = draft.name;
  cycle = draft.cycle;
  condition = option_map condition_value draft.condition;
  reads = tree_reads draft.condition;
  actions = draft.actions;
}

-- The effect of a job of a program on a memory of cells of these types, of which the input may have declared
-- some: by cell, the last number that it stored there, or its first fault.
abbrev pub effect_among : Program → List Scalar → JobId → List ℤ → Result (List (Option ℤ)) StatementFault
effect_among p scalars job memory =
    let begun : State = record { stored = replicate (length scalars) None; locals = replicate p.slots None } in
    and_then
    (block_runs scalars (base_of p job) (λ c. slice_index_or memory c (pos 0)) (codes_of p.blocks) (body_of p job)
    begun)
    (λ s. Ok s.stored)

-- The plan that a draft and settings give to a program: the jobs are those of the program, the cells are those
-- that the draft knows, and the groups and events are those that are added, in the order of their adding.
abbrev pub plan_said : Program → Settings → Draft → Plan
plan_said p s d = record {
  names = only_names d.cells.names;
  scalars = d.cells.scalars;
  jobs = p.jobs;
  job_names = map (job_name p.objects p.methods) p.jobs;
  effect = λ k memory. effect_among p d.cells.scalars (record { 0 = k }) memory;
  reads = λ k. reads p (record { 0 = k });
  writes = λ k. writes p (record { 0 = k });
  command = command_of;
  frame = s.frame;
  limit = s.limit;
  frozen = s.frozen;
  threads = s.threads;
  depends = d.depends;
  groups = map plan_group (added d.groups d.added_groups);
  events = map event_said (added d.events d.added_events);
  read_ats = d.reads;
  assigns = d.assigns;
  jobs_on = d.jobs;
  events_on = record { on = map (λ (event : EventDraft). event.on) (added d.events d.added_events) };
  groups_on = record { on = map (λ (group : GroupDraft). group.on) (added d.groups d.added_groups) };
}

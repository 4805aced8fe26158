use Rattle.std.proofs.Common.{◌≡◌, List, Some, All, IsTrue, length, map, refl, subst, sym}
use Rattle.trick_plan_variables.proofs.Plans.{KeepsNames, names_kept, rest_of, some_more}
use Rattle.trick_plan_variables.proofs.declaring.declare.Goals as goal
use Rattle.trick_plan_variables.specs.Cells.{KeepsRest, added}
use Rattle.trick_lang.specs.declared.job.Job.{Job}
use Rattle.trick_model.specs.Plan.{has_thread}
use Rattle.trick_model.specs.Valid.{IsPair, ids, is_there, queues_of}
use Rattle.trick_model.specs.declared.thread.Thread.{Thread}

pub invariant_of-plan-2 : goal.invariant_of-plan-2
invariant_of-plan-2 c =
    let plan = c.args.plan.now in
    let old = plan.program in
    let new = c.add.new.program in
    let rest : KeepsRest old new = rest_of _ old new c.add.ensures.rest refl refl refl refl refl refl refl in
    let more = some_more (added old.objects old.cells (Some c.in-Some.known.declaration)) c.add.result old.cells new.cells c.add.ensures.cells in
    let held : KeepsNames old plan.groups plan.events plan.reads plan.assigns = record {
      group_cells = plan.group_cells;
      assigns_right = plan.assigns_right;
      event_actions = plan.event_actions;
      read_actions = plan.read_actions;
      conditions_right = plan.conditions_right;
    } in
    let kept = names_kept old new more.0 plan.groups plan.events plan.reads plan.assigns more.1 rest held in
    record {
      threads_rise = plan.threads_rise;
      thread_limit = plan.thread_limit;
      main_thread = plan.main_thread;
      job_threads = subst (λ (jobs : List Job). All (λ (job : Job). IsTrue (has_thread plan.threads job.thread)) jobs) (sym rest.jobs) plan.job_threads;
      needed_threads = subst (λ (jobs : List Job). All (λ (thread : Thread). IsTrue (is_there jobs thread)) plan.threads) (sym rest.jobs) plan.needed_threads;
      main_right = plan.main_right;
      queues_right = subst (λ (jobs : List Job). map ids plan.queues ≡ queues_of jobs) (sym rest.jobs) plan.queues_right;
      frame_right = plan.frame_right;
      limit_right = plan.limit_right;
      thread_cycles = plan.thread_cycles;
      group_cycles = plan.group_cycles;
      event_cycles = plan.event_cycles;
      read_tics = plan.read_tics;
      groups_differ = plan.groups_differ;
      events_differ = plan.events_differ;
      pairs_right = subst (λ (jobs : List Job). All (IsPair jobs plan.threads) plan.depends) (sym rest.jobs) plan.pairs_right;
      group_cells = kept.group_cells;
      assigns_right = kept.assigns_right;
      event_actions = kept.event_actions;
      read_actions = kept.read_actions;
      conditions_right = kept.conditions_right;
      actions_numbered = plan.actions_numbered;
      jobs_flagged = subst (λ (jobs : List Job). length plan.jobs.on ≡ length jobs) (sym rest.jobs) plan.jobs_flagged;
      events_flagged = plan.events_flagged;
      groups_flagged = plan.groups_flagged;
      group_limit = plan.group_limit;
      variable_limit = plan.variable_limit;
      event_limit = plan.event_limit;
      pair_limit = plan.pair_limit;
      read_limit = plan.read_limit;
    }

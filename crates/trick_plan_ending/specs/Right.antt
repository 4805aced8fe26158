-- The facts that a plan keeps, of its parts.
use Rattle.std.specs.Prelude.{◌≡◌, ◌+◌, ◌≤◌, All, IsTrue, length, map}
use Rattle.trick_plan_ending.specs.declared.parts.Parts.{Parts}
use Rattle.trick_lang.specs.declared.job.Job.{Job}
use Rattle.trick_lang.specs.declared.program.Program.{Program}
use Rattle.trick_model.specs.Condition.{is_condition_of}
use Rattle.trick_model.specs.Plan.{has_thread}
use Rattle.trick_base.specs.Time.{tic_limit}
use Rattle.trick_model.specs.Valid.{all_differ, AreDeedsAmong, AreNumbered, event_names, group_names, ids, IsAssignment, IsCell, IsCycle, IsDeedAmong, IsFrame, IsMainRight, IsPair, is_there, names_in, queues_of, rises, thread_numbers}
use Rattle.trick_model.specs.declared.event.Event.{Event}
use Rattle.trick_model.specs.declared.group.Group.{Group}
use Rattle.trick_model.specs.declared.read_at.ReadAt.{ReadAt}
use Rattle.trick_model.specs.declared.thread.Thread.{Thread}

-- The facts that a plan of this program with these parts keeps, by the names that they have there.
pub record AreRight (p : Program) (parts : Parts) : Type 0 where
  pub threads_rise : IsTrue (rises (thread_numbers parts.threads))
  pub thread_limit : All (λ (thread : Thread). thread.number ≤ 15) parts.threads
  pub main_thread : IsTrue (has_thread parts.threads 0)
  pub job_threads : All (λ (job : Job). IsTrue (has_thread parts.threads job.thread)) p.jobs
  pub needed_threads : All (λ (thread : Thread). IsTrue (is_there p.jobs thread)) parts.threads
  pub main_right : All IsMainRight parts.threads
  pub queues_right : map ids parts.queues ≡ queues_of p.jobs
  pub frame_right : IsFrame parts.frame
  pub limit_right : parts.limit ≤ tic_limit + 1
  pub thread_cycles : All (λ (thread : Thread). IsCycle thread.cycle) parts.threads
  pub group_cycles : All (λ (group : Group). IsCycle group.cycle) parts.groups
  pub event_cycles : All (λ (event : Event). IsCycle event.cycle) parts.events
  pub read_tics : All (λ (read : ReadAt). read.tic ≤ tic_limit) parts.reads
  pub groups_differ : IsTrue (all_differ (group_names parts.groups))
  pub events_differ : IsTrue (all_differ (event_names parts.events))
  pub pairs_right : All (IsPair p.jobs parts.threads) parts.depends
  pub group_cells : All (λ (group : Group). All (IsCell (length p.cells)) group.cells) parts.groups
  pub assigns_right : All (IsAssignment p.cells) parts.assigns
  pub event_actions : All (λ (event : Event). AreDeedsAmong (names_in p parts.groups parts.events) event.actions) parts.events
  pub read_actions : All (λ (read : ReadAt). All (IsDeedAmong (names_in p parts.groups parts.events)) read.actions)
      parts.reads
  pub conditions_right : All (λ (event : Event). IsTrue (is_condition_of (length p.cells) event.condition)) parts.events
  pub actions_numbered : All AreNumbered parts.events
  pub jobs_flagged : length parts.jobs.on ≡ length p.jobs
  pub events_flagged : length parts.events_on.on ≡ length parts.events
  pub groups_flagged : length parts.groups_on.on ≡ length parts.groups
  pub group_limit : length parts.groups ≤ 64
  pub variable_limit : All (λ (group : Group). length group.cells ≤ 256) parts.groups
  pub event_limit : length parts.events ≤ 256
  pub pair_limit : length parts.depends ≤ 512
  pub read_limit : length parts.reads ≤ 4096

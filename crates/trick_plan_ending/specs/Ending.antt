-- The plan that the lines of an input give, once all of them were taken.
use Rattle.std.specs.Prelude.{◌≡◌, ℕ, List, map, Option, option_map}
use Rattle.trick_plan_draft.specs.Drafts.{names_of}
use Rattle.trick_plan_draft.specs.Jobs.{jobs_of}
use Rattle.trick_plan_draft.specs.declared.draft.Draft.{Draft}
use Rattle.trick_plan_draft.specs.declared.event.EventDraft.{EventDraft}
use Rattle.trick_plan_draft.specs.declared.group.GroupDraft.{GroupDraft}
use Rattle.trick_plan_ending.specs.Added.{added}
use Rattle.trick_plan_ending.specs.declared.parts.Parts.{Parts}
use Rattle.trick_lang.specs.SyntaxTree.{Name}
use Rattle.trick_lang.specs.Tree.{Term}
use Rattle.trick_lang.specs.TreeOf.{term_of}
use Rattle.trick_lang.specs.declared.program.Program.{Program}
use Rattle.trick_model.specs.Valid.{names_in}
use Rattle.trick_model.specs.declared.deed.Deed.{Deed}
use Rattle.trick_model.specs.declared.event.Event.{Event}
use Rattle.trick_model.specs.declared.group.Group.{Group}
use Rattle.trick_model.specs.declared.plan.Plan.{Plan}
use Rattle.trick_plan_settings.specs.declared.settings.Settings.{Settings}

-- ---- groups and events

-- the group of a plan that a draft gives
abbrev pub plan_group : GroupDraft → Group
plan_group draft = record { name = draft.name; cycle = draft.cycle; changes = draft.changes; cells = draft.cells }

-- an event with the tree of its condition, which it may lack, and its deeds by rising number
pub record EventTree : Type 0 where
  pub name : Name
  pub cycle : ℕ
  pub condition : Option Term
  pub actions : List (ℕ × List Deed)

-- the tree of an event
abbrev pub event_tree : Event → EventTree
event_tree event = record {
  name = event.name;
  cycle = event.cycle;
  condition = option_map term_of event.condition;
  actions = event.actions;
}

-- the tree of an event as the lines have made it
abbrev pub draft_tree : EventDraft → EventTree
draft_tree draft = record {
  name = draft.name;
  cycle = draft.cycle;
  condition = draft.condition;
  actions = draft.actions;
}

-- ---- plans

-- what a plan has beside its program
abbrev pub parts_of : Plan → Parts
parts_of plan = record {
  frame = plan.frame;
  limit = plan.limit;
  frozen = plan.frozen;
  threads = plan.threads;
  queues = plan.queues;
  depends = plan.depends;
  groups = plan.groups;
  events = plan.events;
  reads = plan.reads;
  assigns = plan.assigns;
  jobs = plan.jobs;
  events_on = plan.events_on;
  groups_on = plan.groups_on;
}

-- The parts of a plan are what the lines say. Groups and events are those that are added, in the order
-- of their adding, each with its flag; a group or event that is not added is not in the plan.
pub record AreParts (d : Draft) (s : Settings) (parts : Parts) : Type 0 where
  pub frame : parts.frame ≡ s.frame
  pub limit : parts.limit ≡ s.limit
  pub frozen : parts.frozen ≡ s.frozen
  pub threads : parts.threads ≡ s.threads
  pub depends : parts.depends ≡ d.depends
  pub groups : parts.groups ≡ map plan_group (added d.groups d.added_groups)
  pub groups_on : parts.groups_on.on ≡ map (λ (group : GroupDraft). group.on) (added d.groups d.added_groups)
  pub events : map event_tree parts.events ≡ map draft_tree (added d.events d.added_events)
  pub events_on : parts.events_on.on ≡ map (λ (event : EventDraft). event.on) (added d.events d.added_events)
  pub reads : parts.reads ≡ d.reads
  pub assigns : parts.assigns ≡ d.assigns
  pub jobs : parts.jobs ≡ d.jobs

-- The plan of a program that a draft and settings give. Its queues are facts of every plan.
pub record IsEnding (p : Program) (d : Draft) (s : Settings) (plan : Plan) : Type 0 where
  pub program : plan.program ≡ p
  pub parts : AreParts d s (parts_of plan)
  -- actions can have the same names
  pub names : names_of (jobs_of p) d ≡ names_in plan.program plan.groups plan.events

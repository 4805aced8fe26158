-- A plan means what the lines have said.
use Rattle.std.proofs.Common.{◌≡◌, ◌∙◌, ℕ, suc, ℤ, pos, Bool, List, [], ◌∷◌, Option, Some, None, Ok, length, map, slice_index_or, refl, sym, ap}
use Rattle.std.specs.Prelude.{option_map, replicate, slice_get}
use Rattle.trick_plan_variables.specs.Cells.{KeepsRest}
use Rattle.trick_plan_draft.specs.Cells.{only_names}
use Rattle.trick_plan_draft.specs.Kept.{IsMirrored, Mirrors}
use Rattle.trick_plan_draft.specs.declared.draft.Draft.{Draft}
use Rattle.trick_plan_draft.specs.declared.event.EventDraft.{EventDraft}
use Rattle.trick_plan_draft.specs.declared.group.GroupDraft.{GroupDraft}
use Rattle.trick_plan_ending.specs.Added.{added}
use Rattle.trick_plan_ending.specs.Ending.{AreParts, EventTree, draft_tree, event_tree, parts_of, plan_group}
use Rattle.trick_input.specs.declared.call.Call.{Call}
use Rattle.trick_lang.specs.Access.{block_reads, block_writes}
use Rattle.trick_lang.specs.Effect.{first_of, object_of, scalars_of}
use Rattle.trick_lang.specs.Names.{job_name}
use Rattle.trick_lang.specs.Numbers.{and_then}
use Rattle.trick_lang.specs.Run.{block_runs}
use Rattle.trick_lang.specs.SyntaxTree.{Name}
use Rattle.trick_lang.specs.TreeOf.{codes_of, term_of}
use Rattle.trick_lang.specs.Valid.{block_of, method_of}
use Rattle.trick_lang.specs.declared.tree.Block.{Block}
use Rattle.trick_lang.specs.declared.cells.Cell.{Cell}
use Rattle.trick_lang.specs.declared.job.Job.{Job}
use Rattle.trick_lang.specs.declared.method.Method.{Method}
use Rattle.trick_lang.specs.declared.object.Object.{Object}
use Rattle.trick_lang.specs.declared.program.Program.{Program}
use Rattle.trick_lang.specs.declared.scalar.Scalar.{Scalar}
use Rattle.trick_lang.specs.declared.tree.Expr.{Expr}
use Rattle.trick_lang.specs.declared.variable.Variable.{Variable}
use Rattle.trick_model.specs.Commands.{command_of}
use Rattle.trick_model.specs.Condition.{condition_of, condition_reads, condition_value}
use Rattle.trick_model.specs.Plan.{Event, Plan}
use Rattle.trick_model.specs.PlanOf.{event_of, plan_of}
use Rattle.trick_model.specs.Valid.{cell_names}
use Rattle.trick_model.specs.declared.depends.Depends.{Depends}
use Rattle.trick_model.specs.declared.event.Event.{Event as EventValue}
use Rattle.trick_model.specs.declared.flags.Flags.{Flags}
use Rattle.trick_model.specs.declared.group.Group.{Group}
use Rattle.trick_model.specs.declared.plan.Plan.{Plan as PlanValue}
use Rattle.trick_model.specs.declared.read_at.ReadAt.{ReadAt}
use Rattle.trick_model.specs.declared.thread.Thread.{Thread}
use Rattle.trick_plan.specs.Meaning.{event_said, plan_said, tree_reads}
use Rattle.trick_plan.specs.Plan.{HasDraft}
use Rattle.trick_plan_settings.specs.Settings.{settings_in}
use Rattle.trick_plan_settings.specs.declared.settings.Settings.{Settings}

-- ---- a plan by its parts

-- the parts of a program that a plan speaks of
record Base : Type 0 where
  names : List Name
  scalars : List Scalar
  count : ℕ
  objects : List Object
  blocks : List Block
  methods : List Method
  jobs : List Job
  slots : ℕ

-- the other parts of a plan
record Other : Type 0 where
  frame : ℕ
  limit : ℕ
  frozen : Bool
  threads : List Thread
  depends : List Depends
  groups : List Group
  events : List Event
  reads : List ReadAt
  assigns : List (Cell × ℤ)
  jobs_on : Flags
  events_on : Flags
  groups_on : Flags

abbrev plan_from : Base → Other → Plan
plan_from b o = record {
  names = b.names;
  scalars = b.scalars;
  jobs = b.jobs;
  job_names = map (job_name b.objects b.methods) b.jobs;
  effect = λ k memory.
      and_then
      (block_runs b.scalars (first_of (object_of b.objects (slice_get b.jobs k))) (λ c. slice_index_or memory c (pos 0))
      (codes_of b.blocks) (block_of (length b.blocks) (method_of b.methods (slice_get b.jobs k)))
      (record { stored = replicate b.count None; locals = replicate b.slots None }))
      (λ s. Ok s.stored);
  reads = λ k. block_reads (first_of (object_of b.objects (slice_get b.jobs k))) (codes_of b.blocks)
      (block_of (length b.blocks) (method_of b.methods (slice_get b.jobs k)));
  writes = λ k. block_writes (first_of (object_of b.objects (slice_get b.jobs k))) (codes_of b.blocks)
      (block_of (length b.blocks) (method_of b.methods (slice_get b.jobs k)));
  command = command_of;
  frame = o.frame;
  limit = o.limit;
  frozen = o.frozen;
  threads = o.threads;
  depends = o.depends;
  groups = o.groups;
  events = o.events;
  read_ats = o.reads;
  assigns = o.assigns;
  jobs_on = o.jobs_on;
  events_on = o.events_on;
  groups_on = o.groups_on;
}

-- ---- events

abbrev of_tree : EventTree → Event
of_tree tree = record {
  name = tree.name;
  cycle = tree.cycle;
  condition = option_map condition_value tree.condition;
  reads = tree_reads tree.condition;
  actions = tree.actions;
}

same_event : (event : EventValue) → event_of event ≡ of_tree (event_tree event)
same_event event = by event.condition
  where
    with : Option Expr → Event
    with condition = record {
      name = event.name;
      cycle = event.cycle;
      condition = condition_of condition;
      reads = condition_reads condition;
      actions = event.actions;
    }

    of : Option Expr → Event
    of condition = of_tree (record {
      name = event.name;
      cycle = event.cycle;
      condition = option_map term_of condition;
      actions = event.actions;
    })

    by : (condition : Option Expr) → with condition ≡ of condition
    by None = refl
    by (Some e) = refl

same_events : (events : List EventValue) → map event_of events ≡ map of_tree (map event_tree events)
same_events [] = refl
same_events (event ∷ events) =
    ap (λ (e : Event). e ∷ map event_of events) (same_event event)
    ∙ ap (λ (es : List Event). of_tree (event_tree event) ∷ es) (same_events events)

said_events : (drafts : List EventDraft) → map of_tree (map draft_tree drafts) ≡ map event_said drafts
said_events [] = refl
said_events (draft ∷ drafts) = ap (λ (es : List Event). event_said draft ∷ es) (said_events drafts)

events_are : (events : List EventValue) (drafts : List EventDraft) → map event_tree events ≡ map draft_tree drafts
    → map event_of events ≡ map event_said drafts
events_are events drafts are =
    same_events events ∙ (ap (λ (trees : List EventTree). map of_tree trees) are ∙ said_events drafts)

-- ---- what a plan means

as_many : (cells : List Variable) → length cells ≡ length (scalars_of cells)
as_many [] = refl
as_many (cell ∷ cells) = ap suc (as_many cells)

same_base : (p q : Program) (d : Draft) → KeepsRest p q → IsMirrored q d → (o : Other)
    → plan_from (record {
      names = cell_names q.cells;
      scalars = scalars_of q.cells;
      count = length q.cells;
      objects = q.objects;
      blocks = q.blocks;
      methods = q.methods;
      jobs = q.jobs;
      slots = q.slots;
    }) o
    ≡ plan_from (record {
      names = only_names d.cells.names;
      scalars = d.cells.scalars;
      count = length d.cells.scalars;
      objects = p.objects;
      blocks = p.blocks;
      methods = p.methods;
      jobs = p.jobs;
      slots = p.slots;
    }) o
same_base p q d rest mirrors o =
    let count : length q.cells ≡ length d.cells.scalars =
    as_many q.cells ∙ ap (λ (all : List Scalar). length all) (sym mirrors.scalars) in
    let b0 : Base = record {
      names = cell_names q.cells;
      scalars = scalars_of q.cells;
      count = length q.cells;
      objects = q.objects;
      blocks = q.blocks;
      methods = q.methods;
      jobs = q.jobs;
      slots = q.slots;
    } in
    let b1 : Base = record b0 { names = only_names d.cells.names } in
    let b2 : Base = record b1 { scalars = d.cells.scalars } in
    let b3 : Base = record b2 { count = length d.cells.scalars } in
    let b4 : Base = record b3 { objects = p.objects } in
    let b5 : Base = record b4 { blocks = p.blocks } in
    let b6 : Base = record b5 { methods = p.methods } in
    let b7 : Base = record b6 { jobs = p.jobs } in
    ap (λ (x : List Name). plan_from (record b0 { names = x }) o) (sym mirrors.names)
    ∙ (ap (λ (x : List Scalar). plan_from (record b1 { scalars = x }) o) (sym mirrors.scalars)
    ∙ (ap (λ (x : ℕ). plan_from (record b2 { count = x }) o) count
    ∙ (ap (λ (x : List Object). plan_from (record b3 { objects = x }) o) rest.objects
    ∙ (ap (λ (x : List Block). plan_from (record b4 { blocks = x }) o) rest.blocks
    ∙ (ap (λ (x : List Method). plan_from (record b5 { methods = x }) o) rest.methods
    ∙ (ap (λ (x : List Job). plan_from (record b6 { jobs = x }) o) rest.jobs
    ∙ ap (λ (x : ℕ). plan_from (record b7 { slots = x }) o) rest.slots))))))

same_other : (b : Base) (s : Settings) (d : Draft) (plan : PlanValue) → AreParts d s (parts_of plan)
    → plan_from b (record {
      frame = plan.frame;
      limit = plan.limit;
      frozen = plan.frozen;
      threads = plan.threads;
      depends = plan.depends;
      groups = plan.groups;
      events = map event_of plan.events;
      reads = plan.reads;
      assigns = plan.assigns;
      jobs_on = plan.jobs;
      events_on = plan.events_on;
      groups_on = plan.groups_on;
    })
    ≡ plan_from b (record {
      frame = s.frame;
      limit = s.limit;
      frozen = s.frozen;
      threads = s.threads;
      depends = d.depends;
      groups = map plan_group (added d.groups d.added_groups);
      events = map event_said (added d.events d.added_events);
      reads = d.reads;
      assigns = d.assigns;
      jobs_on = d.jobs;
      events_on = record { on = map (λ (event : EventDraft). event.on) (added d.events d.added_events) };
      groups_on = record { on = map (λ (group : GroupDraft). group.on) (added d.groups d.added_groups) };
    })
same_other b s d plan are =
    let o0 : Other = record {
      frame = plan.frame;
      limit = plan.limit;
      frozen = plan.frozen;
      threads = plan.threads;
      depends = plan.depends;
      groups = plan.groups;
      events = map event_of plan.events;
      reads = plan.reads;
      assigns = plan.assigns;
      jobs_on = plan.jobs;
      events_on = plan.events_on;
      groups_on = plan.groups_on;
    } in
    let o1 : Other = record o0 { frame = s.frame } in
    let o2 : Other = record o1 { limit = s.limit } in
    let o3 : Other = record o2 { frozen = s.frozen } in
    let o4 : Other = record o3 { threads = s.threads } in
    let o5 : Other = record o4 { depends = d.depends } in
    let o6 : Other = record o5 { groups = map plan_group (added d.groups d.added_groups) } in
    let o7 : Other = record o6 { events = map event_said (added d.events d.added_events) } in
    let o8 : Other = record o7 { reads = d.reads } in
    let o9 : Other = record o8 { assigns = d.assigns } in
    let o10 : Other = record o9 { jobs_on = d.jobs } in
    let o11 : Other = record o10 {
      events_on = record { on = map (λ (event : EventDraft). event.on) (added d.events d.added_events) };
    } in
    let events : map event_of plan.events ≡ map event_said (added d.events d.added_events) =
    events_are plan.events (added d.events d.added_events) are.events in
    ap (λ (x : ℕ). plan_from b (record o0 { frame = x })) are.frame
    ∙ (ap (λ (x : ℕ). plan_from b (record o1 { limit = x })) are.limit
    ∙ (ap (λ (x : Bool). plan_from b (record o2 { frozen = x })) are.frozen
    ∙ (ap (λ (x : List Thread). plan_from b (record o3 { threads = x })) are.threads
    ∙ (ap (λ (x : List Depends). plan_from b (record o4 { depends = x })) are.depends
    ∙ (ap (λ (x : List Group). plan_from b (record o5 { groups = x })) are.groups
    ∙ (ap (λ (x : List Event). plan_from b (record o6 { events = x })) events
    ∙ (ap (λ (x : List ReadAt). plan_from b (record o7 { reads = x })) are.reads
    ∙ (ap (λ (x : List (Cell × ℤ)). plan_from b (record o8 { assigns = x })) are.assigns
    ∙ (ap (λ (x : Flags). plan_from b (record o9 { jobs_on = x })) are.jobs
    ∙ (ap (λ (x : List Bool). plan_from b (record o10 { events_on = record { on = x } })) are.events_on
    ∙ ap (λ (x : List Bool). plan_from b (record o11 { groups_on = record { on = x } })) are.groups_on))))))))))

pub meaning : ((q : Program) (d : Draft) → Mirrors q d → IsMirrored q d)
    → (p : Program) (calls : List Call) (plan : PlanValue) (d : Draft) → HasDraft p calls plan d
    → plan_of plan ≡ plan_said p (settings_in p.jobs calls) d
meaning mirrored p calls plan d has =
    let other : Other = record {
      frame = plan.frame;
      limit = plan.limit;
      frozen = plan.frozen;
      threads = plan.threads;
      depends = plan.depends;
      groups = plan.groups;
      events = map event_of plan.events;
      reads = plan.reads;
      assigns = plan.assigns;
      jobs_on = plan.jobs;
      events_on = plan.events_on;
      groups_on = plan.groups_on;
    } in
    let base : Base = record {
      names = only_names d.cells.names;
      scalars = d.cells.scalars;
      count = length d.cells.scalars;
      objects = p.objects;
      blocks = p.blocks;
      methods = p.methods;
      jobs = p.jobs;
      slots = p.slots;
    } in
    same_base p plan.program d has.rest (mirrored plan.program d has.cells) other
    ∙ same_other base (settings_in p.jobs calls) d plan has.parts

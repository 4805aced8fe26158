-- Programs with the same parts have the same answers and the same plans.
use Rattle.std.proofs.Common.{◌≡◌, ◌∙◌, ℕ, pos, true, List, [], None, Result, Ok, ap, length, map, refl, replicate, subst, sym}
use Rattle.std.specs.List.{slice_get, slice_index_or}
use Rattle.trick_check_blocks.proofs.Rows.{bodies_many, codes_are}
use Rattle.trick_check_blocks.specs.Bodies.{Body}
use Rattle.trick_check_blocks.specs.Kept.{codes_in}
use Rattle.trick_plan_draft.specs.Cells.{known_cells, only_names}
use Rattle.trick_plan_draft.specs.Drafts.{with_items}
use Rattle.trick_plan_draft.specs.declared.draft.Draft.{Draft}
use Rattle.trick_plan_draft.specs.declared.event.EventDraft.{EventDraft}
use Rattle.trick_plan_draft.specs.declared.group.GroupDraft.{GroupDraft}
use Rattle.trick_plan_ending.specs.Added.{added}
use Rattle.trick_plan_ending.specs.Ending.{plan_group}
use Rattle.trick_input.specs.declared.call.Call.{Call}
use Rattle.trick_lang.specs.Access.{block_reads, block_writes}
use Rattle.trick_lang.specs.Effect.{first_of, object_of}
use Rattle.trick_lang.specs.Names.{job_name}
use Rattle.trick_lang.specs.Numbers.{and_then}
use Rattle.trick_lang.specs.Run.{State, block_runs}
use Rattle.trick_lang.specs.Tree.{Code}
use Rattle.trick_lang.specs.TreeOf.{codes_of}
use Rattle.trick_lang.specs.Valid.{block_of, method_of}
use Rattle.trick_lang.specs.declared.job.Job.{Job}
use Rattle.trick_lang.specs.declared.method.Method.{Method}
use Rattle.trick_lang.specs.declared.object.Object.{Object}
use Rattle.trick_lang.specs.declared.program.Program.{Program}
use Rattle.trick_lang.specs.declared.variable.EnumItem.{EnumItem}
use Rattle.trick_lang.specs.declared.variable.Variable.{Variable}
use Rattle.trick_plan_lines.specs.Drafted.{Drafted}
use Rattle.trick_plan_lines.specs.declared.fault.JoinFault.{JoinFault}
use Rattle.trick_model.specs.Commands.{command_of}
use Rattle.trick_model.specs.Plan.{Plan}
use Rattle.trick_plan.specs.Plan.{AreAnswered}
use Rattle.trick_plan.specs.Meaning.{event_said, plan_said}
use Rattle.trick_check.specs.Named.{AreSame}
use Rattle.trick_plan_settings.specs.Settings.{settings_in}
use Rattle.trick_plan_settings.specs.declared.settings.Settings.{Settings}

-- ---- answers

abbrev begun_by : List Object → List Job → List Variable → List EnumItem → Draft
begun_by objects jobs cells items = record {
  cells = known_cells objects cells;
  items = with_items items [];
  variables = [];
  group_names = [];
  event_names = [];
  groups = [];
  events = [];
  added_groups = [];
  added_events = [];
  depends = [];
  reads = [];
  assigns = [];
  jobs = record { on = replicate (length jobs) true };
}

abbrev AnsweredBy : List Object → List Method → List Job → List Variable → List EnumItem → List Call
    → Result Draft JoinFault → Type 0
AnsweredBy objects methods jobs cells items calls answer =
    Drafted (record { names = map (job_name objects methods) jobs; all = jobs }) (settings_in jobs calls) calls
    (begun_by objects jobs cells items) answer

pub answered_same : (p q : Program) → AreSame p q → (calls : List Call) (answer : Result Draft JoinFault)
    → AreAnswered p calls answer → AreAnswered q calls answer
answered_same p q same calls answer has =
    subst (λ objects. AnsweredBy objects q.methods q.jobs q.cells q.items calls answer) same.objects
    (subst (λ methods. AnsweredBy p.objects methods q.jobs q.cells q.items calls answer) same.methods
    (subst (λ jobs. AnsweredBy p.objects p.methods jobs q.cells q.items calls answer) same.jobs
    (subst (λ cells. AnsweredBy p.objects p.methods p.jobs cells q.items calls answer) same.cells
    (subst (λ items. AnsweredBy p.objects p.methods p.jobs p.cells items calls answer) same.items has))))

-- ---- plans

abbrev first_by : List Object → List Job → ℕ → ℕ
first_by objects jobs k = first_of (object_of objects (slice_get jobs k))

abbrev body_by : ℕ → List Method → List Job → ℕ → ℕ
body_by count methods jobs k = block_of count (method_of methods (slice_get jobs k))

abbrev plan_by : List Object → List Method → List Job → ℕ → List (List Code) → ℕ → Settings → Draft → Plan
plan_by objects methods jobs slots codes count s d = record {
  names = only_names d.cells.names;
  scalars = d.cells.scalars;
  jobs = jobs;
  job_names = map (job_name objects methods) jobs;
  effect = λ k memory.
      let begun : State = record { stored = replicate (length d.cells.scalars) None; locals = replicate slots None } in
      and_then
      (block_runs d.cells.scalars (first_by objects jobs k) (λ c. slice_index_or memory c (pos 0)) codes
      (body_by count methods jobs k) begun)
      (λ s. Ok s.stored);
  reads = λ k. block_reads (first_by objects jobs k) codes (body_by count methods jobs k);
  writes = λ k. block_writes (first_by objects jobs k) codes (body_by count methods jobs k);
  command = command_of;
  frame = s.frame;
  limit = s.limit;
  frozen = s.frozen;
  threads = s.threads;
  depends = d.depends;
  groups = map plan_group (added d.groups d.added_groups);
  events = map event_said (added d.events d.added_events);
  read_ats = d.reads;
  assigns = d.assigns;
  jobs_on = d.jobs;
  events_on = record { on = map (λ (event : EventDraft). event.on) (added d.events d.added_events) };
  groups_on = record { on = map (λ (group : GroupDraft). group.on) (added d.groups d.added_groups) };
}

is_by : (p : Program) (s : Settings) (d : Draft)
    → plan_said p s d ≡ plan_by p.objects p.methods p.jobs p.slots (codes_of p.blocks) (length p.blocks) s d
is_by p s d = refl

by_same : (p q : Program) → AreSame p q → (codes : List (List Code)) (count : ℕ) (s : Settings) (d : Draft)
    → plan_by p.objects p.methods p.jobs p.slots codes count s d ≡ plan_by q.objects q.methods q.jobs q.slots codes count s d
by_same p q same codes count s d =
    ap (λ objects. plan_by objects p.methods p.jobs p.slots codes count s d) same.objects
    ∙ ap (λ methods. plan_by q.objects methods p.jobs p.slots codes count s d) same.methods
    ∙ ap (λ jobs. plan_by q.objects q.methods jobs p.slots codes count s d) same.jobs
    ∙ ap (λ slots. plan_by q.objects q.methods q.jobs slots codes count s d) same.slots

codes_same : (p q : Program) → AreSame p q → codes_of p.blocks ≡ codes_of q.blocks
codes_same p q same = sym (codes_are p.blocks) ∙ ap (λ (bodies : List Body). codes_in bodies) same.blocks ∙ codes_are q.blocks

count_same : (p q : Program) → AreSame p q → length p.blocks ≡ length q.blocks
count_same p q same =
    sym (bodies_many p.blocks) ∙ ap (λ (bodies : List Body). length bodies) same.blocks ∙ bodies_many q.blocks

pub said_same : (p q : Program) → AreSame p q → (s : Settings) (d : Draft) → plan_said p s d ≡ plan_said q s d
said_same p q same s d =
    is_by p s d
    ∙ ap (λ codes. plan_by p.objects p.methods p.jobs p.slots codes (length p.blocks) s d) (codes_same p q same)
    ∙ ap (λ count. plan_by p.objects p.methods p.jobs p.slots (codes_of q.blocks) count s d) (count_same p q same)
    ∙ by_same p q same (codes_of q.blocks) (length q.blocks) s d
    ∙ sym (is_by q s d)

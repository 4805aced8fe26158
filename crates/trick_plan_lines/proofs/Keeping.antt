-- What a line that is taken keeps of a draft.
use Rattle.std.proofs.Common.{◌≡◌, ◌∙◌, ◌≤◌, ℕ, Bool, true, false, nat_le, List, [], ◌∷◌, map, Option, Some, None, Result, Ok, Err, refl, sym, ap, subst, arith, if◌then◌else◌}
use Rattle.std.proofs.lemmas.Bool.{leb-true}
use Rattle.trick_command.specs.Answers.{actions_in}
use Rattle.trick_plan_variables.specs.Cells.{KeepsRest}
use Rattle.trick_plan_draft.specs.Drafts.{names_of}
use Rattle.trick_plan_draft.specs.Jobs.{Jobs, jobs_of}
use Rattle.trick_plan_draft.specs.Kept.{IsDraftOf, Mirrors}
use Rattle.trick_plan_draft.specs.Laws.{AllLinesKeep, DeclarationsKeep, DeclarationsKeepDeeds, Keeps, KeepsDeeds}
use Rattle.trick_plan_draft.specs.Lines.{unless}
use Rattle.trick_plan_draft.specs.declared.draft.Draft.{Draft}
use Rattle.trick_plan_draft.specs.declared.fault.LineFault.{LineFault}
use Rattle.trick_input.specs.declared.call.Form.{Form}
use Rattle.trick_input.specs.declared.call.Form.TheVariants as form
use Rattle.trick_input.specs.declared.call.RunForm.TheVariants as run_form
use Rattle.trick_input.specs.declared.call.JobForm.TheVariants as job_form
use Rattle.trick_input.specs.declared.call.GroupForm.TheVariants as group_form
use Rattle.trick_input.specs.declared.call.EventForm.TheVariants as event_form
use Rattle.trick_input.specs.declared.call.VariableForm.TheVariants as variable_form
use Rattle.trick_input.specs.declared.call.TextForm.TheVariants as text_form
use Rattle.trick_lang.specs.Names.{job_name}
use Rattle.trick_lang.specs.declared.job.Job.{Job}
use Rattle.trick_lang.specs.declared.method.Method.{Method}
use Rattle.trick_lang.specs.declared.object.Object.{Object}
use Rattle.trick_lang.specs.declared.program.Program.{Program}
use Rattle.trick_plan_lines.specs.Said.{is_declaration, said}
use Rattle.trick_plan_lines.specs.Texts.{Texts}
use Rattle.trick_plan_lines.specs.Times.{fault_of_time, tics_of, time_in}
use Rattle.trick_base.specs.Time.{tic_limit}
use Rattle.trick_model.specs.Names.{deed_of}
use Rattle.trick_model.specs.Valid.{IsCycle, IsFrame}
use Rattle.trick_model.specs.declared.thread.Thread.{Thread}
use Rattle.trick_plan_settings.specs.declared.settings.Settings.{Settings}
use Rattle.trick_text.specs.declared.fault.TimeFault.{TimeFault}
use Rattle.trick_text.specs.declared.fault.TimeFault.TheVariants as fault

-- a time that is one is in range
pub in_range : (line : ℕ) (time : Result ℕ TimeFault) → fault_of_time line (Some time) ≡ None → tics_of time ≤ tic_limit
in_range line (Err fault) h = absurd (cc h)
in_range line (Ok tics) h = by (nat_le tics tic_limit) refl h
  where
    by : (b : Bool) → nat_le tics tic_limit ≡ b
        → (let none : Option TimeFault = None in if b then none else Some (fault.TimeTooLarge line)) ≡ None
        → tics ≤ tic_limit
    by true e h = leb-true tics tic_limit e
    by false e h = absurd (cc h)

pub cycle_of_frame : (frame : ℕ) → IsFrame frame → IsCycle frame
cycle_of_frame frame is = record { some = is.some; in_range = omega (arith, is.in_range) }

module _ (jobs : Jobs) (threads : List Thread) where
  pub same : (d e : Draft) → d ≡ e → Keeps jobs threads d e
  same d e is = record {
    cells = ap (λ (d : Draft). d.cells) (sym is);
    right = λ right. subst (IsDraftOf jobs threads) is right;
    deeds = λ action deed told. subst (λ (x : Draft). deed_of (names_of jobs x) action ≡ Some deed) is told;
  }

  -- a line with one test that changes nothing
  pub unchanged : (test : Bool) (fault : LineFault) (d e : Draft) → unless ((test, fault) ∷ []) d ≡ Ok e
      → Keeps jobs threads d e
  unchanged true fault d e h = absurd (cc h)
  unchanged false fault d e h = same d e (cc h)

-- a line that is taken and declares nothing
pub keeps : AllLinesKeep → (jobs : Jobs) (settings : Settings) → IsFrame settings.frame → (texts : Texts) (line : ℕ)
    (f : Form) (d e : Draft) → is_declaration f ≡ false → fault_of_time line (time_in f) ≡ None
    → said jobs settings texts f d ≡ Ok e → Keeps jobs settings.threads d e
keeps law jobs settings frame texts line (form.Assign name number) d e other_kind fine h =
    (law jobs settings.threads).assign name number d e h
keeps law jobs settings frame texts line (form.Run (run_form.SoftwareFrame time)) d e other_kind fine h =
    unchanged jobs settings.threads _ _ d e h
keeps law jobs settings frame texts line (form.Run (run_form.Stop time)) d e other_kind fine h = same jobs settings.threads d e (cc h)
keeps law jobs settings frame texts line (form.Run run_form.Freeze) d e other_kind fine h = same jobs settings.threads d e (cc h)
keeps law jobs settings frame texts line (form.Run (run_form.ProcessType thread process)) d e other_kind fine h =
    unchanged jobs settings.threads _ _ d e h
keeps law jobs settings frame texts line (form.Run (run_form.AmfCycle thread time)) d e other_kind fine h =
    unchanged jobs settings.threads _ _ d e h
keeps law jobs settings frame texts line (form.Job (job_form.DependsOn target instance depended depended_instance)) d e other_kind fine h =
    (law jobs settings.threads).depend target instance depended depended_instance d e h
keeps law jobs settings frame texts line (form.Job (job_form.SetJob name instance on)) d e other_kind fine h =
    (law jobs settings.threads).set_job _ on d e h
keeps law jobs settings frame texts line (form.Declare text) d e other_kind fine h = absurd (cc other_kind)
keeps law jobs settings frame texts line (form.Text (text_form.AddRead time text)) d e other_kind fine h =
    (law jobs settings.threads).add_read (tics_of time) (in_range line time fine) (actions_in text) d e h
keeps law jobs settings frame texts line (form.Group (group_form.NewGroup variable name)) d e other_kind fine h =
    (law jobs settings.threads).new_group variable name d e h
keeps law jobs settings frame texts line (form.Event (event_form.NewEvent variable name)) d e other_kind fine h =
    (law jobs settings.threads).new_event variable name settings.frame (cycle_of_frame settings.frame frame) d e h
keeps law jobs settings frame texts line (form.Variable (variable_form.SetCycle variable time)) d e other_kind fine h =
    (law jobs settings.threads).set_cycle variable (tics_of time) (in_range line time fine) d e h
keeps law jobs settings frame texts line (form.Group (group_form.AddVariable variable name)) d e other_kind fine h =
    (law jobs settings.threads).add_variable variable name d e h
keeps law jobs settings frame texts line (form.Group (group_form.SetGroup variable on)) d e other_kind fine h =
    (law jobs settings.threads).set_group variable on d e h
keeps law jobs settings frame texts line (form.Group (group_form.SetChanges variable changes)) d e other_kind fine h =
    (law jobs settings.threads).set_changes variable changes d e h
keeps law jobs settings frame texts line (form.Variable (variable_form.ThisOwn variable)) d e other_kind fine h =
    (law jobs settings.threads).this_own variable d e h
keeps law jobs settings frame texts line (form.Group (group_form.AddGroup variable)) d e other_kind fine h =
    (law jobs settings.threads).add_group variable d e h
keeps law jobs settings frame texts line (form.Text (text_form.SetCondition variable text)) d e other_kind fine h =
    (law jobs settings.threads).set_condition variable texts.condition d e h
keeps law jobs settings frame texts line (form.Text (text_form.SetAction variable number text)) d e other_kind fine h =
    (law jobs settings.threads).set_action variable number (actions_in text) d e h
keeps law jobs settings frame texts line (form.Event (event_form.Activate variable)) d e other_kind fine h =
    (law jobs settings.threads).activate variable d e h
keeps law jobs settings frame texts line (form.Event (event_form.AddEvent variable)) d e other_kind fine h =
    (law jobs settings.threads).add_event variable d e h

-- a declaration that is taken
pub declares : DeclarationsKeep → (jobs : Jobs) (settings : Settings) (texts : Texts) (p : Program) (f : Form)
    (d e : Draft) → is_declaration f ≡ true → said jobs settings texts f d ≡ Ok e → Mirrors p e
    → IsDraftOf jobs settings.threads d → IsDraftOf jobs settings.threads e
declares law jobs settings texts p (form.Declare text) d e kind h mirrors right =
    law jobs settings.threads p texts.declaration d e h mirrors right
declares law jobs settings texts p other d e kind h mirrors right = absurd (cc kind)

-- what actions ask for after a declaration that is taken
declares_deeds : DeclarationsKeepDeeds → (jobs : Jobs) (settings : Settings) (texts : Texts) (f : Form) (d e : Draft)
    → is_declaration f ≡ true → said jobs settings texts f d ≡ Ok e → IsDraftOf jobs settings.threads d
    → KeepsDeeds jobs d e
declares_deeds law jobs settings texts (form.Declare text) d e kind h right =
    law jobs settings.threads texts.declaration d e h right
declares_deeds law jobs settings texts other d e kind h right = absurd (cc kind)

-- what they ask for after any line that is taken
pub deeds_after : AllLinesKeep → DeclarationsKeepDeeds → (jobs : Jobs) (settings : Settings) → IsFrame settings.frame
    → (texts : Texts) (line : ℕ) (f : Form) (d e : Draft) → fault_of_time line (time_in f) ≡ None
    → said jobs settings texts f d ≡ Ok e → IsDraftOf jobs settings.threads d → KeepsDeeds jobs d e
deeds_after lines declarations jobs settings frame texts line f d e fine h right = by (is_declaration f) refl
  where
    by : (b : Bool) → is_declaration f ≡ b → KeepsDeeds jobs d e
    by true is = declares_deeds declarations jobs settings texts f d e is h right
    by false is = (keeps lines jobs settings frame texts line f d e is fine h).deeds

-- What a line that is taken keeps of a draft, over a program and the program after it.
module _ (lines : AllLinesKeep) (declarations : DeclarationsKeep) (jobs : Jobs) (settings : Settings)
    (frame : IsFrame settings.frame) (texts : Texts) (line : ℕ) where
  pub right_after : (p : Program) (f : Form) (d e : Draft) → fault_of_time line (time_in f) ≡ None
      → said jobs settings texts f d ≡ Ok e → (is_declaration f ≡ true → Mirrors p e)
      → IsDraftOf jobs settings.threads d → IsDraftOf jobs settings.threads e
  right_after p f d e fine h mirrors right = by (is_declaration f) refl
    where
      by : (b : Bool) → is_declaration f ≡ b → IsDraftOf jobs settings.threads e
      by true is = declares declarations jobs settings texts p f d e is h (mirrors is) right
      by false is = (keeps lines jobs settings frame texts line f d e is fine h).right right

  pub mirrors_after : (p q : Program) (f : Form) (d e : Draft) → fault_of_time line (time_in f) ≡ None
      → said jobs settings texts f d ≡ Ok e → (is_declaration f ≡ true → Mirrors q e)
      → (is_declaration f ≡ false → q ≡ p) → Mirrors p d → Mirrors q e
  mirrors_after p q f d e fine h declared other mirrors = by (is_declaration f) refl
    where
      by : (b : Bool) → is_declaration f ≡ b → Mirrors q e
      by true is = declared is
      by false is =
          subst (λ (r : Program). Mirrors r e) (sym (other is))
          ((keeps lines jobs settings frame texts line f d e is fine h).cells ∙ mirrors)

-- the jobs of these objects and methods
abbrev jobs_with : List Object → List Method → List Job → Jobs
jobs_with objects methods jobs = record { names = map (job_name objects methods) jobs; all = jobs }

-- the same jobs, where all but the cells is kept
pub same_jobs : (p q : Program) → KeepsRest p q → jobs_of q ≡ jobs_of p
same_jobs p q kept =
    ap (λ (objects : List Object). jobs_with objects q.methods q.jobs) kept.objects
    ∙ (ap (λ (methods : List Method). jobs_with p.objects methods q.jobs) kept.methods
    ∙ ap (λ (jobs : List Job). jobs_with p.objects p.methods jobs) kept.jobs)

-- What each line says, given the lines before it.
use Rattle.std.specs.Prelude.{ℕ, nat_lt, ◌==◌, Bool, true, false, ◌||◌, not, List, [], ◌∷◌, Option, Result, Ok}
use Rattle.trick_command.specs.Answers.{actions_in}
use Rattle.trick_plan_draft.specs.Jobs.{Jobs, job_named, waiting_job}
use Rattle.trick_plan_draft.specs.Lines.{activate_line, add_event_line, add_group_line, add_read_line, add_variable_line, assign_line, declare_line, depend_line, new_event_line, new_group_line, set_action_line, set_changes_line, set_condition_line, set_cycle_line, set_group_line, set_job_line, this_own_line, unless}
use Rattle.trick_plan_draft.specs.declared.draft.Draft.{Draft}
use Rattle.trick_plan_draft.specs.declared.fault.LineFault.{LineFault}
use Rattle.trick_plan_draft.specs.declared.fault.LineFault.TheVariants as fault
use Rattle.trick_input.specs.declared.call.Form.{Form}
use Rattle.trick_input.specs.declared.call.Form.TheVariants as form
use Rattle.trick_input.specs.declared.call.RunForm.{RunForm}
use Rattle.trick_input.specs.declared.call.RunForm.TheVariants as run_form
use Rattle.trick_input.specs.declared.call.JobForm.{JobForm}
use Rattle.trick_input.specs.declared.call.JobForm.TheVariants as job_form
use Rattle.trick_input.specs.declared.call.GroupForm.{GroupForm}
use Rattle.trick_input.specs.declared.call.GroupForm.TheVariants as group_form
use Rattle.trick_input.specs.declared.call.EventForm.{EventForm}
use Rattle.trick_input.specs.declared.call.EventForm.TheVariants as event_form
use Rattle.trick_input.specs.declared.call.VariableForm.{VariableForm}
use Rattle.trick_input.specs.declared.call.VariableForm.TheVariants as variable_form
use Rattle.trick_input.specs.declared.call.TextForm.{TextForm}
use Rattle.trick_input.specs.declared.call.TextForm.TheVariants as text_form
use Rattle.trick_lang.specs.SyntaxTree.{Expression}
use Rattle.trick_plan_lines.specs.Texts.{Texts}
use Rattle.trick_plan_lines.specs.Times.{tics_of}
use Rattle.trick_model.specs.declared.thread.Thread.{Thread}
use Rattle.trick_plan_settings.specs.Settings.{is_frame}
use Rattle.trick_plan_settings.specs.declared.settings.Settings.{Settings}

-- ---- lines of the run and of its threads
-- The settings of the whole input have what they say, so they change nothing of the draft.

-- `trick.exec_set_software_frame(TIME)`: a frame has from 1 to 10^9 tics
abbrev pub frame_line : ℕ → Draft → Result Draft LineFault
frame_line tics d = unless ((not (is_frame tics), fault.OutOfRange) ∷ []) d

-- `trick.exec_set_thread_process_type(N, ..)`: threads go from 0 to 15
abbrev pub thread_line : ℕ → Draft → Result Draft LineFault
thread_line thread d = unless ((nat_lt 15 thread, fault.OutOfRange) ∷ []) d

-- `trick.exec_set_thread_amf_cycle_time(N, TIME)`: a cycle has a tic at least
abbrev pub amf_cycle_line : ℕ → ℕ → Draft → Result Draft LineFault
amf_cycle_line thread tics d = unless ((nat_lt 15 thread || (tics == 0), fault.OutOfRange) ∷ []) d

-- what a line of the run or of its threads says
abbrev pub run_line : RunForm → Draft → Result Draft LineFault
run_line (run_form.SoftwareFrame time) d = frame_line (tics_of time) d
run_line (run_form.Stop time) d = Ok d
run_line run_form.Freeze d = Ok d
run_line (run_form.ProcessType thread process) d = thread_line thread d
run_line (run_form.AmfCycle thread time) d = amf_cycle_line thread (tics_of time) d

-- ---- lines of jobs, groups and events

-- what a line of jobs says, by the threads of the whole input
abbrev pub job_line : Jobs → List Thread → JobForm → Draft → Result Draft LineFault
job_line jobs threads (job_form.DependsOn target instance depended depended_instance) d =
    depend_line (waiting_job jobs threads target instance) (waiting_job jobs threads depended depended_instance) d
job_line jobs threads (job_form.SetJob name instance on) d = set_job_line (job_named jobs name instance) on d

-- what a line of a group says
abbrev pub group_line : GroupForm → Draft → Result Draft LineFault
group_line (group_form.NewGroup variable name) d = new_group_line variable name d
group_line (group_form.AddVariable variable name) d = add_variable_line variable name d
group_line (group_form.SetGroup variable on) d = set_group_line variable on d
group_line (group_form.SetChanges variable changes) d = set_changes_line variable changes d
group_line (group_form.AddGroup variable) d = add_group_line variable d

-- what a line of an event says, by the software frame of the whole input
abbrev pub event_line : ℕ → EventForm → Draft → Result Draft LineFault
event_line frame (event_form.NewEvent variable name) d = new_event_line variable name frame d
event_line frame (event_form.Activate variable) d = activate_line variable d
event_line frame (event_form.AddEvent variable) d = add_event_line variable d

-- what a line of a group or an event alike says
abbrev pub variable_line : VariableForm → Draft → Result Draft LineFault
variable_line (variable_form.SetCycle variable time) d = set_cycle_line variable (tics_of time) d
variable_line (variable_form.ThisOwn variable) d = this_own_line variable d

-- what a line with actions or a condition says, by the condition that its text is
abbrev pub text_line : Jobs → Option Expression → TextForm → Draft → Result Draft LineFault
text_line jobs condition (text_form.AddRead time text) d = add_read_line jobs (tics_of time) (actions_in text) d
text_line jobs condition (text_form.SetCondition variable text) d = set_condition_line variable condition d
text_line jobs condition (text_form.SetAction variable number text) d =
    set_action_line jobs variable number (actions_in text) d

-- ---- all lines

-- What a line says whose time is one: the draft with what it adds, or why it is refused.
abbrev pub said : Jobs → Settings → Texts → Form → Draft → Result Draft LineFault
said jobs settings texts (form.Assign name number) d = assign_line name number d
said jobs settings texts (form.Declare text) d = declare_line texts.declaration d
said jobs settings texts (form.Run f) d = run_line f d
said jobs settings texts (form.Job f) d = job_line jobs settings.threads f d
said jobs settings texts (form.Group f) d = group_line f d
said jobs settings texts (form.Event f) d = event_line settings.frame f d
said jobs settings texts (form.Variable f) d = variable_line f d
said jobs settings texts (form.Text f) d = text_line jobs texts.condition f d

-- whether it is a declaration: only such a line adds to the program
abbrev pub is_declaration : Form → Bool
is_declaration (form.Declare text) = true
is_declaration other = false

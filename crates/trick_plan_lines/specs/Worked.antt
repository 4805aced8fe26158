-- Worked lines: each range and each time at its ends, and lines in turn.
use Rattle.std.specs.Prelude.{◌≡◌, ℕ, ◌+◌, pos, false, List, [], ◌∷◌, ◌++◌, codes, None, Result, Ok, Err}
use Rattle.trick_plan_draft.specs.Drafts.{new_event}
use Rattle.trick_plan_draft.specs.Worked.{cell, draft, no_jobs}
use Rattle.trick_plan_draft.specs.declared.draft.Draft.{Draft}
use Rattle.trick_plan_draft.specs.declared.handle.Handle.TheVariants as handle
use Rattle.trick_input.specs.declared.call.Call.{Call}
use Rattle.trick_input.specs.declared.call.Form.{Form}
use Rattle.trick_input.specs.declared.call.Form.TheVariants as form
use Rattle.trick_input.specs.declared.call.RunForm.TheVariants as run_form
use Rattle.trick_input.specs.declared.call.JobForm.TheVariants as job_form
use Rattle.trick_input.specs.declared.call.GroupForm.TheVariants as group_form
use Rattle.trick_input.specs.declared.call.EventForm.TheVariants as event_form
use Rattle.trick_input.specs.declared.call.VariableForm.TheVariants as variable_form
use Rattle.trick_input.specs.declared.call.TextForm.TheVariants as text_form
use Rattle.trick_plan_lines.specs.Drafted.{Drafted, answered}
use Rattle.trick_plan_lines.specs.Texts.{Texts}
use Rattle.trick_plan_lines.specs.declared.fault.JoinFault.{JoinFault}
use Rattle.trick_plan_lines.specs.declared.fault.JoinFault.TheVariants as fault
use Rattle.trick_base.specs.Time.{tic_limit}
use Rattle.trick_model.specs.declared.thread.Process.TheVariants as process
use Rattle.trick_plan_settings.specs.declared.settings.Settings.{Settings}
use Rattle.trick_text.specs.declared.fault.TimeFault.TheVariants as time

-- a frame of 7 tics
abbrev pub settings : Settings
settings = record { frame = 7; limit = tic_limit + 1; frozen = false; threads = [] }

abbrev pub no_texts : Texts
no_texts = record { declaration = None; condition = None }

-- a line, and what it answers with its number, 4
abbrev pub line : Form → Result Draft JoinFault
line f = answered no_jobs settings no_texts (record { form = f; line = 4 }) draft

abbrev pub at : ℕ → Form → Call
at n f = record { form = f; line = n }

pub record AreWorked : Type 0 where
  -- trick.exec_set_software_frame(..)
  pub frame_of_0 : line (form.Run (run_form.SoftwareFrame (Ok 0))) ≡ Err (fault.OutOfRange 4)
  pub least_frame : line (form.Run (run_form.SoftwareFrame (Ok 1))) ≡ Ok draft
  pub largest_frame : line (form.Run (run_form.SoftwareFrame (Ok 1000000000))) ≡ Ok draft
  pub larger_frame : line (form.Run (run_form.SoftwareFrame (Ok 1000000001))) ≡ Err (fault.OutOfRange 4)
  -- trick.stop(..)
  pub stop_at_the_last : line (form.Run (run_form.Stop (Ok tic_limit))) ≡ Ok draft
  pub stop_behind_it : line (form.Run (run_form.Stop (Ok (tic_limit + 1)))) ≡ Err (fault.Time (time.TimeTooLarge 4))
  pub stop_between :
      line (form.Run (run_form.Stop (Err (time.InexactTime 4)))) ≡ Err (fault.Time (time.InexactTime 4))
  -- trick.freeze()
  pub freeze : line (form.Run run_form.Freeze) ≡ Ok draft
  -- trick.exec_set_thread_process_type(N, ..)
  pub type_of_15 : line (form.Run (run_form.ProcessType 15 process.Async)) ≡ Ok draft
  pub type_of_16 : line (form.Run (run_form.ProcessType 16 process.Async)) ≡ Err (fault.OutOfRange 4)
  -- trick.exec_set_thread_amf_cycle_time(N, ..)
  pub cycle_of_15 : line (form.Run (run_form.AmfCycle 15 (Ok 1))) ≡ Ok draft
  pub cycle_of_16 : line (form.Run (run_form.AmfCycle 16 (Ok 1))) ≡ Err (fault.OutOfRange 4)
  pub cycle_of_no_tic : line (form.Run (run_form.AmfCycle 3 (Ok 0))) ≡ Err (fault.OutOfRange 4)
  -- a time is looked at before the name of the variable and before the number of the thread
  pub time_first :
      line (form.Variable (variable_form.SetCycle (codes "h") (Err (time.InexactTime 4))))
      ≡ Err (fault.Time (time.InexactTime 4))
  pub time_first_of_thread :
      line (form.Run (run_form.AmfCycle 16 (Ok (tic_limit + 1)))) ≡ Err (fault.Time (time.TimeTooLarge 4))
  pub then_the_name : line (form.Variable (variable_form.SetCycle (codes "h") (Ok 0))) ≡ Err (fault.UnknownName 4)
  -- o.c = 128
  pub too_much : line (form.Assign (codes "o.c") (pos 128)) ≡ Err (fault.OutOfRange 4)
  -- trick.exec_set_job_onoff("o.m", 1, 0)
  pub no_job : line (form.Job (job_form.SetJob (codes "o.m") 1 false)) ≡ Err (fault.UnknownJob 4)
  -- trick.exec_add_depends_on_job("o.m", 1, "o.n", 1)
  pub no_pair : line (form.Job (job_form.DependsOn (codes "o.m") 1 (codes "o.n") 1)) ≡ Err (fault.UnknownJob 4)
  -- trick.TMM_declare_var_s(..), where the text is no declaration
  pub no_declaration : line (form.Declare (codes "int")) ≡ Err (fault.BadAction 4)
  -- trick.add_read(.., "")
  pub no_actions : line (form.Text (text_form.AddRead (Ok 7) [])) ≡ Err (fault.BadAction 4)
  -- e = trick.new_event("soon"), where `e` is bound
  pub bound : line (form.Event (event_form.NewEvent (codes "e") (codes "soon"))) ≡ Err (fault.TwiceNamed 4)
  -- f = trick.new_event("soon"), with the frame as its cycle
  pub event :
      line (form.Event (event_form.NewEvent (codes "f") (codes "soon")))
      ≡ Ok (record draft {
        variables = draft.variables ++ (codes "f", handle.Event 1) ∷ [];
        event_names = draft.event_names ++ (codes "soon", 1) ∷ [];
        events = draft.events ++ new_event (codes "soon") 7 ∷ [];
      })

-- the answer of lines in turn
abbrev pub Answer : List Call → Result Draft JoinFault → Type 0
Answer calls answer = Drafted no_jobs settings calls draft answer

pub record AreWorkedInTurn : Type 0 where
  pub nothing : Answer [] (Ok draft)
  -- the first of two refusals
  pub first :
      Answer
      (at 1 (form.Run run_form.Freeze) ∷ at 2 (form.Run (run_form.SoftwareFrame (Ok 0)))
      ∷ at 3 (form.Event (event_form.Activate (codes "g"))) ∷ [])
      (Err (fault.OutOfRange 2))
  -- a group is there from its line on
  pub before :
      Answer
      (at 1 (form.Group (group_form.AddGroup (codes "h")))
      ∷ at 2 (form.Group (group_form.NewGroup (codes "h") (codes "more"))) ∷ [])
      (Err (fault.UnknownName 1))
  -- both assignments stay, in order
  pub in_order :
      Answer (at 1 (form.Assign (codes "o.c") (pos 5)) ∷ at 2 (form.Assign (codes "o.c") (pos 6)) ∷ [])
      (Ok (record draft { assigns = (cell 0, pos 5) ∷ (cell 0, pos 6) ∷ [] }))

-- Worked lines: one for each code.
use Rattle.std.specs.Prelude.{◌≡◌, ℕ, ◌^◌, ◌-◌, true, List, [], ◌∷◌, None, codes}
use Rattle.trick_check.specs.declared.fault.CheckFault.TheVariants as check
use Rattle.trick_codes.specs.declared.load_fault.LoadFault.TheVariants as load
use Rattle.trick_input.specs.declared.fault.InputFault.TheVariants as input
use Rattle.trick_journal.specs.declared.journal_fault.JournalFault.TheVariants as journal
use Rattle.trick_lang.specs.declared.job.Job.{Job}
use Rattle.trick_plan_lines.specs.declared.fault.JoinFault.TheVariants as join
use Rattle.trick_model.specs.Plan.{Event, Plan, no_job}
use Rattle.trick_model.specs.declared.group.Group.{Group}
use Rattle.trick_race.specs.declared.fault.PlanFault.TheVariants as plan
use Rattle.trick_top_refusals.specs.Check.{check_line}
use Rattle.trick_top_refusals.specs.Checkpoint.{checkpoint_line}
use Rattle.trick_top_refusals.specs.Input.{input_line}
use Rattle.trick_top_refusals.specs.Join.{join_line}
use Rattle.trick_top_refusals.specs.Journal.{journal_line, length_line}
use Rattle.trick_top_refusals.specs.Plan.{plan_line}
use Rattle.trick_top_refusals.specs.SDefine.{s_define_line}
use Rattle.trick_sdef.specs.declared.fault.SdefFault.TheVariants as sdef
use Rattle.trick_text.specs.declared.fault.TextFault.TheVariants as text
use Rattle.trick_text.specs.declared.fault.TimeFault.TheVariants as time

pub record HaveSDefineLines : Type 0 where
  pub long_text : s_define_line (sdef.Text (text.LongText 16777216)) ≡ codes "refused LongText S_define 16777216\n"
  pub bad_byte : s_define_line (sdef.Text (text.BadByte 0)) ≡ codes "refused BadByte S_define 0\n"
  pub open_comment : s_define_line (sdef.Text (text.OpenComment 30)) ≡ codes "refused OpenComment S_define 30\n"
  pub long_number : s_define_line (sdef.Text (text.LongNumber 7)) ≡ codes "refused LongNumber S_define 7\n"
  pub expected : s_define_line (sdef.Expected 1) ≡ codes "refused Expected S_define 1\n"
  pub not_in_profile : s_define_line (sdef.NotInProfile 12) ≡ codes "refused NotInProfile S_define 12\n"
  pub loop_bound : s_define_line (sdef.LoopBound 4) ≡ codes "refused LoopBound S_define 4\n"
  pub long_list : s_define_line (sdef.LongList 9 64) ≡ codes "refused LongList S_define 9 64\n"
  pub inexact : s_define_line (sdef.Time (time.InexactTime 5)) ≡ codes "refused InexactTime S_define 5\n"
  pub too_large : s_define_line (sdef.Time (time.TimeTooLarge 6)) ≡ codes "refused TimeTooLarge S_define 6\n"
  pub no_memory : s_define_line sdef.OutOfMemory ≡ codes "refused OutOfMemory\n"

pub record HaveCheckLines : Type 0 where
  pub twice : check_line (check.Twice (codes "lamp")) ≡ codes "refused Twice S_define lamp\n"
  pub unknown : check_line (check.Unknown 3) ≡ codes "refused Unknown S_define 3\n"
  pub not_scalar : check_line (check.NotScalar 8) ≡ codes "refused NotScalar S_define 8\n"
  pub recursive : check_line (check.Recursive (codes "turn")) ≡ codes "refused Recursive S_define turn\n"
  pub many_cells :
      check_line (check.TooManyCells (2 ^ 64 - 1)) ≡ codes "refused TooManyCells S_define 18446744073709551615\n"
  pub many_jobs : check_line (check.TooManyJobs 513) ≡ codes "refused TooManyJobs S_define 513\n"
  pub many_steps :
      check_line (check.TooManySteps (codes "lamp.toggle") 1) ≡ codes "refused TooManySteps S_define lamp.toggle 1\n"

pub record HaveInputLines : Type 0 where
  pub bad_byte : input_line (input.Text (text.BadByte 17)) ≡ codes "refused BadByte input 17\n"
  pub expected : input_line (input.Expected 2) ≡ codes "refused Expected input 2\n"
  pub not_in_profile : input_line (input.NotInProfile 1) ≡ codes "refused NotInProfile input 1\n"
  pub bad_literal : input_line (input.BadLiteral 10) ≡ codes "refused BadLiteral input 10\n"

pub record HaveJoinLines : Type 0 where
  pub inexact : join_line (join.Time (time.InexactTime 5)) ≡ codes "refused InexactTime input 5\n"
  pub too_large : join_line (join.Time (time.TimeTooLarge 6)) ≡ codes "refused TimeTooLarge input 6\n"
  pub unknown_name : join_line (join.UnknownName 3) ≡ codes "refused UnknownName input 3\n"
  pub unknown_job : join_line (join.UnknownJob 12) ≡ codes "refused UnknownJob input 12\n"
  pub out_of_range : join_line (join.OutOfRange 1) ≡ codes "refused OutOfRange input 1\n"
  pub twice_named : join_line (join.TwiceNamed 4) ≡ codes "refused TwiceNamed input 4\n"
  pub bad_action : join_line (join.BadAction 9) ≡ codes "refused BadAction input 9\n"
  pub too_many : join_line (join.TooMany 70 64) ≡ codes "refused TooMany input 70 64\n"
  pub no_memory : join_line join.OutOfMemory ≡ codes "refused OutOfMemory\n"

pub record HaveCheckpointLines : Type 0 where
  pub bad_line : checkpoint_line (load.BadLine 6) ≡ codes "refused BadLine checkpoint 6\n"
  pub wrong_plan : checkpoint_line (load.WrongPlan 3) ≡ codes "refused WrongPlan checkpoint 3\n"
  pub out_of_range : checkpoint_line (load.OutOfRange 1) ≡ codes "refused OutOfRange checkpoint 1\n"
  pub truncated : checkpoint_line (load.Truncated 301) ≡ codes "refused Truncated checkpoint 301\n"
  pub trailing : checkpoint_line (load.Trailing 302) ≡ codes "refused Trailing checkpoint 302\n"
  pub no_memory : checkpoint_line load.OutOfMemory ≡ codes "refused OutOfMemory\n"

pub record HaveJournalLines : Type 0 where
  pub bad_line : journal_line (journal.BadLine 2) ≡ codes "refused BadLine journal 2\n"
  pub not_rising : journal_line (journal.NotRising 4) ≡ codes "refused NotRising journal 4\n"
  pub not_joined : journal_line (journal.NotJoined 3) ≡ codes "refused NotJoined journal 3\n"
  pub not_async : journal_line (journal.NotAsync 5) ≡ codes "refused NotAsync journal 5\n"
  pub no_end : journal_line (journal.NoEnd 12) ≡ codes "refused NoEnd journal 12\n"
  pub no_memory : journal_line journal.OutOfMemory ≡ codes "refused OutOfMemory\n"
  pub length : length_line 7 (2 ^ 63 - 1) ≡ codes "refused JournalLength 7 9223372036854775807\n"

-- a job of which this is the instance
abbrev pub instance : ℕ → Job
instance k = record no_job { instance = k }

-- a group of this name
abbrev pub group : List ℕ → Group
group name = record { name = name; cycle = 1; changes = true; cells = [] }

-- an event of this name
abbrev pub event : List ℕ → Event
event name = record { name = name; cycle = 1; condition = None; reads = []; actions = [] }

-- a plan with two jobs, two cells, a group and an event, whatever else it has
abbrev pub small : Plan → Plan
small p = record p {
  names = codes "o.n" ∷ codes "o.y" ∷ [];
  jobs = instance 1 ∷ instance 2 ∷ [];
  job_names = codes "a.w" ∷ codes "b.w" ∷ [];
  groups = group (codes "g") ∷ [];
  events = event (codes "e") ∷ [];
}

pub record HavePlanLines (p : Plan) : Type 0 where
  pub no_thread : plan_line (small p) (plan.NoThread 7) ≡ codes "refused NoThread 7\n"
  pub class_on_child : plan_line (small p) (plan.ClassOnChild (record { 0 = 1 })) ≡ codes "refused ClassOnChild b.w 2\n"
  pub backwards :
      plan_line (small p) (plan.Backwards (record { 0 = 0 }) (record { 0 = 1 }))
      ≡ codes "refused Backwards a.w 1 b.w 2\n"
  pub shared_writer :
      plan_line (small p) (plan.SharedWriter (record { 0 = 0 }) 1 2) ≡ codes "refused SharedWriter o.n 1 2\n"
  pub recorded : plan_line (small p) (plan.AsyncRecorded 0 (record { 0 = 1 })) ≡ codes "refused AsyncRecorded g o.y\n"
  pub async_event : plan_line (small p) (plan.AsyncEvent 0) ≡ codes "refused AsyncEvent e\n"
  pub race :
      plan_line (small p) (plan.Race (record { 0 = 0 }) (record { 0 = 1 }) 3)
      ≡ codes "refused Race a.w 1 b.w 2 3\n"
  pub no_memory : plan_line (small p) plan.OutOfMemory ≡ codes "refused OutOfMemory\n"

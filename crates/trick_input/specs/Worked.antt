-- Worked lines, by the classes of their tokens: one of each form, and one of each reason of a refusal.
use Rattle.std.specs.Prelude.{◌≡◌, List, [], ◌∷◌, ◌++◌, Result, Ok, Err}
use Rattle.trick_input.specs.Forms.{outcome_of}
use Rattle.trick_input.specs.Lines.{fault_at}
use Rattle.trick_input.specs.declared.class.Class.{Class}
use Rattle.trick_input.specs.declared.class.Class.TheVariants as the
use Rattle.trick_input.specs.declared.fault.InputFault.{InputFault}
use Rattle.trick_input.specs.declared.fault.InputFault.TheVariants as faults
use Rattle.trick_input.specs.declared.form.Row.{Row}
use Rattle.trick_input.specs.declared.form.Row.TheVariants as row
use Rattle.trick_input.specs.declared.line.Place.{Place}

-- the call of a word of `trick`, and of a word of a variable
abbrev pub trick_call : Class → List Class → List Class
trick_call name arguments = the.Trick ∷ the.Dot ∷ name ∷ the.Open ∷ (arguments ++ the.Close ∷ [])

abbrev pub variable_call : Class → List Class → List Class
variable_call name arguments = the.Name ∷ the.Dot ∷ name ∷ the.Open ∷ (arguments ++ the.Close ∷ [])

abbrev pub told : List Class → Result Row Place → Result Row InputFault
told ws (Ok r) = Ok r
told ws (Err p) = Err (fault_at 1 ws p)

-- the form of line 1, or its refusal
abbrev pub read : List Class → Result Row InputFault
read ws = told ws (outcome_of ws)

-- lines of each form
pub record HaveForms : Type 0 where
  -- v.thisown = 0
  pub this_own : read (the.Name ∷ the.Dot ∷ the.ThisOwn ∷ the.Assign ∷ the.Zero ∷ []) ≡ Ok row.ThisOwn
  -- v.thisown = -1
  pub this_own_minus :
      read (the.Name ∷ the.Dot ∷ the.ThisOwn ∷ the.Assign ∷ the.Minus ∷ the.Whole ∷ [])
      ≡ Ok row.ThisOwnMinus
  -- o.v[1] = True
  pub assign :
      read (the.Name ∷ the.Dot ∷ the.Name ∷ the.OpenBracket ∷ the.Whole ∷ the.CloseBracket ∷ the.Assign ∷ the.True ∷ [])
      ≡ Ok row.Assign
  -- o = -0
  pub assign_minus : read (the.Name ∷ the.Assign ∷ the.Minus ∷ the.Zero ∷ []) ≡ Ok row.AssignMinus
  -- trick = 5
  pub trick_assign : read (the.Trick ∷ the.Assign ∷ the.Whole ∷ []) ≡ Ok row.TrickAssign
  -- trick = -5
  pub trick_assign_minus : read (the.Trick ∷ the.Assign ∷ the.Minus ∷ the.Whole ∷ []) ≡ Ok row.TrickAssignMinus
  -- trick[0].n = 5
  pub trick_indexed :
      read
      (the.Trick ∷ the.OpenBracket ∷ the.Zero ∷ the.CloseBracket ∷ the.Dot ∷ the.Name ∷ the.Assign ∷ the.Whole
      ∷ [])
      ≡ Ok row.TrickIndexed
  -- trick[0] = -5
  pub trick_indexed_minus :
      read (the.Trick ∷ the.OpenBracket ∷ the.Zero ∷ the.CloseBracket ∷ the.Assign ∷ the.Minus ∷ the.Whole ∷ [])
      ≡ Ok row.TrickIndexedMinus
  -- trick.exec_set_software_frame(1.0)
  pub software_frame : read (trick_call the.SoftwareFrame (the.Decimal ∷ [])) ≡ Ok row.SoftwareFrame
  -- trick.stop(2)
  pub stop : read (trick_call the.Stop (the.Whole ∷ [])) ≡ Ok row.Stop
  -- trick.exec_set_terminate_time(0)
  pub terminate_time : read (trick_call the.TerminateTime (the.Zero ∷ [])) ≡ Ok row.TerminateTime
  -- trick.freeze()
  pub freeze : read (trick_call the.Freeze []) ≡ Ok row.Freeze
  -- trick.exec_set_thread_process_type(1, trick.PROCESS_TYPE_AMF_CHILD)
  pub process_type :
      read (trick_call the.ProcessType (the.Whole ∷ the.Comma ∷ the.Trick ∷ the.Dot ∷ the.AmfType ∷ []))
      ≡ Ok row.ProcessType
  -- trick.exec_set_thread_amf_cycle_time(1, 0.5)
  pub amf_cycle : read (trick_call the.AmfCycle (the.Whole ∷ the.Comma ∷ the.Decimal ∷ [])) ≡ Ok row.AmfCycle
  -- trick.exec_add_depends_on_job("a.w", 1, "b.w", 1)
  pub depends_on :
      read (trick_call the.DependsOn (the.Text ∷ the.Comma ∷ the.Whole ∷ the.Comma ∷ the.Text ∷ the.Comma ∷ the.Whole
      ∷ []))
      ≡ Ok row.DependsOn
  -- trick.exec_set_job_onoff("a", 1, False)
  pub set_job :
      read (trick_call the.SetJob (the.NameText ∷ the.Comma ∷ the.Whole ∷ the.Comma ∷ the.False ∷ []))
      ≡ Ok row.SetJob
  -- trick.exec_set_job_onoff("a", 1, -1)
  pub set_job_minus :
      read (trick_call the.SetJob (the.NameText ∷ the.Comma ∷ the.Whole ∷ the.Comma ∷ the.Minus ∷ the.Whole ∷ []))
      ≡ Ok row.SetJobMinus
  -- trick.TMM_declare_var_s("int spare[2]")
  pub declare : read (trick_call the.Declare (the.Text ∷ [])) ≡ Ok row.Declare
  -- trick.add_read(5.0, "trick.checkpoint()")
  pub add_read : read (trick_call the.AddRead (the.Decimal ∷ the.Comma ∷ the.Text ∷ [])) ≡ Ok row.AddRead
  -- drg = trick.DRAscii("plant")
  pub new_group : read (the.Name ∷ the.Assign ∷ trick_call the.NewGroup (the.NameText ∷ [])) ≡ Ok row.NewGroup
  -- trick = trick.DRAscii("plant")
  pub new_group_trick : read (the.Trick ∷ the.Assign ∷ trick_call the.NewGroup (the.NameText ∷ [])) ≡ Ok row.NewGroup
  -- ev = trick.new_event("full")
  pub new_event : read (the.Name ∷ the.Assign ∷ trick_call the.NewEvent (the.NameText ∷ [])) ≡ Ok row.NewEvent
  -- drg.set_cycle(1.0)
  pub set_cycle : read (variable_call the.SetCycle (the.Decimal ∷ [])) ≡ Ok row.SetCycle
  -- drg.add_variable("plant.phase")
  pub add_variable : read (variable_call the.AddVariable (the.Text ∷ [])) ≡ Ok row.AddVariable
  -- drg.enable()
  pub enable : read (variable_call the.Enable []) ≡ Ok row.Enable
  -- drg.disable()
  pub disable : read (variable_call the.Disable []) ≡ Ok row.Disable
  -- drg.freq = trick.DR_Changes
  pub set_changes :
      read (the.Name ∷ the.Dot ∷ the.Frequency ∷ the.Assign ∷ the.Trick ∷ the.Dot ∷ the.Changes ∷ [])
      ≡ Ok row.SetChanges
  -- trick.add_data_record_group(drg)
  pub add_group : read (trick_call the.AddGroup (the.Name ∷ [])) ≡ Ok row.AddGroup
  -- trick.add_data_record_group(drg, trick.DR_Buffer)
  pub add_group_buffer :
      read (trick_call the.AddGroup (the.Name ∷ the.Comma ∷ the.Trick ∷ the.Dot ∷ the.Buffer ∷ []))
      ≡ Ok row.AddGroupBuffer
  -- ev.condition(0, "o.n >= 2")
  pub set_condition : read (variable_call the.Condition (the.Zero ∷ the.Comma ∷ the.Text ∷ [])) ≡ Ok row.SetCondition
  -- ev.action(3, "trick.freeze()")
  pub set_action : read (variable_call the.Action (the.Whole ∷ the.Comma ∷ the.Text ∷ [])) ≡ Ok row.SetAction
  -- ev.activate()
  pub activate : read (variable_call the.Activate []) ≡ Ok row.Activate
  -- trick.add_event(ev)
  pub add_event : read (trick_call the.AddEvent (the.Name ∷ [])) ≡ Ok row.AddEvent
  -- v.set_cycle.x = True
  pub method_as_member :
      read (the.Name ∷ the.Dot ∷ the.SetCycle ∷ the.Dot ∷ the.Name ∷ the.Assign ∷ the.True ∷ [])
      ≡ Ok row.Assign

-- lines of no form
pub record AreRefused : Type 0 where
  -- trick.stop()
  pub no_time : read (trick_call the.Stop []) ≡ Err (faults.BadLiteral 1)
  -- x = y
  pub a_name : read (the.Name ∷ the.Assign ∷ the.Name ∷ []) ≡ Err (faults.BadLiteral 1)
  -- x = trick.freeze
  pub a_name_of_trick : read (the.Name ∷ the.Assign ∷ the.Trick ∷ the.Dot ∷ the.Freeze ∷ []) ≡ Err (faults.Expected 1)
  -- x =
  pub no_value : read (the.Name ∷ the.Assign ∷ []) ≡ Err (faults.BadLiteral 1)
  -- x = -
  pub only_minus : read (the.Name ∷ the.Assign ∷ the.Minus ∷ []) ≡ Err (faults.BadLiteral 1)
  -- x = - True
  pub two_minus : read (the.Name ∷ the.Assign ∷ the.Minus ∷ the.True ∷ []) ≡ Err (faults.BadLiteral 1)
  -- a.b = trick.c
  pub member_value :
      read (the.Name ∷ the.Dot ∷ the.Name ∷ the.Assign ∷ the.Trick ∷ the.Dot ∷ the.Name ∷ [])
      ≡ Err (faults.BadLiteral 1)
  -- ev.condition(1, "o.n")
  pub other_condition :
      read (variable_call the.Condition (the.Whole ∷ the.Comma ∷ the.Text ∷ []))
      ≡ Err (faults.BadLiteral 1)
  -- x[y] = 1
  pub index :
      read (the.Name ∷ the.OpenBracket ∷ the.Name ∷ the.CloseBracket ∷ the.Assign ∷ the.Whole ∷ [])
      ≡ Err (faults.BadLiteral 1)
  -- trick.stop = 5
  pub stop_assigned : read (the.Trick ∷ the.Dot ∷ the.Stop ∷ the.Assign ∷ the.Whole ∷ []) ≡ Err (faults.Expected 1)
  -- trick.freeze() 0
  pub one_more :
      read (the.Trick ∷ the.Dot ∷ the.Freeze ∷ the.Open ∷ the.Close ∷ the.Zero ∷ [])
      ≡ Err (faults.Expected 1)
  -- trick.exec_set_thread_process_type(1, trick.PROCESS_TYPE_OTHER)
  pub unknown_type :
      read (trick_call the.ProcessType (the.Whole ∷ the.Comma ∷ the.Trick ∷ the.Dot ∷ the.Name ∷ []))
      ≡ Err (faults.Expected 1)
  -- drg = trick.DRAscii("a b")
  pub bad_name : read (the.Name ∷ the.Assign ∷ trick_call the.NewGroup (the.Text ∷ [])) ≡ Err (faults.Expected 1)
  -- o.v = 1.5
  pub decimal_value : read (the.Name ∷ the.Dot ∷ the.Name ∷ the.Assign ∷ the.Decimal ∷ []) ≡ Err (faults.BadLiteral 1)
  -- trick.foo()
  pub unknown_call : read (trick_call the.Name []) ≡ Err (faults.NotInProfile 1)
  -- trick.x = 5
  pub member_of_trick :
      read (the.Trick ∷ the.Dot ∷ the.Name ∷ the.Assign ∷ the.Whole ∷ [])
      ≡ Err (faults.NotInProfile 1)
  -- from.x = 5
  pub left_out : read (the.LeftOut ∷ the.Dot ∷ the.Name ∷ the.Assign ∷ the.Whole ∷ []) ≡ Err (faults.NotInProfile 1)
  -- import
  pub left_out_alone : read (the.LeftOut ∷ []) ≡ Err (faults.NotInProfile 1)
  -- if x
  pub left_out_two : read (the.LeftOut ∷ the.Name ∷ []) ≡ Err (faults.NotInProfile 1)
  -- trick.thisown = 0
  pub this_own_of_trick :
      read (the.Trick ∷ the.Dot ∷ the.ThisOwn ∷ the.Assign ∷ the.Zero ∷ [])
      ≡ Err (faults.NotInProfile 1)
  -- trick.
  pub trick_point : read (the.Trick ∷ the.Dot ∷ []) ≡ Err (faults.Expected 1)
  -- 5
  pub a_number : read (the.Whole ∷ []) ≡ Err (faults.Expected 1)

-- Worked lines: each test of each line once, and what each line adds.
use Rattle.std.specs.Prelude.{◌≡◌, ℕ, ℤ, pos, negsuc, true, false, [], ◌∷◌, ◌++◌, codes, replicate, Some, None, Ok, Err}
use Rattle.trick_plan_draft.specs.Drafts.{new_event, new_group}
use Rattle.trick_plan_draft.specs.Jobs.{Jobs}
use Rattle.trick_plan_draft.specs.Lines.{activate_line, add_event_line, add_group_line, add_read_line, add_variable_line, assign_line, declare_line, depend_line, new_event_line, new_group_line, set_action_line, set_changes_line, set_condition_line, set_cycle_line, set_group_line, set_job_line, this_own_line}
use Rattle.trick_plan_draft.specs.declared.draft.Draft.{Draft}
use Rattle.trick_plan_draft.specs.declared.event.EventDraft.{EventDraft}
use Rattle.trick_plan_draft.specs.declared.fault.LineFault.TheVariants as fault
use Rattle.trick_plan_draft.specs.declared.group.GroupDraft.{GroupDraft}
use Rattle.trick_plan_draft.specs.declared.handle.Handle.TheVariants as handle
use Rattle.trick_lang.specs.SyntaxTree.{Expression, Named, NoPart, Member, Index, Chain, Link, NoLink, Whole, path}
use Rattle.trick_lang.specs.Tree as tree
use Rattle.trick_lang.specs.declared.cells.Cell.{Cell}
use Rattle.trick_lang.specs.declared.job.JobId.{JobId}
use Rattle.trick_lang.specs.declared.operator.Arithmetic.TheVariants.{Divide}
use Rattle.trick_lang.specs.declared.operator.Operator.TheVariants.{Arithmetic}
use Rattle.trick_lang.specs.declared.scalar.Scalar.TheVariants.{Char, Int}
use Rattle.trick_model.specs.declared.action.Action.{Action}
use Rattle.trick_model.specs.declared.action.Action.TheVariants as action
use Rattle.trick_model.specs.declared.deed.Deed.{Deed}
use Rattle.trick_model.specs.declared.deed.Deed.TheVariants as deed

-- ---- a draft

abbrev pub cell : ℕ → Cell
cell k = record { 0 = k }

abbrev pub job : ℕ → JobId
job k = record { 0 = k }

-- no jobs
abbrev pub no_jobs : Jobs
no_jobs = record { names = []; all = [] }

-- `char` is the type of `o.c`; `g` stands for a group `log`, `e` for an event `late`
abbrev pub draft : Draft
draft = record {
  cells = record {
    names = (codes "o.c", cell 0) ∷ [];
    scalars = Char ∷ [];
    firsts = (codes "o", true) ∷ [];
    objects = (codes "o", true) ∷ (codes "p", true) ∷ [];
  };
  items = (codes "HIGH", pos 3) ∷ [];
  variables = (codes "g", handle.Group 0) ∷ (codes "e", handle.Event 0) ∷ [];
  group_names = (codes "log", 0) ∷ [];
  event_names = (codes "late", 0) ∷ [];
  groups = new_group (codes "log") ∷ [];
  events = new_event (codes "late") 1000000 ∷ [];
  added_groups = [];
  added_events = [];
  depends = [];
  reads = [];
  assigns = [];
  jobs = record { on = true ∷ true ∷ [] };
}

-- the draft with another group
abbrev pub with : (GroupDraft → GroupDraft) → Draft
with change = record draft { groups = change (new_group (codes "log")) ∷ [] }

-- the draft with another event
abbrev pub after : (EventDraft → EventDraft) → Draft
after change = record draft { events = change (new_event (codes "late") 1000000) ∷ [] }

abbrev pub set : ℤ → Action
set number = action.SetCell (codes "o.c") number

-- what it asks for
abbrev pub set_deed : ℤ → Deed
set_deed number = deed.SetCell (cell 0) number

-- `o.c` and `HIGH` in a condition
abbrev pub place : Expression
place = Named (path 1 (codes "o") (Member 1 (codes "c") NoPart))

abbrev pub item : Expression
item = Named (path 1 (codes "HIGH") NoPart)

-- `o.c / 2`
abbrev pub quotient : Expression
quotient = Chain place (Link (Arithmetic Divide) (Whole 1 2) NoLink)

-- ---- cells, jobs and reads

pub record AreWorked : Type 0 where
  -- o.c = -128
  pub assigned : assign_line (codes "o.c") (negsuc 127) draft
      ≡ Ok (record draft { assigns = (cell 0, negsuc 127) ∷ [] })
  -- o.d = 0
  pub assigned_nothing : assign_line (codes "o.d") (pos 0) draft ≡ Err fault.UnknownName
  -- o.c = 128
  pub assigned_too_much : assign_line (codes "o.c") (pos 128) draft ≡ Err fault.OutOfRange
  -- two jobs
  pub pair :
      depend_line (Some (job 1)) (Some (job 0)) draft
      ≡ Ok (record draft { depends = record { target = job 1; depended = job 0 } ∷ [] })
  pub no_target : depend_line None (Some (job 0)) draft ≡ Err fault.UnknownJob
  pub no_depended : depend_line (Some (job 1)) None draft ≡ Err fault.UnknownJob
  pub pairs_full :
      depend_line (Some (job 1)) (Some (job 0))
      (record draft { depends = replicate 512 (record { target = job 1; depended = job 0 }) })
      ≡ Err (fault.TooMany 512)
  -- trick.exec_set_job_onoff(.., False)
  pub job_off : set_job_line (Some (job 1)) false draft ≡ Ok (record draft { jobs = record { on = true ∷ false ∷ [] } })
  pub no_job : set_job_line None false draft ≡ Err fault.UnknownJob
  -- int q[2]
  pub declared :
      declare_line (Some (record { scalar = Int; name = codes "q"; lengths = 2 ∷ [] })) draft
      ≡ Ok (record draft {
        cells = record {
          names = (codes "o.c", cell 0) ∷ (codes "q[0]", cell 1) ∷ (codes "q[1]", cell 2) ∷ [];
          scalars = Char ∷ Int ∷ Int ∷ [];
          firsts = (codes "o", true) ∷ (codes "q", true) ∷ [];
          objects = (codes "o", true) ∷ (codes "p", true) ∷ [];
        };
      })
  -- int p, where an object without cells has the name
  pub declared_twice :
      declare_line (Some (record { scalar = Int; name = codes "p"; lengths = [] })) draft ≡ Err fault.TwiceNamed
  pub declared_badly : declare_line None draft ≡ Err fault.BadAction
  -- int q[65536]
  pub declared_too_many :
      declare_line (Some (record { scalar = Int; name = codes "q"; lengths = 65536 ∷ [] })) draft
      ≡ Err (fault.TooMany 65536)
  -- trick.add_read(.., "o.c = 5")
  pub read :
      add_read_line no_jobs 7 (Some (set (pos 5) ∷ [])) draft
      ≡ Ok (record draft { reads = record { tic = 7; actions = set_deed (pos 5) ∷ [] } ∷ [] })
  pub read_badly : add_read_line no_jobs 7 None draft ≡ Err fault.BadAction
  -- trick.add_read(.., "o.c = 5; o.c = 128")
  pub read_too_much : add_read_line no_jobs 7 (Some (set (pos 5) ∷ set (pos 128) ∷ [])) draft ≡ Err fault.BadAction
  -- trick.add_read(.., "trick.dr_enable_group(\"log\")"), before the group is added
  pub read_of_no_group :
      add_read_line no_jobs 7 (Some (action.SetGroup (codes "log") true ∷ [])) draft ≡ Err fault.BadAction

-- ---- groups

pub record AreWorkedGroups : Type 0 where
  -- h = trick.DRAscii("other")
  pub bound :
      new_group_line (codes "h") (codes "other") draft
      ≡ Ok (record draft {
        variables = draft.variables ++ (codes "h", handle.Group 1) ∷ [];
        group_names = draft.group_names ++ (codes "other", 1) ∷ [];
        groups = draft.groups ++ new_group (codes "other") ∷ [];
      })
  -- e = trick.DRAscii("other")
  pub variable_twice : new_group_line (codes "e") (codes "other") draft ≡ Err fault.TwiceNamed
  -- h = trick.DRAscii("log")
  pub name_twice : new_group_line (codes "h") (codes "log") draft ≡ Err fault.TwiceNamed
  -- h = trick.DRAscii("late"), the name of an event
  pub name_of_an_event :
      new_group_line (codes "h") (codes "late") draft
      ≡ Ok (record draft {
        variables = draft.variables ++ (codes "h", handle.Group 1) ∷ [];
        group_names = draft.group_names ++ (codes "late", 1) ∷ [];
        groups = draft.groups ++ new_group (codes "late") ∷ [];
      })
  -- g.add_variable("o.c")
  pub variable :
      add_variable_line (codes "g") (codes "o.c") draft
      ≡ Ok (with (λ (group : GroupDraft). record group { cells = cell 0 ∷ [] }))
  -- e.add_variable("o.c")
  pub variable_of_an_event : add_variable_line (codes "e") (codes "o.c") draft ≡ Err fault.UnknownName
  -- g.add_variable("o.d")
  pub variable_of_no_cell : add_variable_line (codes "g") (codes "o.d") draft ≡ Err fault.UnknownName
  pub variables_full :
      add_variable_line (codes "g") (codes "o.c")
      (with (λ (group : GroupDraft). record group { cells = replicate 256 (cell 0) }))
      ≡ Err (fault.TooMany 256)
  -- g.disable()
  pub off : set_group_line (codes "g") false draft ≡ Ok (with (λ (group : GroupDraft). record group { on = false }))
  -- h.enable()
  pub off_unbound : set_group_line (codes "h") true draft ≡ Err fault.UnknownName
  -- g.freq = trick.DR_Changes
  pub on_change : set_changes_line (codes "g") true draft
      ≡ Ok (with (λ (group : GroupDraft). record group { changes = true }))
  -- e.freq = trick.DR_Changes
  pub on_change_of_an_event : set_changes_line (codes "e") true draft ≡ Err fault.UnknownName
  -- g.set_cycle(..)
  pub cycle : set_cycle_line (codes "g") 7 draft ≡ Ok (with (λ (group : GroupDraft). record group { cycle = 7 }))
  -- e.set_cycle(..)
  pub cycle_of_an_event : set_cycle_line (codes "e") 7 draft
      ≡ Ok (after (λ (event : EventDraft). record event { cycle = 7 }))
  -- h.set_cycle(..)
  pub cycle_unbound : set_cycle_line (codes "h") 0 draft ≡ Err fault.UnknownName
  -- g.set_cycle(0)
  pub cycle_of_0 : set_cycle_line (codes "g") 0 draft ≡ Err fault.OutOfRange
  -- e.thisown = 0
  pub this_own : this_own_line (codes "e") draft ≡ Ok draft
  -- h.thisown = 0
  pub this_own_unbound : this_own_line (codes "h") draft ≡ Err fault.UnknownName
  -- trick.add_data_record_group(g)
  pub added : add_group_line (codes "g") draft ≡ Ok (record draft { added_groups = (codes "log", 0) ∷ [] })
  -- trick.add_data_record_group(e)
  pub added_event : add_group_line (codes "e") draft ≡ Err fault.UnknownName
  pub added_twice :
      add_group_line (codes "g") (record draft { added_groups = (codes "log", 0) ∷ [] }) ≡ Err fault.TwiceNamed
  pub groups_full :
      add_group_line (codes "g") (record draft { added_groups = replicate 64 (codes "x", 1) }) ≡ Err (fault.TooMany 64)

-- ---- events

pub record AreWorkedEvents : Type 0 where
  -- f = trick.new_event("soon")
  pub bound :
      new_event_line (codes "f") (codes "soon") 9 draft
      ≡ Ok (record draft {
        variables = draft.variables ++ (codes "f", handle.Event 1) ∷ [];
        event_names = draft.event_names ++ (codes "soon", 1) ∷ [];
        events = draft.events ++ new_event (codes "soon") 9 ∷ [];
      })
  -- g = trick.new_event("soon")
  pub variable_twice : new_event_line (codes "g") (codes "soon") 9 draft ≡ Err fault.TwiceNamed
  -- f = trick.new_event("late")
  pub name_twice : new_event_line (codes "f") (codes "late") 9 draft ≡ Err fault.TwiceNamed
  -- e.condition(0, "o.c")
  pub condition :
      set_condition_line (codes "e") (Some place) draft
      ≡ Ok (after (λ (event : EventDraft). record event {
        condition = Some (tree.Cell (tree.spot false 0 1 0 0 tree.NoStep));
      }))
  -- e.condition(0, "HIGH")
  pub condition_of_an_item :
      set_condition_line (codes "e") (Some item) draft
      ≡ Ok (after (λ (event : EventDraft). record event { condition = Some (tree.Number (pos 3)) }))
  -- g.condition(0, "o.c")
  pub condition_of_a_group : set_condition_line (codes "g") (Some place) draft ≡ Err fault.UnknownName
  -- e.condition(0, "LOW")
  pub condition_unknown :
      set_condition_line (codes "e") (Some (Named (path 1 (codes "LOW") NoPart))) draft ≡ Err fault.UnknownName
  pub condition_twice :
      set_condition_line (codes "e") None
      (after (λ (event : EventDraft). record event { condition = Some (tree.Number (pos 3)) }))
      ≡ Err fault.TwiceNamed
  pub condition_bad : set_condition_line (codes "e") None draft ≡ Err fault.BadAction
  -- e.condition(0, "o.c / 2")
  pub condition_that_divides : set_condition_line (codes "e") (Some quotient) draft ≡ Err fault.BadAction
  -- e.condition(0, "x[o.c]")
  pub condition_computed :
      set_condition_line (codes "e") (Some (Named (path 1 (codes "x") (Index place NoPart)))) draft
      ≡ Err fault.BadAction
  -- e.action(2, "o.c = 5"), before those of number 3
  pub action :
      set_action_line no_jobs (codes "e") 2 (Some (set (pos 5) ∷ []))
      (after (λ (event : EventDraft). record event { actions = (3, []) ∷ [] }))
      ≡ Ok (after (λ (event : EventDraft). record event { actions = (2, set_deed (pos 5) ∷ []) ∷ (3, []) ∷ [] }))
  -- g.action(2, ..)
  pub action_of_a_group : set_action_line no_jobs (codes "g") 2 None draft ≡ Err fault.UnknownName
  -- e.action(16, ..)
  pub action_of_16 : set_action_line no_jobs (codes "e") 16 None draft ≡ Err fault.OutOfRange
  pub action_twice :
      set_action_line no_jobs (codes "e") 3 None
      (after (λ (event : EventDraft). record event { actions = (3, []) ∷ [] }))
      ≡ Err fault.TwiceNamed
  pub action_bad : set_action_line no_jobs (codes "e") 15 None draft ≡ Err fault.BadAction
  -- e.activate()
  pub active : activate_line (codes "e") draft ≡ Ok (after (λ (event : EventDraft). record event { on = true }))
  -- g.activate()
  pub active_group : activate_line (codes "g") draft ≡ Err fault.UnknownName
  -- trick.add_event(e)
  pub added : add_event_line (codes "e") draft ≡ Ok (record draft { added_events = (codes "late", 0) ∷ [] })
  -- trick.add_event(g)
  pub added_group : add_event_line (codes "g") draft ≡ Err fault.UnknownName
  pub added_twice :
      add_event_line (codes "e") (record draft { added_events = (codes "late", 0) ∷ [] }) ≡ Err fault.TwiceNamed
  pub events_full :
      add_event_line (codes "e") (record draft { added_events = replicate 256 (codes "x", 1) })
      ≡ Err (fault.TooMany 256)

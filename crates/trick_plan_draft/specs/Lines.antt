-- What each line says, given the lines before it.
use Rattle.std.specs.List.{list_any}
use Rattle.std.specs.Prelude.{◌≡◌, ℕ, ◌+◌, ◌==◌, nat_lt, ℤ, pos, Bool, true, false, not, ◌&&◌, ◌||◌, List, [], ◌∷◌, ◌++◌, length, slice_set, Option, Some, None, is_none, is_some, Result, Ok, Err, if◌then◌else◌}
use Rattle.trick_plan_conditions.specs.Conditions.{has_unknown, is_plain, term}
use Rattle.trick_plan_conditions.specs.Held.{known_by}
use Rattle.trick_plan_conditions.specs.Places.{Known}
use Rattle.trick_plan_variables.specs.Cells.{cells_of, count_of}
use Rattle.trick_plan_variables.specs.declared.declaration.Declaration.{Declaration}
use Rattle.trick_plan_deeds.specs.Deeds.{fitting}
use Rattle.trick_plan_draft.specs.Cells.{is_taken_in, with_cells}
use Rattle.trick_plan_draft.specs.Drafts.{asked_of_event, asked_of_group, event_of, group_of, names_of, new_event, new_group, with_event, with_group}
use Rattle.trick_plan_draft.specs.Jobs.{Jobs}
use Rattle.trick_plan_draft.specs.declared.draft.Draft.{Draft}
use Rattle.trick_plan_draft.specs.declared.event.EventDraft.{EventDraft}
use Rattle.trick_plan_draft.specs.declared.fault.LineFault.{LineFault}
use Rattle.trick_plan_draft.specs.declared.fault.LineFault.TheVariants as fault
use Rattle.trick_plan_draft.specs.declared.group.GroupDraft.{GroupDraft}
use Rattle.trick_plan_draft.specs.declared.handle.Handle.TheVariants as handle
use Rattle.trick_lang.specs.SyntaxTree.{Name, Expression}
use Rattle.trick_lang.specs.Tree.{Term}
use Rattle.trick_lang.specs.Wrap.{scalar_at}
use Rattle.trick_lang.specs.declared.cells.Cell.{Cell}
use Rattle.trick_lang.specs.declared.job.JobId.{JobId}
use Rattle.trick_model.specs.Names.{deeds_of}
use Rattle.trick_model.specs.declared.action.Action.{Action}
use Rattle.trick_model.specs.declared.deed.Deed.{Deed}
use Rattle.trick_check_names.specs.Names.{meaning_of, with_name}

-- ---- lines and their tests

-- The tests of a line in order: the first that holds decides.
abbrev pub unless : List (Bool × LineFault) → Draft → Result Draft LineFault
unless [] d = Ok d
unless ((true, refused) ∷ rest) d = Err refused
unless ((false, refused) ∷ rest) d = unless rest d

-- A step in code has done what a line says. A want of memory may come at any time.
abbrev pub Did : Result (Unit {0}) LineFault → Draft → Result Draft LineFault → Type 0
Did (Ok done) new said = said ≡ Ok new
Did (Err fault.OutOfMemory) new said = Unit {0}
Did (Err fault.UnknownName) new said = said ≡ Err fault.UnknownName
Did (Err fault.UnknownJob) new said = said ≡ Err fault.UnknownJob
Did (Err fault.OutOfRange) new said = said ≡ Err fault.OutOfRange
Did (Err fault.TwiceNamed) new said = said ≡ Err fault.TwiceNamed
Did (Err fault.BadAction) new said = said ≡ Err fault.BadAction
Did (Err (fault.TooMany limit)) new said = said ≡ Err (fault.TooMany limit)

-- as many as the limit are there
abbrev pub is_full : {T : Type 0} → List T → ℕ → Bool
is_full xs limit = not (nat_lt (length xs) limit)

abbrev pub or_zero : Option ℕ → ℕ
or_zero None = 0
or_zero (Some n) = n

-- ---- cells and jobs

abbrev pub or_first : Option Cell → Cell
or_first None = record { 0 = 0 }
or_first (Some cell) = cell

-- the number, where the cell's type has it
abbrev pub fitting_in : Draft → Option Cell → ℤ → Option ℤ
fitting_in d None number = None
fitting_in d (Some cell) number = fitting (scalar_at d.cells.scalars cell.0) number

abbrev pub or_nothing : Option ℤ → ℤ
or_nothing None = pos 0
or_nothing (Some number) = number

-- `PATH = LIT`
abbrev pub assign_line : Name → ℤ → Draft → Result Draft LineFault
assign_line name number d =
    let cell = meaning_of name d.cells.names in
    let fitting = fitting_in d cell number in
    unless ((is_none cell, fault.UnknownName) ∷ (is_none fitting, fault.OutOfRange) ∷ [])
    (record d { assigns = d.assigns ++ (or_first cell, or_nothing fitting) ∷ [] })

abbrev pub or_job : Option JobId → JobId
or_job None = record { 0 = 0 }
or_job (Some job) = job

-- `trick.exec_add_depends_on_job("target", I, "depended", J)`, by the jobs that can wait
abbrev pub depend_line : Option JobId → Option JobId → Draft → Result Draft LineFault
depend_line target depended d =
    unless (
    (is_none target || is_none depended, fault.UnknownJob)
    ∷ (is_full d.depends 512, fault.TooMany 512)
    ∷ [])
    (record d { depends = d.depends ++ record { target = or_job target; depended = or_job depended } ∷ [] })

-- `trick.exec_set_job_onoff("job", I, LIT)`, by the job
abbrev pub set_job_line : Option JobId → Bool → Draft → Result Draft LineFault
set_job_line job on d =
    unless ((is_none job, fault.UnknownJob) ∷ [])
    (record d { jobs = record { on = slice_set d.jobs.on (or_job job).0 on } })

-- `trick.TMM_declare_var_s("type name[n][m]")`, by what is declared
abbrev pub declare_line : Option Declaration → Draft → Result Draft LineFault
declare_line None d = Err fault.BadAction
declare_line (Some declared) d =
    unless (
    (is_taken_in d.cells declared.name, fault.TwiceNamed)
    ∷ (nat_lt 65536 (length d.cells.scalars + count_of declared.lengths), fault.TooMany 65536)
    ∷ [])
    (record d { cells = with_cells (cells_of declared) d.cells })

-- ---- actions

-- what the actions of a line ask for, where they read and all of that can be done
abbrev pub deeds_in : Jobs → Draft → Option (List Action) → Option (List Deed)
deeds_in jobs d None = None
deeds_in jobs d (Some actions) = deeds_of (names_of jobs d) actions

abbrev pub or_none : Option (List Deed) → List Deed
or_none None = []
or_none (Some deeds) = deeds

-- `trick.add_read(TIME, "actions")`, by its tic
abbrev pub add_read_line : Jobs → ℕ → Option (List Action) → Draft → Result Draft LineFault
add_read_line jobs tic actions d =
    let deeds = deeds_in jobs d actions in
    unless ((is_none deeds, fault.BadAction) ∷ (is_full d.reads 4096, fault.TooMany 4096) ∷ [])
    (record d { reads = d.reads ++ record { tic = tic; actions = or_none deeds } ∷ [] })

-- ---- groups

-- `v = trick.DRAscii("name")`
abbrev pub new_group_line : Name → Name → Draft → Result Draft LineFault
new_group_line variable name d =
    unless (
    (is_some (meaning_of variable d.variables) || is_some (meaning_of name d.group_names), fault.TwiceNamed)
    ∷ [])
    (record d {
      variables = with_name variable (handle.Group (length d.groups)) d.variables;
      group_names = with_name name (length d.groups) d.group_names;
      groups = d.groups ++ new_group name ∷ [];
    })

-- `v.add_variable("PATH")`
abbrev pub add_variable_line : Name → Name → Draft → Result Draft LineFault
add_variable_line variable name d =
    let cell = meaning_of name d.cells.names in
    unless (
    (is_none (group_of d variable) || is_none cell, fault.UnknownName)
    ∷ (asked_of_group (λ (group : GroupDraft). is_full group.cells 256) false d variable, fault.TooMany 256)
    ∷ [])
    (with_group variable (λ (group : GroupDraft). record group { cells = group.cells ++ or_first cell ∷ [] }) d)

-- `v.enable()` and `v.disable()`
abbrev pub set_group_line : Name → Bool → Draft → Result Draft LineFault
set_group_line variable on d =
    unless ((is_none (group_of d variable), fault.UnknownName) ∷ [])
    (with_group variable (λ (group : GroupDraft). record group { on = on }) d)

-- `v.freq = trick.DR_Always` and `v.freq = trick.DR_Changes`
abbrev pub set_changes_line : Name → Bool → Draft → Result Draft LineFault
set_changes_line variable changes d =
    unless ((is_none (group_of d variable), fault.UnknownName) ∷ [])
    (with_group variable (λ (group : GroupDraft). record group { changes = changes }) d)

-- `trick.add_data_record_group(v)`
abbrev pub add_group_line : Name → Draft → Result Draft LineFault
add_group_line variable d =
    let name = asked_of_group (λ (group : GroupDraft). group.name) [] d variable in
    unless (
    (is_none (group_of d variable), fault.UnknownName)
    ∷ (is_some (meaning_of name d.added_groups), fault.TwiceNamed)
    ∷ (is_full d.added_groups 64, fault.TooMany 64)
    ∷ [])
    (record d { added_groups = with_name name (or_zero (group_of d variable)) d.added_groups })

-- ---- groups and events

-- `v.set_cycle(TIME)`, in tics
abbrev pub set_cycle_line : Name → ℕ → Draft → Result Draft LineFault
set_cycle_line variable tics d =
    unless (
    (is_none (group_of d variable) && is_none (event_of d variable), fault.UnknownName)
    ∷ (tics == 0, fault.OutOfRange)
    ∷ [])
    (with_group variable (λ (group : GroupDraft). record group { cycle = tics })
    (with_event variable (λ (event : EventDraft). record event { cycle = tics }) d))

-- `v.thisown = LIT`
abbrev pub this_own_line : Name → Draft → Result Draft LineFault
this_own_line variable d =
    unless ((is_none (group_of d variable) && is_none (event_of d variable), fault.UnknownName) ∷ []) d

-- ---- events

-- `v = trick.new_event("name")`, with the frame
abbrev pub new_event_line : Name → Name → ℕ → Draft → Result Draft LineFault
new_event_line variable name frame d =
    unless (
    (is_some (meaning_of variable d.variables) || is_some (meaning_of name d.event_names), fault.TwiceNamed)
    ∷ [])
    (record d {
      variables = with_name variable (handle.Event (length d.events)) d.variables;
      event_names = with_name name (length d.events) d.event_names;
      events = d.events ++ new_event name frame ∷ [];
    })

-- what names in conditions stand for
abbrev pub known_in : Draft → Known
known_in d = known_by d.items d.cells.names

-- a condition that reads has a name that is unknown
abbrev pub is_unknown_in : Draft → Option Expression → Bool
is_unknown_in d None = false
is_unknown_in d (Some e) = has_unknown (known_in d) e

-- the condition reads and cannot fault
abbrev pub is_right : Option Expression → Bool
is_right None = false
is_right (Some e) = is_plain e

abbrev pub resolved : Draft → Option Expression → Option Term
resolved d None = None
resolved d (Some e) = Some (term (known_in d) e)

-- `v.condition(0, "expr")`, by the condition, where it reads
abbrev pub set_condition_line : Name → Option Expression → Draft → Result Draft LineFault
set_condition_line variable condition d =
    unless (
    (is_none (event_of d variable) || is_unknown_in d condition, fault.UnknownName)
    ∷ (asked_of_event (λ (event : EventDraft). is_some event.condition) false d variable, fault.TwiceNamed)
    ∷ (not (is_right condition), fault.BadAction)
    ∷ [])
    (with_event variable (λ (event : EventDraft). record event { condition = resolved d condition }) d)

abbrev pub Numbered : Type 0
Numbered = ℕ × List Deed

-- there are deeds of this number
abbrev pub has_number : ℕ → List Numbered → Bool
has_number number lists = list_any (λ (list : Numbered). list.0 == number) lists

-- deeds at their place by number
abbrev pub with_numbered : Numbered → List Numbered → List Numbered
with_numbered new [] = new ∷ []
with_numbered new (list ∷ lists) = if nat_lt new.0 list.0 then new ∷ list ∷ lists else list ∷ with_numbered new lists

-- `v.action(K, "actions")`, by the actions, where they read
abbrev pub set_action_line : Jobs → Name → ℕ → Option (List Action) → Draft → Result Draft LineFault
set_action_line jobs variable number actions d =
    let deeds = deeds_in jobs d actions in
    unless (
    (is_none (event_of d variable), fault.UnknownName)
    ∷ (nat_lt 15 number, fault.OutOfRange)
    ∷ (asked_of_event (λ (event : EventDraft). has_number number event.actions) false d variable, fault.TwiceNamed)
    ∷ (is_none deeds, fault.BadAction)
    ∷ [])
    (with_event variable
    (λ (event : EventDraft). record event { actions = with_numbered (number, or_none deeds) event.actions }) d)

-- `v.activate()`
abbrev pub activate_line : Name → Draft → Result Draft LineFault
activate_line variable d =
    unless ((is_none (event_of d variable), fault.UnknownName) ∷ [])
    (with_event variable (λ (event : EventDraft). record event { on = true }) d)

-- `trick.add_event(v)`
abbrev pub add_event_line : Name → Draft → Result Draft LineFault
add_event_line variable d =
    let name = asked_of_event (λ (event : EventDraft). event.name) [] d variable in
    unless (
    (is_none (event_of d variable), fault.UnknownName)
    ∷ (is_some (meaning_of name d.added_events), fault.TwiceNamed)
    ∷ (is_full d.added_events 256, fault.TooMany 256)
    ∷ [])
    (record d { added_events = with_name name (or_zero (event_of d variable)) d.added_events })

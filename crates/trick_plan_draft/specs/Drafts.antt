-- What the lines so far have said.
use Rattle.std.specs.Prelude.{ℕ, ℤ, nat_lt, true, false, List, [], ◌∷◌, length, replicate, slice_get, Option, Some, None, if◌then◌else◌}
use Rattle.trick_plan_draft.specs.Cells.{known_cells, only_names}
use Rattle.trick_plan_draft.specs.Changed.{changed_at}
use Rattle.trick_plan_draft.specs.Jobs.{Jobs}
use Rattle.trick_plan_draft.specs.declared.draft.Draft.{Draft}
use Rattle.trick_plan_draft.specs.declared.event.EventDraft.{EventDraft}
use Rattle.trick_plan_draft.specs.declared.group.GroupDraft.{GroupDraft}
use Rattle.trick_plan_draft.specs.declared.handle.Handle.{Handle}
use Rattle.trick_plan_draft.specs.declared.handle.Handle.TheVariants as handle
use Rattle.trick_lang.specs.SyntaxTree.{Name}
use Rattle.trick_lang.specs.declared.program.Program.{Program}
use Rattle.trick_lang.specs.declared.variable.EnumItem.{EnumItem}
use Rattle.trick_model.specs.Names as model
use Rattle.trick_check_names.specs.Names.{Names, meaning_of, with_name}

-- ---- before the first line

-- the items of enums with their values
abbrev pub with_items : List EnumItem → Names ℤ → Names ℤ
with_items [] names = names
with_items (item ∷ items) names = with_items items (with_name item.name item.value names)

-- All jobs are on.
abbrev pub begun : Program → Draft
begun p = record {
  cells = known_cells p.objects p.cells;
  items = with_items p.items [];
  variables = [];
  group_names = [];
  event_names = [];
  groups = [];
  events = [];
  added_groups = [];
  added_events = [];
  depends = [];
  reads = [];
  assigns = [];
  jobs = record { on = replicate (length p.jobs) true };
}

abbrev pub new_group : Name → GroupDraft
new_group name = record { name = name; cycle = 100000; changes = false; cells = []; on = true }

-- with the cycle that it has where no line says otherwise
abbrev pub new_event : Name → ℕ → EventDraft
new_event name cycle = record { name = name; cycle = cycle; condition = None; actions = []; on = false }

-- ---- what a variable stands for

-- a place, where the list has it
abbrev pub place_in : {T : Type 0} → List T → ℕ → Option ℕ
place_in xs place = if nat_lt place (length xs) then Some place else None

abbrev pub as_group : Draft → Option Handle → Option ℕ
as_group d None = None
as_group d (Some (handle.Group place)) = place_in d.groups place
as_group d (Some (handle.Event place)) = None

abbrev pub as_event : Draft → Option Handle → Option ℕ
as_event d None = None
as_event d (Some (handle.Group place)) = None
as_event d (Some (handle.Event place)) = place_in d.events place

-- the group that a variable stands for, by its place
abbrev pub group_of : Draft → Name → Option ℕ
group_of d variable = as_group d (meaning_of variable d.variables)

-- the event that a variable stands for, by its place
abbrev pub event_of : Draft → Name → Option ℕ
event_of d variable = as_event d (meaning_of variable d.variables)

-- the item at a place, where a place is given
abbrev pub item_at : {T : Type 0} → List T → Option ℕ → Option T
item_at xs None = None
item_at xs (Some place) = slice_get xs place

-- what is asked of an item; of none this
abbrev pub asked : {T A : Type 0} → (T → A) → A → Option T → A
asked ask none None = none
asked ask none (Some x) = ask x

abbrev pub asked_of_group : {A : Type 0} → (GroupDraft → A) → A → Draft → Name → A
asked_of_group ask none d variable = asked ask none (item_at d.groups (group_of d variable))

abbrev pub asked_of_event : {A : Type 0} → (EventDraft → A) → A → Draft → Name → A
asked_of_event ask none d variable = asked ask none (item_at d.events (event_of d variable))

-- the group that a variable stands for is changed
abbrev pub with_group : Name → (GroupDraft → GroupDraft) → Draft → Draft
with_group variable change d = record d { groups = changed_at change d.groups (group_of d variable) }

-- the event that a variable stands for is changed
abbrev pub with_event : Name → (EventDraft → EventDraft) → Draft → Draft
with_event variable change d = record d { events = changed_at change d.events (event_of d variable) }

-- ---- the names that actions can have

-- Groups and events are there once they are added.
abbrev pub names_of : Jobs → Draft → model.Names
names_of jobs d = record {
  cells = only_names d.cells.names;
  scalars = d.cells.scalars;
  job_names = jobs.names;
  jobs = jobs.all;
  groups = only_names d.added_groups;
  events = only_names d.added_events;
}

-- What a draft keeps, whatever its lines say.
use Rattle.std.specs.List.{All}
use Rattle.std.specs.Prelude.{◌≡◌, ℕ, ◌≤◌, ℤ, IsTrue, List, length, map, Option, Some, None, slice_get}
use Rattle.trick_plan_draft.specs.Cells.{AreNumbered, known_cells, only_names}
use Rattle.trick_plan_draft.specs.Drafts.{names_of}
use Rattle.trick_plan_draft.specs.Jobs.{Jobs}
use Rattle.trick_plan_draft.specs.Lines.{Numbered}
use Rattle.trick_plan_draft.specs.declared.cells.KnownCells.{KnownCells}
use Rattle.trick_plan_draft.specs.declared.draft.Draft.{Draft}
use Rattle.trick_plan_draft.specs.declared.event.EventDraft.{EventDraft}
use Rattle.trick_plan_draft.specs.declared.group.GroupDraft.{GroupDraft}
use Rattle.trick_lang.specs.Effect.{scalars_of}
use Rattle.trick_lang.specs.SyntaxTree.{Name}
use Rattle.trick_lang.specs.Tree.{Term}
use Rattle.trick_lang.specs.Wrap.{IsInRange}
use Rattle.trick_lang.specs.declared.cells.Cell.{Cell}
use Rattle.trick_lang.specs.declared.program.Program.{Program}
use Rattle.trick_lang.specs.declared.scalar.Scalar.{Scalar}
use Rattle.trick_model.specs.Condition.{is_condition}
use Rattle.trick_model.specs.Names as model
use Rattle.trick_base.specs.Time.{tic_limit}
use Rattle.trick_model.specs.Valid.{all_differ, AreDeedsAmong, cell_names, IsCell, IsCycle, IsDeedAmong, IsPair, rises}
use Rattle.trick_model.specs.declared.depends.Depends.{Depends}
use Rattle.trick_model.specs.declared.read_at.ReadAt.{ReadAt}
use Rattle.trick_model.specs.declared.thread.Thread.{Thread}
use Rattle.trick_check_names.specs.Names.{Names}

-- ---- cells

-- The draft knows the cells of the program.
abbrev pub Mirrors : Program → Draft → Type 0
Mirrors p d = d.cells ≡ known_cells p.objects p.cells

-- Each cell has a type, and its number is the place of its name.
pub record AreCells (known : KnownCells) : Type 0 where
  pub typed : length known.names ≡ length known.scalars
  pub numbered : AreNumbered known

-- the draft has the names and the types of the program's cells
pub record IsMirrored (p : Program) (d : Draft) : Type 0 where
  pub cells : AreCells d.cells
  pub names : only_names d.cells.names ≡ cell_names p.cells
  pub scalars : d.cells.scalars ≡ scalars_of p.cells

-- an assignment gives a cell a number of its range
pub record IsSet (scalars : List Scalar) (assign : Cell × ℤ) : Type 0 where
  pub there : IsCell (length scalars) assign.0
  pub in_range : IsInRange scalars (assign.0).0 assign.1

-- ---- pairs and reads

-- There are at most 512 pairs, each of two jobs that can wait.
pub record ArePairs (jobs : Jobs) (threads : List Thread) (depends : List Depends) : Type 0 where
  pub few : length depends ≤ 512
  pub right : All (IsPair jobs.all threads) depends

-- There are at most 4,096 reads, each at a time, whose deeds are about these names.
pub record AreReads (names : model.Names) (reads : List ReadAt) : Type 0 where
  pub few : length reads ≤ 4096
  pub times : All (λ (read : ReadAt). read.tic ≤ tic_limit) reads
  pub deeds : All (λ (read : ReadAt). All (IsDeedAmong names) read.actions) reads

-- ---- groups and events

-- A group has a cycle and at most 256 cells, which are there.
pub record IsGroup (cells : ℕ) (group : GroupDraft) : Type 0 where
  pub cycle : IsCycle group.cycle
  pub few : length group.cells ≤ 256
  pub there : All (IsCell cells) group.cells

-- a condition cannot fault, and its cells are there, whatever is declared after it
abbrev pub IsCondition : ℕ → Option Term → Type 0
IsCondition cells None = Unit {0}
IsCondition cells (Some e) = (count : ℕ) → cells ≤ count → IsTrue (is_condition count e)

-- An event has a cycle, a condition that cannot fault, and deeds by rising number that are about these names.
pub record IsEvent (names : model.Names) (cells : ℕ) (event : EventDraft) : Type 0 where
  pub cycle : IsCycle event.cycle
  pub condition : IsCondition cells event.condition
  pub rising : IsTrue (rises (map (λ (list : Numbered). list.0) event.actions))
  pub in_range : All (λ (list : Numbered). list.0 ≤ 15) event.actions
  pub deeds : AreDeedsAmong names event.actions

-- a name that is added is that of the group or event at its place
abbrev pub IsOfPlace : List Name → Name × ℕ → Type 0
IsOfPlace names added = slice_get names added.1 ≡ Some added.0

-- So many of those with these names are added at most, each once.
pub record AreAdded (limit : ℕ) (names : List Name) (added : Names ℕ) : Type 0 where
  pub few : length added ≤ limit
  pub differ : IsTrue (all_differ (only_names added))
  pub there : All (IsOfPlace names) added

abbrev pub names_of_groups : List GroupDraft → List Name
names_of_groups groups = map (λ (group : GroupDraft). group.name) groups

abbrev pub names_of_events : List EventDraft → List Name
names_of_events events = map (λ (event : EventDraft). event.name) events

-- ---- drafts

-- A draft is one of a program with these jobs and threads where all that it says is right.
pub record IsDraftOf (jobs : Jobs) (threads : List Thread) (d : Draft) : Type 0 where
  pub cells : AreCells d.cells
  pub flagged : length d.jobs.on ≡ length jobs.all
  pub assigns : All (IsSet d.cells.scalars) d.assigns
  pub depends : ArePairs jobs threads d.depends
  pub reads : AreReads (names_of jobs d) d.reads
  pub groups : All (IsGroup (length d.cells.scalars)) d.groups
  pub events : All (IsEvent (names_of jobs d) (length d.cells.scalars)) d.events
  pub added_groups : AreAdded 64 (names_of_groups d.groups) d.added_groups
  pub added_events : AreAdded 256 (names_of_events d.events) d.added_events

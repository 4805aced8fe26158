-- Laws of drafts.
use Rattle.std.specs.Prelude.{◌≡◌, ℕ, ◌≤◌, ℤ, Bool, List, Option, Some, Ok}
use Rattle.trick_plan_draft.specs.Drafts.{begun, names_of}
use Rattle.trick_plan_draft.specs.Jobs.{Jobs, jobs_of, waiting_job}
use Rattle.trick_plan_draft.specs.Kept.{IsDraftOf, IsMirrored, Mirrors}
use Rattle.trick_plan_draft.specs.Lines.{activate_line, add_event_line, add_group_line, add_read_line, add_variable_line, assign_line, declare_line, depend_line, new_event_line, new_group_line, set_action_line, set_changes_line, set_condition_line, set_cycle_line, set_group_line, set_job_line, this_own_line}
use Rattle.trick_plan_draft.specs.declared.draft.Draft.{Draft}
use Rattle.trick_plan_variables.specs.declared.declaration.Declaration.{Declaration}
use Rattle.trick_lang.specs.SyntaxTree.{Expression, Name}
use Rattle.trick_lang.specs.declared.job.JobId.{JobId}
use Rattle.trick_lang.specs.declared.program.Program.{Program}
use Rattle.trick_base.specs.Time.{tic_limit}
use Rattle.trick_model.specs.Names.{deed_of}
use Rattle.trick_model.specs.Valid.{IsCycle}
use Rattle.trick_model.specs.declared.action.Action.{Action}
use Rattle.trick_model.specs.declared.deed.Deed.{Deed}
use Rattle.trick_model.specs.declared.thread.Thread.{Thread}

-- What an action asks for among the names of the first draft it asks for among those of the second, too: what was
-- added before keeps its number.
abbrev pub KeepsDeeds : Jobs → Draft → Draft → Type 0
KeepsDeeds jobs d e =
    (action : Action) (deed : Deed) → deed_of (names_of jobs d) action ≡ Some deed
    → deed_of (names_of jobs e) action ≡ Some deed

-- The second draft knows the same cells, and is right where the first one is; deeds are the same.
pub record Keeps (jobs : Jobs) (threads : List Thread) (d e : Draft) : Type 0 where
  pub cells : e.cells ≡ d.cells
  pub right : IsDraftOf jobs threads d → IsDraftOf jobs threads e
  pub deeds : KeepsDeeds jobs d e

-- what every line that is taken keeps of a draft, but for a declaration
pub record LinesKeep (jobs : Jobs) (threads : List Thread) : Type 0 where
  pub assign : (name : Name) (number : ℤ) (d e : Draft) → assign_line name number d ≡ Ok e → Keeps jobs threads d e
  pub depend : (target : Name) (instance : ℕ) (depended : Name) (depended_instance : ℕ) (d e : Draft)
      → depend_line (waiting_job jobs threads target instance) (waiting_job jobs threads depended depended_instance) d
      ≡ Ok e
      → Keeps jobs threads d e
  pub set_job : (job : Option JobId) (on : Bool) (d e : Draft) → set_job_line job on d ≡ Ok e → Keeps jobs threads d e
  pub add_read : (tic : ℕ) → tic ≤ tic_limit → (actions : Option (List Action)) (d e : Draft)
      → add_read_line jobs tic actions d ≡ Ok e
      → Keeps jobs threads d e
  pub new_group : (variable name : Name) (d e : Draft) → new_group_line variable name d ≡ Ok e → Keeps jobs threads d e
  pub add_variable : (variable name : Name) (d e : Draft)
      → add_variable_line variable name d ≡ Ok e
      → Keeps jobs threads d e
  pub set_group : (variable : Name) (on : Bool) (d e : Draft)
      → set_group_line variable on d ≡ Ok e
      → Keeps jobs threads d e
  pub set_changes : (variable : Name) (changes : Bool) (d e : Draft)
      → set_changes_line variable changes d ≡ Ok e
      → Keeps jobs threads d e
  pub add_group : (variable : Name) (d e : Draft) → add_group_line variable d ≡ Ok e → Keeps jobs threads d e
  pub set_cycle : (variable : Name) (tics : ℕ) → tics ≤ tic_limit → (d e : Draft)
      → set_cycle_line variable tics d ≡ Ok e
      → Keeps jobs threads d e
  pub this_own : (variable : Name) (d e : Draft) → this_own_line variable d ≡ Ok e → Keeps jobs threads d e
  pub new_event : (variable name : Name) (frame : ℕ) → IsCycle frame → (d e : Draft)
      → new_event_line variable name frame d ≡ Ok e
      → Keeps jobs threads d e
  pub set_condition : (variable : Name) (condition : Option Expression) (d e : Draft)
      → set_condition_line variable condition d ≡ Ok e
      → Keeps jobs threads d e
  pub set_action : (variable : Name) (number : ℕ) (actions : Option (List Action)) (d e : Draft)
      → set_action_line jobs variable number actions d ≡ Ok e
      → Keeps jobs threads d e
  pub activate : (variable : Name) (d e : Draft) → activate_line variable d ≡ Ok e → Keeps jobs threads d e
  pub add_event : (variable : Name) (d e : Draft) → add_event_line variable d ≡ Ok e → Keeps jobs threads d e

abbrev pub AllLinesKeep : Type 0
AllLinesKeep = (jobs : Jobs) (threads : List Thread) → LinesKeep jobs threads

-- A draft that knows the cells of a program is right with a declaration where it was right before.
abbrev pub DeclarationsKeep : Type 0
DeclarationsKeep =
    (jobs : Jobs) (threads : List Thread) (p : Program) (declared : Option Declaration) (d e : Draft)
    → declare_line declared d ≡ Ok e
    → Mirrors p e
    → IsDraftOf jobs threads d
    → IsDraftOf jobs threads e

-- What an action asks for stays the same with a declaration, where the draft was right before.
abbrev pub DeclarationsKeepDeeds : Type 0
DeclarationsKeepDeeds =
    (jobs : Jobs) (threads : List Thread) (declared : Option Declaration) (d e : Draft)
    → declare_line declared d ≡ Ok e
    → IsDraftOf jobs threads d
    → KeepsDeeds jobs d e

-- The draft before the first line is right.
abbrev pub BeginsRight : Type 0
BeginsRight = (p : Program) (threads : List Thread) → IsDraftOf (jobs_of p) threads (begun p)

-- A draft that knows the cells of a program has their names and types, by their places.
abbrev pub CellsAreMirrored : Type 0
CellsAreMirrored = (p : Program) (d : Draft) → Mirrors p d → IsMirrored p d

-- A run that goes on from a turn of another run: it writes the remainder of its files.
use Rattle.std.specs.Prelude.{◌≡◌, ◌<◌, ◌≤◌, ℕ, All, IsTrue, false, List, ◌++◌, codes, Option, Some}
use Rattle.trick_base.specs.Content.{same_name}
use Rattle.trick_model_sessions.specs.Lines.{AllApplySame}
use Rattle.trick_model.specs.Files.{file, journal_name}
use Rattle.trick_model.specs.Journal.{Noted}
use Rattle.trick_model.specs.Plan.{Plan}
use Rattle.trick_model.specs.PlanOf.{plan_of}
use Rattle.trick_model.specs.Records.{header, log_name}
use Rattle.trick_model.specs.Run.{Fits, final, lists_of}
use Rattle.trick_model.specs.State.{State}
use Rattle.trick_model.specs.declared.entry.Entry.{Entry}
use Rattle.trick_model.specs.declared.group.Group.{Group}
use Rattle.trick_model.specs.declared.plan.Plan.{Plan as PlanValue}
use Rattle.trick_model_remainder.specs.Remainder.{added, early_writes, is_made, late_lists, late_writes, state_at, whole_file}

-- the file of a name after a run that goes on from the state before a turn, under these lists
abbrev pub continued_file : Plan → State → List Noted → (turn : ℕ) → List (List Entry) → List ℕ → Option (List ℕ)
    → Option (List ℕ)
continued_file p s entries turn lists name before = file name p (state_at p s entries turn) lists before

-- A log of the first run has its header, the rows of the turns before that one, and those from it on; that of the run
-- that goes on has its header and the same rows from that turn on.
pub record KeepsRows (p : Plan) (s : State) (entries : List Noted) (end turn : ℕ) (lists : List (List Entry))
    (group : Group) : Type 0 where
  pub whole : (before : Option (List ℕ)) → whole_file p s entries end (log_name group) before
      ≡ Some (header p group ++ (added (log_name group) (early_writes p s entries turn)
      ++ added (log_name group) (late_writes p s entries end turn)))
  pub continued : (before : Option (List ℕ)) → continued_file p s entries turn lists (log_name group) before
      ≡ Some (header p group ++ added (log_name group) (late_writes p s entries end turn))

-- The run that goes on from the state before a turn of the run under a journal, and has these lists, ends in the same
-- state. It writes the remainder of that run's files: the rows from that turn on, the same last files, and the same
-- checkpoints of turns from that one on.
pub record WritesRemainder (p : Plan) (s : State) (entries : List Noted) (end turn : ℕ) (lists : List (List Entry))
    : Type 0 where
  pub ends : final p (state_at p s entries turn) lists ≡ final p s (lists_of entries end s.turn s.mode)
  pub logs : All (KeepsRows p s entries end turn lists) p.groups
  pub last : (before later : Option (List ℕ)) → whole_file p s entries end (codes "final.chk") before
      ≡ continued_file p s entries turn lists (codes "final.chk") later
  pub faults : (before later : Option (List ℕ)) → whole_file p s entries end (codes "faults.txt") before
      ≡ continued_file p s entries turn lists (codes "faults.txt") later
  pub checkpoints : (name : List ℕ) (before later : Option (List ℕ)) → same_name name journal_name ≡ false
      → IsTrue (is_made name (late_writes p s entries end turn))
      → whole_file p s entries end name before ≡ continued_file p s entries turn lists name later

-- So does each run that goes on from there with the lines and publications that the journal has from that turn on, turn
-- by turn and in their order: it makes no difference who says them.
abbrev pub RunsWriteRemainders : Type 0
RunsWriteRemainders =
    (plan : PlanValue) (s : State) (entries : List Noted) (end turn : ℕ) (lists : List (List Entry)) → s.turn < turn
    → turn ≤ end → Fits (plan_of plan) s (lists_of entries end s.turn s.mode)
    → AllApplySame lists (late_lists entries end turn) → WritesRemainder (plan_of plan) s entries end turn lists

-- The files of a run are made once at most.
use Rattle.std.specs.Prelude.{◌<◌, ℕ, All, List, codes}
use Rattle.trick_base.specs.Content.{IsTidy}
use Rattle.trick_model.specs.Files.{run_writes}
use Rattle.trick_model.specs.Plan.{Plan}
use Rattle.trick_model.specs.PlanOf.{plan_of}
use Rattle.trick_model.specs.Records.{log_name}
use Rattle.trick_model.specs.Run.{after_turns, opened}
use Rattle.trick_model.specs.State.{State}
use Rattle.trick_model.specs.Time.{last_turn}
use Rattle.trick_model.specs.Turn.{checkpoint_name}
use Rattle.trick_model.specs.declared.entry.Entry.{Entry}
use Rattle.trick_model.specs.declared.group.Group.{Group}
use Rattle.trick_model.specs.declared.plan.Plan.{Plan as PlanValue}

-- A run makes each of its files once at most, and adds to it after that alone: its logs and its last files; and its
-- checkpoints where the count of turns has not come to its end.
pub record MakesOnce (p : Plan) (s : State) (lists : List (List Entry)) : Type 0 where
  pub logs : All (λ (group : Group). IsTidy (log_name group) (run_writes p s lists)) p.groups
  pub last : IsTidy (codes "final.chk") (run_writes p s lists)
  pub faults : IsTidy (codes "faults.txt") (run_writes p s lists)
  pub checkpoints : (after_turns p (opened s) lists).state.turn < last_turn
      → (turn : ℕ) → turn < last_turn → IsTidy (checkpoint_name turn) (run_writes p s lists)

-- So does every run of a plan.
abbrev pub FilesAreMadeOnce : Type 0
FilesAreMadeOnce = (plan : PlanValue) (s : State) (lists : List (List Entry)) → MakesOnce (plan_of plan) s lists

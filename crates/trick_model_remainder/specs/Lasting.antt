-- How long a run under a journal lasts.
use Rattle.std.specs.Prelude.{◌≡◌, ◌+◌, ◌-◌, ◌≤◌, List, length}
use Rattle.trick_base.specs.Time.{tic_limit}
use Rattle.trick_model.specs.Plan.{Plan}
use Rattle.trick_model.specs.PlanOf.{plan_of}
use Rattle.trick_model.specs.Run.{Fits, IsOwnJournal, Lasts, after_turns, opened}
use Rattle.trick_model.specs.State.{State, World}
use Rattle.trick_model.specs.ValidState.{IsStateOf}
use Rattle.trick_model.specs.declared.entry.Entry.{Entry}
use Rattle.trick_model.specs.declared.plan.Plan.{Plan as PlanValue}

-- ---- the lists of a run

-- The lists that turns were given are those of a whole run, and the world in which it is over is the one after them.
pub record IsWhole (p : Plan) (s : State) (lists : List (List Entry)) (end : World) : Type 0 where
  pub fits : Fits p s lists
  pub comes : end ≡ after_turns p (opened s) lists

-- So are those of each run under a journal.
abbrev pub LastingFits : Type 0
LastingFits =
    (p : Plan) (s : State) (left lists : List (List Entry)) (end : World) → Lasts p (opened s) left lists end
    → IsWhole p s lists end

-- ---- each journal

-- A journal gives a state a run: the lists that its turns are given, and the world in which it is over. It has at most
-- as many turns as the journal has lists, and one more for each tic that a run can have.
pub record HasRun (p : Plan) (s : State) (left : List (List Entry)) : Type 0 where
  pub lists : List (List Entry)
  pub end : World
  pub lasts : Lasts p (opened s) left lists end
  pub most : length lists ≤ length left + (tic_limit + 1)

-- So does each journal to each valid state of a plan, which need not be accepted.
abbrev pub EveryJournalLasts : Type 0
EveryJournalLasts =
    (plan : PlanValue) (s : State) (left : List (List Entry)) → IsStateOf (plan_of plan) s
    → HasRun (plan_of plan) s left

-- ---- runs without clients

-- A state has the journal of a run without clients, with at most one turn for each tic that is left of those that a run
-- can have.
pub record HasOwnJournal (p : Plan) (s : State) : Type 0 where
  pub lists : List (List Entry)
  pub own : IsOwnJournal p s lists
  pub most : length lists ≤ tic_limit + 1 - s.tic

-- So has each valid state of a plan.
abbrev pub StatesHaveOwnJournals : Type 0
StatesHaveOwnJournals = (plan : PlanValue) (s : State) → IsStateOf (plan_of plan) s → HasOwnJournal (plan_of plan) s

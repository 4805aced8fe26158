-- Runs of plans without asynchronous threads.
use Rattle.std.specs.List.{list_any}
use Rattle.std.specs.Prelude.{◌≡◌, ℤ, Bool, false, List, None, Result}
use Rattle.trick_exec.specs.Ended.{IsRun}
use Rattle.trick_exec.specs.Own.{RunsAs, RunsOwn}
use Rattle.trick_exec.specs.declared.ended.Ended.{Ended as EndedValue}
use Rattle.trick_model.specs.Plan.{Plan, is_async}
use Rattle.trick_model.specs.PlanOf.{plan_of}
use Rattle.trick_model.specs.Session.{Message}
use Rattle.trick_model.specs.State.{State}
use Rattle.trick_model.specs.declared.plan.Plan.{Plan as PlanValue}
use Rattle.trick_model.specs.declared.thread.Thread.{Thread}
use Rattle.trick_outside.specs.declared.stop.Stop.{Stop}
use Rattle.trick_exec_meaning.specs.Hosts.{Hosts, Place}
use Rattle.trick_exec_sources.specs.Turns.{Answer, AreSilent}
use Rattle.trick_exec_sources.specs.declared.turns.Turns.{Ghosts as TurnsGhosts}

-- Some thread of the plan is asynchronous: it has rounds, whether or not it has a job. A must-finish thread has none,
-- since the tics at which it publishes are fixed.
abbrev pub has_async : Plan → Bool
has_async p = list_any (λ (thread : Thread). is_async thread.process) p.threads

-- Between two moments a source gave no entry. It decides nothing, and tells no journal.
pub record GaveNothing {U M : Type 0} (turns : TurnsGhosts U M) (old new : U) : Type 0 where
  pub silent : (answers : List Answer) (messages : List Message) → turns.went old answers messages new
      → AreSilent answers
  pub undecided : turns.decided old ≡ false
  pub untold : turns.journal old ≡ None

-- So it is between any two moments, and the source never owes an entry.
pub record GivesNothing {U M : Type 0} (turns : TurnsGhosts U M) : Type 0 where
  pub gave : (old new : U) → GaveNothing turns old new
  pub paid : (moment : U) → turns.owes moment ≡ false

-- Whatever run of a plan without asynchronous threads such a source had between two moments was the one without
-- clients, whoever did the work beside the tics, and however late it was done.
abbrev pub RunsWithoutRoundsAreOwn : {S U M Q D : Type 0} → Hosts S U M Q → (D → List ℤ) → Type 0
RunsWithoutRoundsAreOwn {S} {U} {M} {Q} {D} h numbers =
    (plan : PlanValue) (s : State) (old new : Place S U Q) (result : Result (EndedValue D) Stop)
    → has_async (plan_of plan) ≡ false → GaveNothing h.turns old.turns new.turns
    → IsRun h numbers (plan_of plan) s old new result
    → RunsOwn h.shelf numbers (plan_of plan) s old.shelf new.shelf result

-- The same for a source that is such at whatever moment: where the run stopped, it did a part of the one without
-- clients.
abbrev pub RunsWithoutRoundsAreAlone : {S U M Q D : Type 0} → Hosts S U M Q → (D → List ℤ) → Type 0
RunsWithoutRoundsAreAlone {S} {U} {M} {Q} {D} h numbers =
    (plan : PlanValue) (s : State) (old new : Place S U Q) (result : Result (EndedValue D) Stop)
    → has_async (plan_of plan) ≡ false → GivesNothing h.turns
    → IsRun h numbers (plan_of plan) s old new result
    → RunsAs h.shelf numbers (plan_of plan) s old.shelf new.shelf result

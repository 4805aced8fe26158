-- How often rounds of asynchronous threads stay unpublished.
use Rattle.std.specs.Prelude.{◌≡◌, ◌+◌, ℕ, suc, cond, ◌&&◌, false, not, List, [], ◌∷◌}
use Rattle.trick_model.specs.Beside.{has_round}
use Rattle.trick_model.specs.Plan.{Plan, threads_beside}
use Rattle.trick_model.specs.PlanOf.{plan_of}
use Rattle.trick_model.specs.Run.{opened}
use Rattle.trick_model.specs.State.{State, World}
use Rattle.trick_model.specs.Turn.{runs, turn}
use Rattle.trick_model.specs.declared.entry.Entry.{Entry}
use Rattle.trick_model.specs.declared.plan.Plan.{Plan as PlanValue}
use Rattle.trick_model.specs.declared.thread.Thread.{Thread}
use Rattle.trick_outside.specs.Causes.{RoseBy}
use Rattle.trick_post_work.specs.Polls.{Poll, not_ready}
use Rattle.trick_exec_meaning.specs.Hosts.{Hosts, Place}
use Rattle.trick_exec_meaning.specs.Ran.{AreDone}
use Rattle.trick_exec_meaning.specs.Rounds.{AreChosen, heard_state, is_published, publications}
use Rattle.trick_exec_sources.specs.Turns.{Answer}

-- Of these threads, how many have a round in flight that no entry publishes; `place` is that of the first.
abbrev pub left_among : State → List Entry → ℕ → List Thread → ℕ
left_among s entries place [] = 0
left_among s entries place (thread ∷ threads) =
    let more = left_among s entries (place + 1) threads in
    cond (has_round s place thread && not (is_published thread.number entries)) (suc more) more

-- how many rounds a turn leaves unpublished; in a freeze frame this is none
abbrev pub left_in : Plan → World → List Entry → ℕ
left_in p w entries =
    let s = heard_state p w entries in cond (runs s) (left_among s (publications entries) 0 (threads_beside p)) 0

-- the same of turns, one after another: so many pairs there are of a run frame and a round that it leaves
abbrev pub left_by : Plan → World → List (List Entry) → ℕ
left_by p w [] = 0
left_by p w (entries ∷ lists) = left_in p w entries + left_by p (turn p w entries).world lists

-- Turns whose publications were chosen by polls leave as many rounds unpublished as polls found not ready.
abbrev pub LeftAreNotReady : Type 0
LeftAreNotReady =
    (plan : PlanValue) (w : World) (lists : List (List Entry)) (polls : List Poll) (waits : List ℕ)
    → AreChosen (plan_of plan) w lists polls waits → left_by (plan_of plan) w lists ≡ not_ready polls

-- Where the turns of a run were done, to its end or to that of a journal, and its source does not decide what is
-- published, `late` of its posts has risen by as many at least as they leave rounds unpublished.
abbrev pub LeftAreLate : {S U M Q : Type 0} → Hosts S U M Q → Type 0
LeftAreLate {S} {U} {M} {Q} h =
    (plan : PlanValue) (s : State) (lists : List (List Entry)) (last : List Answer) (old new : Place S U Q)
    → AreDone h (plan_of plan) s lists last old new → h.turns.decided old.turns ≡ false
    → RoseBy (h.posts.lateness old.posts) (left_by (plan_of plan) (opened s) lists) (h.posts.lateness new.posts)

-- `late` rises for each round that is left unpublished.
use Rattle.std.proofs.Common.{◌≡◌, ℕ, List, Bool, true, false, subst, sym}
use Rattle.trick_model.specs.PlanOf.{plan_of}
use Rattle.trick_model.specs.Run.{opened}
use Rattle.trick_model.specs.State.{State}
use Rattle.trick_model.specs.declared.entry.Entry.{Entry}
use Rattle.trick_model.specs.declared.plan.Plan.{Plan as PlanValue}
use Rattle.trick_outside.specs.Causes.{RoseBy}
use Rattle.trick_post_work.specs.Polls.{Poll, not_ready}
use Rattle.trick_post_work.specs.declared.posts.Posts.{Ghosts}
use Rattle.trick_exec_laws.proofs.Counts.{left_counted}
use Rattle.trick_exec_laws.specs.Counted.{left_by}
use Rattle.trick_exec_meaning.specs.Rounds.{AreChosen}
use Rattle.trick_exec_meaning.specs.Turned.{Asks}

pub left_late : {Q : Type 0} (posts : Ghosts Q)
    → ((old new : Q) (polls : List Poll) → posts.asked old polls new → RoseBy (posts.lateness old) (not_ready polls) (posts.lateness new))
    → (plan : PlanValue) (s : State) (lists : List (List Entry)) (decided : Bool) (old new : Q)
    → Asks decided posts.asked (λ polls. (waits : List ℕ) × AreChosen (plan_of plan) (opened s) lists polls waits) old new → decided ≡ false
    → RoseBy (posts.lateness old) (left_by (plan_of plan) (opened s) lists) (posts.lateness new)
left_late posts late plan s lists true old new asks undecided = cc undecided
left_late posts late plan s lists false old new asks undecided =
    let chosen = asks.2 in
    subst (λ (count : ℕ). RoseBy (posts.lateness old) count (posts.lateness new))
    (sym (left_counted plan (opened s) lists asks.0 chosen.0 chosen.1)) (late old new asks.0 asks.1)

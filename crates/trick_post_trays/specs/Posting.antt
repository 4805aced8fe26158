-- What a value that does the work itself promises.
use Rattle.std.proofs.Common.{refl, subst, sym, zero-le}
use Rattle.std.specs.List.{slice_index_or}
use Rattle.std.specs.Prelude.{◌≡◌, ℕ, suc, cond, List, [], ◌∷◌, ◌++◌, Option, None, map}
use Rattle.trick_model.specs.declared.plan.Plan.{Plan as PlanValue}
use Rattle.trick_post_trays.specs.Trays.{AreTraysOf, IsWorkerOf, held_in}
use Rattle.trick_post_trays.specs.declared.tray.Tray.{Tray}
use Rattle.trick_post_trays.specs.declared.worker.Worker.{Worker}
use Rattle.trick_outside.specs.Causes.{RoseBy}
use Rattle.trick_post_work.specs.Polls.{Poll, is_ready, not_ready}
use Rattle.trick_post_work.specs.Work.{Started}
use Rattle.trick_post_work.specs.declared.posts.Posted.{Posted}
use Rattle.trick_post_work.specs.declared.posts.Posted.TheVariants.{Ready}

-- what is started and not finished, by the number of the thread
abbrev pub started_at : List Tray → ℕ → Option Started
started_at trays number = slice_index_or (map held_in trays) number None

-- Its parts are those of the plan.
pub record AreParts (plan : PlanValue) (trays : List Tray) (worker : Worker) : Type 0 where
  pub trays_are : AreTraysOf plan trays
  pub worker_is : IsWorkerOf plan worker

-- Each round that was asked for was ready.
abbrev pub AllReady : List Poll → Type 0
AllReady [] = Unit {0}
AllReady (poll ∷ polls) = (poll.answer ≡ Ready) × AllReady polls

-- polls that were ready, and more of them
pub ready_join : (early late : List Poll) → AllReady early → AllReady late → AllReady (early ++ late)
ready_join [] late ready all = all
ready_join (poll ∷ polls) late ready all = (ready.0, ready_join polls late ready.1 all)

-- polls that were ready were not late
pub none_waits : (polls : List Poll) → AllReady polls → not_ready polls ≡ 0
none_waits [] ready = refl
none_waits (poll ∷ polls) ready =
    subst (λ (answer : Posted). cond (is_ready answer) (not_ready polls) (suc (not_ready polls)) ≡ 0) (sym ready.0)
    (none_waits polls ready.1)

-- so a count that stands at 0 has risen by as many
pub none_late : (polls : List Poll) → AllReady polls → RoseBy 0 (not_ready polls) 0
none_late polls ready = subst (λ count. RoseBy 0 count 0) (sym (none_waits polls ready)) zero-le

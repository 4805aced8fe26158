-- What a list of entries leaves of a post, and which lists there are.
use Rattle.std.specs.Prelude.{◌≡◌, ℕ, ◌+◌, ◌==◌, Bool, true, false, cond, List, [], ◌∷◌, Option, Some, None}
use Rattle.trick_post_places.specs.declared.event.Event.{Event}
use Rattle.trick_post_places.specs.declared.event.Event.TheVariants.{Start, Pick, Back, Finish, Shut}
use Rattle.trick_post_places.specs.declared.stage.Stage.{Stage}
use Rattle.trick_post_places.specs.declared.stage.Stage.TheVariants as stage
use Rattle.trick_model.specs.PlanOf.{plan_of}
use Rattle.trick_model.specs.declared.plan.Plan.{Plan as PlanValue}
use Rattle.trick_post_work.specs.Work.{CanStart, Started}

-- ---- how a thread stands

-- A thread has nothing to do; or what it was handed waits, or is worked at, or is ready.
pub data Standing : Type 0 where
  Idle : Standing
  Waiting : Started → Standing
  Working : Started → Standing
  Ready : Started → Standing

abbrev pub stage_of : Standing → Stage
stage_of Idle = stage.Idle
stage_of (Waiting started) = stage.Waiting
stage_of (Working started) = stage.Working
stage_of (Ready started) = stage.Ready

-- what the thread was handed and is not published
abbrev pub held_by : Standing → Option Started
held_by Idle = None
held_by (Waiting started) = Some started
held_by (Working started) = Some started
held_by (Ready started) = Some started

-- after a pick
abbrev pub picked : Standing → Standing
picked Idle = Idle
picked (Waiting started) = Working started
picked (Working started) = Working started
picked (Ready started) = Ready started

-- after the work was put back
abbrev pub put_back : Standing → Standing
put_back Idle = Idle
put_back (Waiting started) = Waiting started
put_back (Working started) = Ready started
put_back (Ready started) = Ready started

-- ---- the account

-- A post by its history: how each thread stands, by its number, and whether it was shut.
pub record Account : Type 0 where
  pub standings : ℕ → Standing
  pub shut : Bool

-- nothing was done yet
abbrev pub fresh : Account
fresh = record { standings = λ n. Idle; shut = false }

-- the thread of this number stands so now
abbrev pub with_standing : Account → ℕ → Standing → Account
with_standing h number now = record { standings = λ n. cond (n == number) now (h.standings n); shut = h.shut }

-- what an entry does to the account
abbrev pub step : Account → Event → Account
step h (Start seat number taken work) = with_standing h number (Waiting (record { taken = taken; work = work }))
step h (Pick seat number) = with_standing h number (picked (h.standings number))
step h (Back seat number) = with_standing h number (put_back (h.standings number))
step h (Finish seat number) = with_standing h number Idle
step h (Shut seat) = record h { shut = true }

abbrev pub after_from : Account → List Event → Account
after_from h [] = h
after_from h (e ∷ es) = after_from (step h e) es

-- what all entries leave
abbrev pub after : List Event → Account
after log = after_from fresh log

-- ---- which lists there are

-- the number of a pass that an entry names
abbrev pub seat_of : Event → ℕ
seat_of (Start seat number taken work) = seat
seat_of (Pick seat number) = seat
seat_of (Back seat number) = seat
seat_of (Finish seat number) = seat
seat_of (Shut seat) = seat

-- The desk's pass has the number 1, and that of the clerk of a thread is the thread's number and 2.
abbrev pub desk_seat : ℕ
desk_seat = 1

abbrev pub clerk_seat : ℕ → ℕ
clerk_seat number = number + 2

-- The desk starts what a thread can be handed where the thread has nothing to do, and finishes what is ready. Nothing
-- is started after a shut. The thread's clerk picks what waits, and puts back what it works at.
abbrev pub May : PlanValue → Account → Event → Type 0
May plan h (Start seat number taken work) = (seat ≡ desk_seat) × (h.shut ≡ false)
    × (stage_of (h.standings number) ≡ stage.Idle) × CanStart (plan_of plan) number taken work
May plan h (Pick seat number) = (seat ≡ clerk_seat number) × (stage_of (h.standings number) ≡ stage.Waiting)
May plan h (Back seat number) = (seat ≡ clerk_seat number) × (stage_of (h.standings number) ≡ stage.Working)
May plan h (Finish seat number) = (seat ≡ desk_seat) × (stage_of (h.standings number) ≡ stage.Ready)
May plan h (Shut seat) = seat ≡ desk_seat

-- Each entry may follow those before it.
abbrev pub IsLegal : PlanValue → Account → List Event → Type 0
IsLegal plan h [] = Unit {0}
IsLegal plan h (e ∷ es) = May plan h e × IsLegal plan (step h e) es

-- ---- what the desk's own entries say

-- what a thread was handed, after one entry more
abbrev pub started_after : ℕ → Option Started → Event → Option Started
started_after n held (Start seat number taken work) =
    cond (n == number) (Some (record { taken = taken; work = work })) held
started_after n held (Pick seat number) = held
started_after n held (Back seat number) = held
started_after n held (Finish seat number) = cond (n == number) None held
started_after n held (Shut seat) = held

abbrev pub started_from : ℕ → Option Started → List Event → Option Started
started_from n held [] = held
started_from n held (e ∷ es) = started_from n (started_after n held e) es

-- what was started and not finished, by the number of the thread
abbrev pub started_in : List Event → ℕ → Option Started
started_in log n = started_from n None log

-- whether a shut is among the entries
abbrev pub has_shut : List Event → Bool
has_shut [] = false
has_shut (Start seat number taken work ∷ es) = has_shut es
has_shut (Pick seat number ∷ es) = has_shut es
has_shut (Back seat number ∷ es) = has_shut es
has_shut (Finish seat number ∷ es) = has_shut es
has_shut (Shut seat ∷ es) = true

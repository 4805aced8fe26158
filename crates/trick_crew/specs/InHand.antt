-- What the clerks of a crew were handed.
use Rattle.std.specs.Arc.{arc_value}
use Rattle.std.specs.Prelude.{ℕ, Option, None}
use Rattle.trick_crew.specs.declared.clerks.Clerks.{Clerks}
use Rattle.trick_crew.specs.declared.clerks.Clerks.TheVariants as clerks
use Rattle.trick_post_places.specs.Histories.{started_in}
use Rattle.trick_model.specs.declared.plan.Plan.{Plan as PlanValue}
use Rattle.trick_model.specs.declared.planned.Planned.{Ghosts}
use Rattle.trick_post_work.specs.Work.{Started}
use Rattle.trick_turn.specs.Passes.{own}

module _ {P G R : Type 0} {planned : Ghosts P} where
  -- the plan that the clerks are for
  abbrev pub plan_for : Clerks P G R planned → PlanValue
  plan_for (clerks.Nobody nobody) = (arc_value nobody.held.accepted).plan
  plan_for (clerks.Yard yard) = (arc_value yard.desk.rack.held.accepted).plan

  -- what they were handed and was not published, by the number of the thread
  abbrev pub in_hand : Clerks P G R planned → ℕ → Option Started
  in_hand (clerks.Nobody nobody) thread = None
  in_hand (clerks.Yard yard) thread = started_in (own yard.desk.rack.pass) thread

  -- how often a poll found nothing ready; it stands still at 2^64 - 1
  abbrev pub lateness_of : Clerks P G R planned → ℕ
  lateness_of (clerks.Nobody nobody) = 0
  lateness_of (clerks.Yard yard) = yard.desk.late

-- Which clerks a crew has.
use Rattle.std.specs.Arc.{arc_value}
use Rattle.std.specs.Prelude.{◌≡◌, ℕ, List, [], map, reverse}
use Rattle.trick_crew.specs.declared.clerks.Clerks.{Clerks}
use Rattle.trick_crew.specs.declared.clerks.Clerks.TheVariants as clerks
use Rattle.trick_crew.specs.declared.listing.Listing.{Listing}
use Rattle.trick_crew.specs.declared.listing.Listing.TheVariants as listing
use Rattle.trick_crew_clerks.specs.Staffs.{AreStaffed, StayedAny}
use Rattle.trick_crew_clerks.specs.declared.shift.Shift.{Shift}
use Rattle.trick_post.specs.Clerks.{clerked}
use Rattle.trick_model.specs.declared.accepted.Accepted.{Accepted}
use Rattle.trick_model.specs.declared.planned.Planned.{Ghosts}
use Rattle.trick_turn.specs.Passes.{own}

module _ {P G R : Type 0} {planned : Ghosts P} where
  -- These are the clerks that an accepted plan needs, and nothing was handed to them.
  abbrev pub IsListedFor : Accepted → Listing P G R planned → Type 0
  IsListedFor accepted (listing.Nobody nobody) = arc_value nobody.held.accepted ≡ accepted
  IsListedFor accepted (listing.Roster roster) = (arc_value roster.desk.rack.held.accepted ≡ accepted)
      × (own roster.desk.rack.pass ≡ [])
      × (map (λ (shift : Shift P G R planned). shift.clerk.thread) roster.shifts.items ≡ clerked accepted.plan)

  -- Each of these threads has its clerk, by rising number: the clerk stayed, or its shift runs.
  abbrev pub AreStaffedBy : List ℕ → Clerks P G R planned → Type 0
  AreStaffedBy threads (clerks.Nobody nobody) = threads ≡ []
  AreStaffedBy threads (clerks.Yard yard) =
      AreStaffed threads (reverse yard.staff.here.items) (reverse yard.staff.away.items)

  -- Some clerk stayed.
  abbrev pub StayedAmong : Clerks P G R planned → Type 0
  StayedAmong (clerks.Nobody nobody) = ⊥
  StayedAmong (clerks.Yard yard) = StayedAny yard.staff.here.items

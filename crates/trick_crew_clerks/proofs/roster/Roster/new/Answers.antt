use Rattle.std.proofs.Common.{◌∙◌}
use Rattle.std.specs.Arc.{arc_value}
use Rattle.trick_crew_clerks.proofs.Posted.{made_of_post, made_threads}
use Rattle.trick_crew_clerks.proofs.Sharing.{is_empty_of}
use Rattle.trick_crew_clerks.proofs.roster.Roster.new.Goals as goal

pub invariant_of-roster-clause-of_post : goal.invariant_of-roster-clause-of_post
invariant_of-roster-clause-of_post g c =
    let made = c.in_ok-desk in
    ∣ made_of_post (arc_value made.desk.rack.lock) made.clerks.items c.in_ok-shifts.shifts.items c.in_ok-shifts.ensures made.ensures.lock ∣₁

pub invariant_of-roster-clause-nobody_here : goal.invariant_of-roster-clause-nobody_here
invariant_of-roster-clause-nobody_here g c = is_empty_of c.in_ok-staff.staff.here.items c.in_ok-staff.ensures.nobody_here

pub invariant_of-roster-clause-nobody_away : goal.invariant_of-roster-clause-nobody_away
invariant_of-roster-clause-nobody_away g c = is_empty_of c.in_ok-staff.staff.away.items c.in_ok-staff.ensures.nobody_away

pub returns-clause-threads : goal.returns-clause-threads
returns-clause-threads g c = made_threads c.in_ok-desk.clerks.items c.in_ok-shifts.shifts.items c.in_ok-shifts.ensures ∙ c.in_ok-desk.ensures.threads

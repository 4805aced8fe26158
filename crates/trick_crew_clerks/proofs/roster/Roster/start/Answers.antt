use Rattle.std.specs.Arc.{arc_value}
use Rattle.trick_crew_clerks.proofs.Posted.{away_of_post, here_of_post}
use Rattle.trick_crew_clerks.proofs.Sharing.{none_in}
use Rattle.trick_crew_clerks.proofs.roster.Roster.start.Goals as goal

pub start_each-requires-clause-nobody_here : goal.start_each-requires-clause-nobody_here
start_each-requires-clause-nobody_here g c κs within = none_in c.args.self.staff.here.items c.args.self.nobody_here

pub start_each-requires-clause-nobody_away : goal.start_each-requires-clause-nobody_away
start_each-requires-clause-nobody_away g c κs within = none_in c.args.self.staff.away.items c.args.self.nobody_away

pub invariant_of-yard : goal.invariant_of-yard
invariant_of-yard g c =
    let staff = c.start_each.new.staff in
    let lock = arc_value c.args.self.desk.rack.lock in
    record {
      here_of_post = here_of_post lock c.args.self.shifts.items staff.here.items staff.away.items c.start_each.ensures.shared c.args.self.of_post;
      away_of_post = away_of_post lock c.args.self.shifts.items staff.here.items staff.away.items c.start_each.ensures.shared c.args.self.of_post;
    }

use Rattle.trick_crew_team.proofs.Served.{due_threads_are_served}
use Rattle.trick_crew_team.proofs.laws.due_threads_are_served.Goals as goal

pub returns : goal.returns
returns c = due_threads_are_served

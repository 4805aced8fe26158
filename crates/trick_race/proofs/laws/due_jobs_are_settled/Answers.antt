use Rattle.trick_race.proofs.Settled.{due_jobs_are_settled}
use Rattle.trick_race.proofs.laws.due_jobs_are_settled.Goals as goal

pub returns : goal.returns
returns c = due_jobs_are_settled c.keys_differ.ensures

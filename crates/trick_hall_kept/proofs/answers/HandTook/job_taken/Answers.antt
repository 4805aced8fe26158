use Rattle.std.proofs.Common.{rules}
use Rattle.trick_hall_kept.proofs.answers.HandTook.job_taken.Goals as goal

pub returns-in-Took : goal.returns-in-Took
returns-in-Took c = search rules

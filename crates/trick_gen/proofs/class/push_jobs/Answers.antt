use Rattle.std.proofs.Common.{arith}
use Rattle.std.proofs.lemmas.Grind.{common_steps}
use Rattle.trick_gen.proofs.class.push_jobs.Goals as goal
use Rattle.trick_gen.specs.Texts.{jobs_text}

pub returns : goal.returns
unfolding jobs_text
returns c = grind (arith, common_steps)

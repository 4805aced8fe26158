use Rattle.std.proofs.Common.{rules}
use Rattle.trick_sdef_jobs.proofs.jobs.read_phase.Goals as goal

pub returns : goal.returns
returns c = search rules

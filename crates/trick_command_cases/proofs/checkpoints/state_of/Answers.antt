use Rattle.std.proofs.Common.{ap}
use Rattle.trick_memory.specs.Stored.{Stored}
use Rattle.trick_command_cases.proofs.checkpoints.state_of.Goals as goal

pub load-requires : goal.load-requires
load-requires c = ap (λ (m : Stored). m.scalars) c.in-Ok.ensures

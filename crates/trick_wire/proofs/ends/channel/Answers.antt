use Rattle.std.proofs.Common.{rules}
use Rattle.trick_wire.proofs.Relays.{begins, keeps_split}
use Rattle.trick_wire.proofs.ends.channel.Goals as goal

pub ruled-requires-clause-rule : goal.ruled-requires-clause-rule
ruled-requires-clause-rule g c = begins

pub another-theirs-requires-clause-rule : goal.another-theirs-requires-clause-rule
another-theirs-requires-clause-rule g c = keeps_split _ _ (search rules) (search rules)

pub returns-clause-room : goal.returns-clause-room
returns-clause-room g c = search rules

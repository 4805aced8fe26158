use Rattle.std.proofs.Common.{rules}
use Rattle.trick_wire.proofs.Writing.{cause_put}
use Rattle.trick_wire.proofs.writer.tell.Goals as goal

pub returns-then-ne-clause-put : goal.returns-then-ne-clause-put
returns-then-ne-clause-put g c = λ some none. cause_put c.push-told.result _ _ _ _ c.push-told.ensures.put c.push-told.ensures.full some (search rules) none

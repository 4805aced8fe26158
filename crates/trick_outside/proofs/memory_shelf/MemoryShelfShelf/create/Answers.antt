use Rattle.std.proofs.Common.{[], refl}
use Rattle.trick_outside.proofs.CallLemmas.{told_call}
use Rattle.trick_outside.proofs.memory_shelf.MemoryShelfShelf.create.Goals as goal

pub returns-then-fails-clause-went : goal.returns-then-fails-clause-went
returns-then-fails-clause-went c = told_call _ _ _ _ _ c.if-fails.ensures.cause ([], tt, refl)

pub returns-in-Ok-clause-went : goal.returns-in-Ok-clause-went
returns-in-Ok-clause-went c = rw c.make_empty.ensures.plan (told_call _ _ _ _ _ c.if-fails.ensures.cause c.in-Ok.ensures.ok)

pub returns-in-Err-clause-went : goal.returns-in-Err-clause-went
returns-in-Err-clause-went c = rw c.make_empty.ensures.plan (told_call _ _ _ _ _ c.if-fails.ensures.cause ([], tt, c.in-Err.ensures.err))

use Rattle.std.proofs.Common.{rules, refl}
use Rattle.trick_outside.proofs.CallLemmas.{told_call}
use Rattle.trick_outside.proofs.memory_shelf.MemoryShelfShelf.get.Goals as goal

pub returns-then-fails-clause-went : goal.returns-then-fails-clause-went
returns-then-fails-clause-went c = told_call _ _ _ _ _ c.if-fails.ensures.cause refl

pub returns-in_default-clause-went : goal.returns-in_default-clause-went
returns-in_default-clause-went c = told_call _ _ _ _ _ c.if-fails.ensures.cause (search (rules, c.in_default.ensures.none), refl)

pub returns-in-Ok-clause-went : goal.returns-in-Ok-clause-went
returns-in-Ok-clause-went c = told_call _ _ _ _ _ c.if-fails.ensures.cause (search (rules, c.in-Some.ensures.found), refl)

pub returns-in-Err-clause-went : goal.returns-in-Err-clause-went
returns-in-Err-clause-went c = told_call _ _ _ _ _ c.if-fails.ensures.cause refl

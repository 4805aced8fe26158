use Rattle.std.proofs.Common.{rules, refl}
use Rattle.trick_wire.proofs.Writing.{took_more, wrote_part, rose_later}
use Rattle.trick_wire.proofs.writer.write_whole.Goals as goal

pub loop-at-preserved : goal.loop-at-preserved
loop-at-preserved g c = (search rules, took_more _ _ _ _ _ _ c.loop-at.invariant.1 c.in-Took.ensures.taken, search rules)

pub returns-in-Failed : goal.returns-in-Failed
returns-in-Failed g c = wrote_part _ _ _ _ _ _ _ c.loop-at.at _ c.loop-at.invariant.1 c.loop-at.invariant.2 c.in-Failed.ensures.taken c.in-Failed.ensures.cause.later (rose_later _ _ _ c.loop-at.invariant.2 (c.in-Failed.ensures.cause.failed refl))

pub returns-in-OutOfMemory : goal.returns-in-OutOfMemory
returns-in-OutOfMemory g c = wrote_part _ _ _ _ _ _ _ c.loop-at.at _ c.loop-at.invariant.1 c.loop-at.invariant.2 c.in-OutOfMemory.ensures.taken c.in-OutOfMemory.ensures.cause.later tt

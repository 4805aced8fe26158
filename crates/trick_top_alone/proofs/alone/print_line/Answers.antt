use Rattle.trick_top_alone.proofs.alone.print_line.Goals as goal
use Rattle.trick_top_alone.specs.Printed.{cut_off, not_printed, printed}
use Rattle.trick_top_alone.specs.Verdict.{verdict_of}

pub returns-in-Done : goal.returns-in-Done
returns-in-Done g c = rw c.status.ensures (printed {verdict = verdict_of c.args.verdict.now} (rw (← c.requires) c.in-Done.ensures))

pub returns-in-Failed : goal.returns-in-Failed
returns-in-Failed g c = not_printed (rw (← c.requires) c.in-Failed.ensures)

pub returns-in-OutOfMemory : goal.returns-in-OutOfMemory
returns-in-OutOfMemory g c = cut_off (rw (← c.requires) c.in-OutOfMemory.ensures)

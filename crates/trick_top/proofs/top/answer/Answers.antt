use Rattle.std.proofs.Common.{refl}
use Rattle.trick_top_alone.specs.Verdict.{OutOfMemory}
use Rattle.trick_top.proofs.top.answer.Goals as goal
use Rattle.trick_top.specs.Answers.{alone, by_row}
use Rattle.trick_top.specs.Rows.{no_memory_to_serve}

pub returns-in-Ok-Some : goal.returns-in-Ok-Some
returns-in-Ok-Some g c = by_row (c.run.ensures c.args.words.now (rw c.in-Ok-Some.field-0-is at c.in-Ok-Some.ensures))

pub returns-in-Ok-None : goal.returns-in-Ok-None
returns-in-Ok-None g c = alone (rw c.in-Ok-None.field-0-is at c.in-Ok-None.ensures) c.tricks_alone.ensures.row refl refl

pub returns-in-Err : goal.returns-in-Err
returns-in-Err g c = by_row (record { verdict = OutOfMemory; serves = no_memory_to_serve refl; prints = c.print_out_of_memory.ensures })

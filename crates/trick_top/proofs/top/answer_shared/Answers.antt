use Rattle.std.proofs.Common.{refl}
use Rattle.trick_top_alone.specs.Verdict.{OutOfMemory}
use Rattle.trick_top.proofs.top.answer_shared.Goals as goal
use Rattle.trick_top.specs.Answers.{by_row}
use Rattle.trick_top.specs.Rows.{no_memory_to_serve}

pub returns : goal.returns
returns g c = by_row (record { verdict = OutOfMemory; serves = no_memory_to_serve refl; prints = c.print_out_of_memory.ensures })

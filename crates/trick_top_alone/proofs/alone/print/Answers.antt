use Rattle.trick_top_alone.proofs.alone.print.Goals as goal
use Rattle.trick_top_alone.specs.Printed.{no_line}

pub returns-in-Err : goal.returns-in-Err
returns-in-Err g c = no_line c.in_default.ensures.made c.print_out_of_memory.ensures

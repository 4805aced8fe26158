use Rattle.std.proofs.Common.{◌≡◌, ◌++◌, drop}
use Rattle.trick_chkpt_printer.proofs.cells.push_flags.Given as goal
use Rattle.trick_model.specs.Checkpoint.{flag_lines}
use Rattle.trick_model.specs.Plan.{numbers_from}

abbrev pub invariant-loop-k : goal.invariant-loop-k
invariant-loop-k l =
    l.text.items ++ flag_lines l.name (numbers_from l.k (drop l.k l.flags)) (drop l.k l.flags)
    ≡ l.fn.text.items ++ flag_lines l.name (numbers_from 0 l.flags) l.flags

use Rattle.std.proofs.Common.{◌≡◌, ◌++◌, drop}
use Rattle.trick_chkpt_printer.proofs.records.push_groups.Given as goal
use Rattle.trick_model.specs.Checkpoint.{group_lines}

abbrev pub invariant-loop-k : goal.invariant-loop-k
invariant-loop-k l =
    l.text.items ++ group_lines l.k (drop l.k l.groups) (drop l.k l.flags) (drop l.k l.rows)
    ≡ l.fn.text.items ++ group_lines 0 l.groups l.flags l.rows

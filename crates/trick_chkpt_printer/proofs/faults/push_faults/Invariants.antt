use Rattle.std.proofs.Common.{◌≡◌, ◌++◌, drop}
use Rattle.trick_chkpt_printer.proofs.faults.push_faults.Given as goal
use Rattle.trick_model.specs.Checkpoint.{fault_lines}
use Rattle.trick_model.specs.PlanOf.{plan_of}

abbrev pub invariant-loop-k : goal.invariant-loop-k
invariant-loop-k l =
    let p = plan_of l.plan in
    l.text.items ++ fault_lines p l.k (drop l.k l.faults)
    ≡ l.fn.text.items ++ fault_lines p 0 l.faults

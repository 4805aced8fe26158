use Rattle.std.proofs.Common.{◌≡◌, ◌++◌, drop}
use Rattle.trick_exec_files.proofs.end.push_faults.Given as goal
use Rattle.trick_model.specs.Checkpoint.{fault_list}
use Rattle.trick_model.specs.PlanOf.{plan_of}

-- the lines of the faults that are left, after those that are there, are the lines of all
abbrev pub invariant-loop-fault : goal.invariant-loop-fault
invariant-loop-fault l =
    l.text.items ++ fault_list (plan_of l.plan) (drop l.fault-index l.faults)
    ≡ l.fn.text.items ++ fault_list (plan_of l.plan) l.faults

use Rattle.std.proofs.Common.{◌≡◌, ◌++◌, drop}
use Rattle.trick_chkpt_printer.proofs.records.push_records.Given as goal
use Rattle.trick_model.specs.Checkpoint.{all_taken_lines}
use Rattle.trick_model.specs.Plan.{threads_beside}
use Rattle.trick_model.specs.PlanOf.{plan_of}

abbrev pub invariant-loop-i : goal.invariant-loop-i
invariant-loop-i l =
    let p = plan_of l.plan in
    l.text.items ++ all_taken_lines p (drop l.i l.threads.items) (drop l.i l.records)
    ≡ l.fn.text.items ++ all_taken_lines p (threads_beside p) l.records

use Rattle.std.proofs.Common.{◌≡◌, take}
use Rattle.std.specs.Prelude.{filter}
use Rattle.trick_chkpt_printer.proofs.plan_jobs.threads_beside.Given as goal
use Rattle.trick_model.specs.Plan.{is_beside}
use Rattle.trick_model.specs.declared.thread.Thread.{Thread}

abbrev pub invariant-loop-thread : goal.invariant-loop-thread
invariant-loop-thread l =
    l.found.items
    ≡ filter (λ (thread : Thread). is_beside thread.process) (take l.thread-index l.thread-items)

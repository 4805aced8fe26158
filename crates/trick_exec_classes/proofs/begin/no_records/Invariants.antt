use Rattle.std.proofs.Common.{◌≡◌, map, take}
use Rattle.std.specs.Prelude.{filter}
use Rattle.trick_model.specs.Plan.{is_beside}
use Rattle.trick_model.specs.State.{nothing_taken}
use Rattle.trick_model.specs.declared.thread.Thread.{Thread}
use Rattle.trick_exec_classes.proofs.begin.no_records.Given as goal

-- nothing for each of the first threads beside the tics
abbrev pub invariant-loop-thread : goal.invariant-loop-thread
invariant-loop-thread l =
    l.records.items ≡ map (λ (thread : Thread). nothing_taken)
    (filter (λ (thread : Thread). is_beside thread.process) (take l.thread-index l.thread-items))

use Rattle.std.proofs.Common.{drop}
use Rattle.std.specs.Prelude.{flat_map}
use Rattle.trick_exec_files.proofs.begin.begin_logs.Given as goal
use Rattle.trick_model.specs.PlanOf.{plan_of}
use Rattle.trick_model.specs.Records.{header, log_name}
use Rattle.trick_model.specs.Turn.{file_writes}
use Rattle.trick_model.specs.declared.group.Group.{Group}
use Rattle.trick_exec_tic.proofs.Doing.{Doing}

-- the logs of the groups from k on are left
abbrev pub invariant-loop-k : goal.invariant-loop-k
invariant-loop-k g l =
    let log = λ (group : Group). file_writes (log_name group) (header (plan_of l.plan) group) in
    Doing g.F.Shelf l.fn.shelf l.shelf (flat_map log l.plan.groups) (flat_map log (drop l.k l.plan.groups))

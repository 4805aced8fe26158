use Rattle.std.proofs.Common.{◌+◌, ◌<◌, List, arith, drop, length, refl}
use Rattle.std.proofs.lemmas.Result.{err_from_is_err_and}
use Rattle.std.specs.Prelude.{flat_map}
use Rattle.trick_base.specs.Files.{Write}
use Rattle.trick_exec_files.proofs.LogLemmas.{one_log}
use Rattle.trick_exec_files.proofs.begin.begin_logs.Goals as goal
use Rattle.trick_model.specs.PlanOf.{plan_of}
use Rattle.trick_model.specs.Records.{header, log_name}
use Rattle.trick_model.specs.Turn.{file_writes}
use Rattle.trick_model.specs.declared.group.Group.{Group}
use Rattle.trick_record.specs.Added.{group_at}
use Rattle.trick_exec_tic.proofs.Doing.{doing_more, doing_starts, doing_stops}

pub loop-k-init : goal.loop-k-init
loop-k-init g c = doing_starts _ _ _ (g.met.F.Shelf.called_none _) refl

pub returns-in_err-begin_log : goal.returns-in_err-begin_log
returns-in_err-begin_log g c =
    let error = err_from_is_err_and c.from_residual.result c.from_residual.ensures.1 in
    let groups = c.args.plan.now.groups in
    let log : Group → List Write = λ group. file_writes (log_name group) (header (plan_of c.args.plan.now) group) in
    let k = c.loop-k.k in
    let less : k < length groups = omega (arith, c.loop-k-test.true, c.len-k-end.ensures) in
    doing_stops _ _ _ (log (group_at groups k)) (flat_map log (drop (k + 1) groups)) g.met.F.Shelf.called_join c.loop-k.invariant
    (one_log log k groups less) c.in_err-begin_log.ensures refl error.1 error.2

pub loop-k-preserved : goal.loop-k-preserved
loop-k-preserved g c =
    let groups = c.args.plan.now.groups in
    let log : Group → List Write = λ group. file_writes (log_name group) (header (plan_of c.args.plan.now) group) in
    let k = c.loop-k.k in
    let less : k < length groups = omega (arith, c.loop-k-test.true, c.len-k-end.ensures) in
    doing_more (log (group_at groups k)) (flat_map log (drop (k + 1) groups)) g.met.F.Shelf.called_join c.loop-k.invariant
    (one_log log k groups less) c.in_ok-begin_log.ensures refl

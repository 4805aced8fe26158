use Rattle.std.proofs.Common.{ap, arith, ◌∙◌}
use Rattle.std.proofs.lemmas.Result.{IfOk-weaker}
use Rattle.trick_chkpt_printer.proofs.Scopes.{in_scope}
use Rattle.trick_chkpt_printer.proofs.thread_scope.scope.Goals as goal
use Rattle.trick_chkpt_printer.specs.Marks.{marked_cells, numbers_of}

pub returns : goal.returns
returns c =
    let walked = in_scope c.args.plan.now c.args.thread c.deref-job-items.result.now c.loop-job.marks.items c.loop-job.job-index
    (ap numbers_of c.deref-job-items.ensures.value
    ∙ c.in_ok-jobs.ensures.jobs) c.loop-job.invariant.size (omega arith) c.loop-job.invariant.marks in
    IfOk-weaker c.cells_of.result _ _ (λ found e. e ∙ ap marked_cells c.deref.ensures.value ∙ walked) c.cells_of.ensures

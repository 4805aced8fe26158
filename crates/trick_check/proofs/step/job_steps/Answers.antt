use Rattle.std.proofs.Common.{ap, arith}
use Rattle.trick_check.proofs.Long.{none_there}
use Rattle.trick_check.proofs.step.job_steps.Goals as goal
use Rattle.trick_lang.specs.declared.method.Method.{Method}

pub returns-else-block-steps : goal.returns-else-block-steps
returns-else-block-steps c =
    let block = ap (λ (q : Method). q.block) c.index-methods-number.is in
    none_there c.args.steps.now c.args.methods.now c.args.job.now.method c.index-methods-number.result (omega arith) c.index-methods-number.is (omega (arith, block))

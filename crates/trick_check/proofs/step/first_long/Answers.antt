use Rattle.std.proofs.Common.{arith}
use Rattle.trick_check_bodies.specs.Classes.{made}
use Rattle.trick_check.proofs.Long.{counted, large_steps, next_short, short_all, small_steps}
use Rattle.trick_check.proofs.step.first_long.Goals as goal
use Rattle.trick_check.specs.Refused.{steps_in}

pub returns-then-count-gt-STEP_LIMIT : goal.returns-then-count-gt-STEP_LIMIT
returns-then-count-gt-STEP_LIMIT c =
    let b = c.args.bodies.now in
    let jobs = c.args.jobs.now in (
      omega arith,
      λ job here.
          let is = counted b jobs c.loop-number.number _ c.deref.result.now c.in_ok-steps.steps.items c.deref-in-loop-number.result.now c.as_slice-methods.result.now c.job_steps-count.result c.steps_law.ensures c.deref.ensures.value c.in_ok-steps.ensures c.deref-in-loop-number.ensures.value c.as_slice-methods.ensures c.job_steps-count.ensures job here in
          record {
            here = here;
            long = large_steps (steps_in (made b) job) (omega (arith, is, c.if-count-gt-STEP_LIMIT.true));
            before = λ k other less at. c.loop-number.invariant k other less at;
          },
    )

pub loop-number-preserved : goal.loop-number-preserved
loop-number-preserved c =
    let b = c.args.bodies.now in
    let jobs = c.args.jobs.now in
    next_short (made b) jobs c.loop-number.number c.loop-number.invariant
    (λ job here.
    let is = counted b jobs c.loop-number.number _ c.deref.result.now c.in_ok-steps.steps.items c.deref-in-loop-number.result.now c.as_slice-methods.result.now c.job_steps-count.result c.steps_law.ensures c.deref.ensures.value c.in_ok-steps.ensures c.deref-in-loop-number.ensures.value c.as_slice-methods.ensures c.job_steps-count.ensures job here in
    small_steps (steps_in (made b) job) (omega (arith, is, c.if-count-gt-STEP_LIMIT.false)))

pub returns : goal.returns
returns c = short_all c.args.bodies.now c.args.jobs.now (λ k job low at. c.loop-number.invariant k job (omega (arith, low, c.loop-number-test.false)) at)

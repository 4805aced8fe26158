use Rattle.trick_check_bodies.specs.Classes.{made}
use Rattle.trick_check.proofs.Long.{long_job_is}
use Rattle.trick_check.proofs.step.check_steps.Goals as goal

pub returns-clause-refused : goal.returns-clause-refused
returns-clause-refused c =
    let found = rw c.in-Some.is at c.in_ok-number.ensures in
    long_job_is (made c.args.bodies.now) c.args.objects.now c.args.jobs.now c.in-Some.number _ c.as_slice.result.now c.in_ok-job.job found c.as_slice.ensures c.in_ok-job.ensures

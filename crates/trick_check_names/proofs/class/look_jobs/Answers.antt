use Rattle.std.proofs.Common.{◌≡◌, ◌+◌, drop, subst}
use Rattle.trick_lang.specs.Syntax.{jobs_of}
use Rattle.trick_check_names.proofs.Definitions.{jobs_next}
use Rattle.trick_check_names.proofs.Noted.{noted_next}
use Rattle.trick_check_names.proofs.class.look_jobs.Goals as goal
use Rattle.trick_check_names.specs.BodyMistakes.{call_mistakes}
use Rattle.trick_check_names.specs.FileMistakes.{job_mistakes}
use Rattle.trick_check_names.specs.Mistakes.{noted}
use Rattle.trick_check_names.specs.Places.{own_member}

pub loop-job-preserved : goal.loop-job-preserved
loop-job-preserved c =
    let w = c.args.scope.now in
    let xs = c.args.jobs.now in
    let i = c.loop-job.job-index in
    let item = c.job-item.result in
    let told = subst (λ q. noted (job_mistakes q w) c.loop-job.found ≡ noted (job_mistakes (jobs_of xs) w) c.args.found.now) (jobs_next xs i item c.loop-job-test.true c.job-item.is) c.loop-job.invariant in
    noted_next (call_mistakes item.line (own_member item.method w)) (job_mistakes (jobs_of (drop (i + 1) xs)) w) c.loop-job.found c.look_call.new.found _ told c.look_call.ensures

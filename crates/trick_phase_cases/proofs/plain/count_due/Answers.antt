use Rattle.trick_queue.specs.Line.{no_id}
use Rattle.trick_phase_cases.proofs.plain.count_due.Goals as goal

pub is_on_scheduled-requires : goal.is_on_scheduled-requires
is_on_scheduled-requires c = c.jobs_of_class-all.ensures.there c.loop-job.job-index no_id c.loop-job-test.true

pub job-requires : goal.job-requires
job-requires c = c.jobs_of_class-all.ensures.there c.loop-job.job-index no_id c.loop-job-test.true

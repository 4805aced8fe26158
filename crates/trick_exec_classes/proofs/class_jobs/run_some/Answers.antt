use Rattle.trick_exec_classes.proofs.class_jobs.run_some.Goals as goal

pub run_jobs-requires-clause-jobs : goal.run_jobs-requires-clause-jobs
run_jobs-requires-clause-jobs g c = c.jobs_of_class-jobs.ensures.there

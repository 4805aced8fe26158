use Rattle.std.proofs.Common.{◌≡◌, List, drop, map}
use Rattle.trick_plan_deeds.proofs.Finding.{later}
use Rattle.trick_lang.specs.Names.{job_name}
use Rattle.trick_lang.specs.declared.job.Job.{Job}
use Rattle.trick_model.specs.Names.{find_job}
use Rattle.trick_plan_deeds.proofs.find.find_job.Given as goal

abbrev pub invariant-loop-place : goal.invariant-loop-place
invariant-loop-place l =
    let p = l.program in
    let jobs_named = λ (jobs : List Job). find_job l.name l.instance (map (job_name p.objects p.methods) jobs) jobs in
    later l.place (jobs_named (drop l.place p.jobs)) ≡ jobs_named p.jobs

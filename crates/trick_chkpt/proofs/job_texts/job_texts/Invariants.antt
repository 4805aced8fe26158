use Rattle.std.proofs.Common.{◌≡◌, map, take}
use Rattle.trick_chkpt.proofs.job_texts.job_texts.Given as goal
use Rattle.trick_chkpt_lines.specs.Faults.{job_text}
use Rattle.trick_lang.specs.Names.{job_name}
use Rattle.trick_lang.specs.declared.job.Job.{Job}

abbrev pub invariant-loop-place : goal.invariant-loop-place
invariant-loop-place l =
    let p = l.plan.program in
    l.texts.items
    ≡ map (λ (job : Job). job_text (job_name p.objects p.methods job) job.instance) (take l.place p.jobs)

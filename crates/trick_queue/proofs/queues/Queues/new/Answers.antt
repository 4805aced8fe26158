use Rattle.std.proofs.Common.{rules, ◌≤◌, List, ap, arith, length, subst, sym}
use Rattle.trick_lang.specs.declared.job.JobId.{JobId}
use Rattle.trick_model.specs.PlanOf.{plan_of}
use Rattle.trick_queue.proofs.Merged.{nothing_merged}
use Rattle.trick_queue.proofs.Passed.{in_range}
use Rattle.trick_queue.proofs.Queued.{all_scheduled, few_jobs}
use Rattle.trick_queue.proofs.queues.Queues.new.Goals as goal
use Rattle.trick_queue.specs.Groups.{AreGroups, HaveJobs, times_by}
use Rattle.trick_queue.specs.Passed.{AreInRange}
use Rattle.trick_queue.specs.Line.{AreScheduled}
use Rattle.trick_queue.specs.declared.group.Group.{Group}

pub groups_of-requires-clause-scheduled : goal.groups_of-requires-clause-scheduled
groups_of-requires-clause-scheduled c =
    subst (λ (jobs : List JobId). AreScheduled c.args.plan.now.program.jobs jobs) (sym c.deref.ensures.value)
    (all_scheduled (plan_of c.args.plan.now) c.in_ok-jobs.jobs.items c.in_ok-jobs.ensures)

pub groups_of-requires-clause-few : goal.groups_of-requires-clause-few
groups_of-requires-clause-few c =
    let few : length c.in_ok-jobs.jobs.items ≤ length c.args.plan.now.program.jobs = few_jobs (plan_of c.args.plan.now) c.in_ok-jobs.jobs.items c.in_ok-jobs.ensures in
    let most : length c.args.plan.now.program.jobs ≤ 512 = c.args.plan.now.program.job_limit in
    omega (arith, ap length c.deref.ensures.value, few, most)

pub calendar_of-requires-clause-few : goal.calendar_of-requires-clause-few
calendar_of-requires-clause-few c =
    let few : length c.in_ok-jobs.jobs.items ≤ length c.args.plan.now.program.jobs = few_jobs (plan_of c.args.plan.now) c.in_ok-jobs.jobs.items c.in_ok-jobs.ensures in
    let most : length c.args.plan.now.program.jobs ≤ 512 = c.args.plan.now.program.job_limit in
    let groups : length c.in_ok-groups.groups.items ≤ length c.deref.result.now = c.in_ok-groups.ensures.few in
    omega (arith, ap length c.deref-2.ensures.value, ap length c.deref.ensures.value, groups, few, most)

pub calendar_of-requires-clause-range : goal.calendar_of-requires-clause-range
calendar_of-requires-clause-range c =
    subst (λ (l : List Group). AreInRange (times_by l)) (sym c.deref-2.ensures.value)
    (in_range c.args.plan.now.program.jobs c.deref.result.now (length c.deref.result.now) c.in_ok-groups.groups.items c.in_ok-groups.ensures.groups.each)

pub returns-clause-own : goal.returns-clause-own
returns-clause-own c =
    let pj = c.args.plan.now.program.jobs in
    let value = c.deref.ensures.value in
    record {
      jobs = c.in_ok-jobs.ensures;
      groups = subst (λ (l : List JobId). AreGroups pj l (length l) c.in_ok-groups.groups.items) value c.in_ok-groups.ensures.groups;
      have = subst (λ (l : List JobId). HaveJobs pj l (length l) c.in_ok-groups.groups.items) value c.in_ok-groups.ensures.jobs;
      next = search rules;
      merged = nothing_merged pj c.in_ok-jobs.jobs.items c.in_ok-groups.groups.items c.in_ok-merge.merge.groups.items c.in_ok-merge.merge.jobs.items c.in_ok-merge.ensures.groups c.in_ok-merge.ensures.jobs;
      asked = tt;
    }

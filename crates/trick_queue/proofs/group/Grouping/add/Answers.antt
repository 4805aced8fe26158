use Rattle.std.proofs.Common.{◌≡◌, ◌∙◌, ◌+◌, ap, arith, set, suc, sym, subst}
use Rattle.trick_queue.proofs.Grouping.{has_times, job_more, jobs_have, times_kept}
use Rattle.trick_queue.proofs.group.Grouping.add.Goals as goal
use Rattle.trick_queue.specs.Groups.{AreGroups, keys_of}

pub returns-clause-known : goal.returns-clause-known
returns-clause-known c =
    let groups = c.group_of.new.self.groups.items in
    let at = c.in_ok-at.at in
    let old = c.index_mut.result.now in
    c.in_ok-at.ensures.known
    ∙ ap keys_of (sym (times_kept groups at old c.add.new.self c.in_ok-at.ensures.within (sym c.index_mut.ensures.value) c.add.ensures.times))

pub returns-clause-groups : goal.returns-clause-groups
returns-clause-groups c = λ jobs ids_of are job_is times.
    let groups = c.group_of.new.self.groups.items in
    let at = c.in_ok-at.at in
    let old = c.index_mut.result.now in
    let next : suc c.args.place ≡ c.args.place + 1 = omega arith in
    subst (λ n. AreGroups jobs ids_of n (set groups at c.add.new.self)) next
    (job_more jobs ids_of c.args.place at groups old c.add.new.self c.args.job (c.in_ok-at.ensures.groups jobs ids_of c.args.place are) c.in_ok-at.ensures.within
    (sym c.index_mut.ensures.value) (sym times ∙ sym (has_times groups at old c.args.times c.in_ok-at.ensures.within (sym c.index_mut.ensures.value) c.in_ok-at.ensures.times)) job_is
    c.add.ensures.times c.in_ok-add.ensures.places c.in_ok-add.ensures.jobs)

pub returns-clause-jobs : goal.returns-clause-jobs
returns-clause-jobs c = λ jobs ids_of have times.
    let groups = c.group_of.new.self.groups.items in
    let at = c.in_ok-at.at in
    jobs_have jobs ids_of c.args.place at groups (set groups at c.add.new.self) c.args.times
    (times_kept groups at c.index_mut.result.now c.add.new.self c.in_ok-at.ensures.within (sym c.index_mut.ensures.value) c.add.ensures.times)
    (c.in_ok-at.ensures.jobs jobs ids_of c.args.place have) c.in_ok-at.ensures.times times

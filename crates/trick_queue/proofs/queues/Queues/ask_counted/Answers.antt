use Rattle.std.proofs.Common.{rules, ◌∙◌, ◌+◌, ◌<◌, ◌≤◌, List, ℕ, arith, length, subst, sym, vec_capacity}
use Rattle.trick_lang.specs.declared.job.JobId.{JobId}
use Rattle.trick_model.specs.PlanOf.{plan_of}
use Rattle.trick_queue.proofs.Asking.{asked_is, due_there, few_places, places_within}
use Rattle.trick_queue.proofs.Late.{few_late}
use Rattle.trick_queue.proofs.Passed.{in_range, passing_starts}
use Rattle.trick_queue.proofs.queues.Queues.ask_counted.Goals as goal
use Rattle.trick_queue.specs.Groups.{AreGroups, times_by}
use Rattle.trick_queue.specs.Late.{late_jobs}
use Rattle.trick_queue.specs.Merged.{AreThere, HasRoom, IsMergeOf, gathered}
use Rattle.trick_queue.specs.Passed.{AreInRange, IsPassed, IsPassing, late}
use Rattle.trick_queue.specs.Queue.{IsFor, QueuesView}
use Rattle.trick_queue.specs.Tree.{never}
use Rattle.trick_queue.specs.declared.group.Group.{Group}

pub pass_tic-taken-requires-clause-range : goal.pass_tic-taken-requires-clause-range
pass_tic-taken-requires-clause-range g c =
    let own = subst (IsFor c.args.plan.now) (sym c.self.view_is) c.requires.own in
    subst (λ (l : List Group). AreInRange (times_by l)) (sym c.deref.ensures.value)
    (in_range c.args.plan.now.program.jobs c.self.inside.jobs.items (length c.self.inside.jobs.items) c.self.inside.groups.items own.groups.each)

pub pass_tic-taken-requires-clause-passing : goal.pass_tic-taken-requires-clause-passing
pass_tic-taken-requires-clause-passing g c =
    let own = subst (IsFor c.args.plan.now) (sym c.self.view_is) c.requires.own in
    let low : c.self.inside.from ≤ c.args.tic = search rules in
    let small : c.args.tic < never = omega (arith, c.requires.range) in
    subst (λ (l : List Group). IsPassing (times_by l) c.self.inside.calendar c.args.tic c.clear.new.self.items) (sym c.deref.ensures.value)
    (subst (λ (l : List ℕ). IsPassing (times_by c.self.inside.groups.items) c.self.inside.calendar c.args.tic l) (sym c.clear.ensures.items)
    (passing_starts (times_by c.self.inside.groups.items) c.self.inside.calendar c.self.inside.from c.args.tic (λ d t. (c.due_test_is_exact.ensures d t).0) own.next low small))

pub merge_due-requires-clause-there : goal.merge_due-requires-clause-there
merge_due-requires-clause-there g c =
    let passed : IsPassed (times_by c.self.inside.groups.items) c.pass_tic-taken.new.calendar c.args.tic c.pass_tic-taken.new.due.items =
    subst (λ (l : List Group). IsPassed (times_by l) c.pass_tic-taken.new.calendar c.args.tic c.pass_tic-taken.new.due.items) c.deref.ensures.value c.pass_tic-taken.ensures.passed in
    subst (λ (l : List Group). AreThere c.deref-4.result.now (length l)) (sym c.deref-3.ensures.value)
    (subst (λ (l : List ℕ). AreThere l (length c.self.inside.groups.items)) (sym c.deref-4.ensures.value)
    (due_there c.self.inside.groups.items c.pass_tic-taken.new.calendar c.args.tic c.pass_tic-taken.new.due.items passed))

pub merge_due-requires-clause-few : goal.merge_due-requires-clause-few
merge_due-requires-clause-few g c =
    let own = subst (IsFor c.args.plan.now) (sym c.self.view_is) c.requires.own in
    let passed : IsPassed (times_by c.self.inside.groups.items) c.pass_tic-taken.new.calendar c.args.tic c.pass_tic-taken.new.due.items =
    subst (λ (l : List Group). IsPassed (times_by l) c.pass_tic-taken.new.calendar c.args.tic c.pass_tic-taken.new.due.items) c.deref.ensures.value c.pass_tic-taken.ensures.passed in
    let few = few_places c.args.plan.now _ c.pass_tic-taken.new.calendar c.args.tic c.pass_tic-taken.new.due.items own passed in
    subst (λ (l : List Group). length (gathered l c.deref-4.result.now) ≤ length c.deref-2.result.now) (sym c.deref-3.ensures.value)
    (subst (λ (l : List ℕ). length (gathered c.self.inside.groups.items l) ≤ length c.deref-2.result.now) (sym c.deref-4.ensures.value)
    (subst (λ (l : List JobId). length (gathered c.self.inside.groups.items c.pass_tic-taken.new.due.items) ≤ length l) (sym c.deref-2.ensures.value) few))

pub merge_due-requires-clause-places : goal.merge_due-requires-clause-places
merge_due-requires-clause-places g c =
    let own = subst (IsFor c.args.plan.now) (sym c.self.view_is) c.requires.own in
    let passed : IsPassed (times_by c.self.inside.groups.items) c.pass_tic-taken.new.calendar c.args.tic c.pass_tic-taken.new.due.items =
    subst (λ (l : List Group). IsPassed (times_by l) c.pass_tic-taken.new.calendar c.args.tic c.pass_tic-taken.new.due.items) c.deref.ensures.value c.pass_tic-taken.ensures.passed in
    let within = places_within c.args.plan.now _ c.pass_tic-taken.new.calendar c.args.tic c.pass_tic-taken.new.due.items own passed in
    subst (λ (l : List Group). AreThere (gathered l c.deref-4.result.now) (length c.deref-2.result.now)) (sym c.deref-3.ensures.value)
    (subst (λ (l : List ℕ). AreThere (gathered c.self.inside.groups.items l) (length c.deref-2.result.now)) (sym c.deref-4.ensures.value)
    (subst (λ (l : List JobId). AreThere (gathered c.self.inside.groups.items c.pass_tic-taken.new.due.items) (length l)) (sym c.deref-2.ensures.value) within))

pub invariant_of-self : goal.invariant_of-self
invariant_of-self g c =
    let passed : IsPassed (times_by c.self.inside.groups.items) c.pass_tic-taken.new.calendar c.args.tic c.pass_tic-taken.new.due.items =
    subst (λ (l : List Group). IsPassed (times_by l) c.pass_tic-taken.new.calendar c.args.tic c.pass_tic-taken.new.due.items) c.deref.ensures.value c.pass_tic-taken.ensures.passed in
    let room : length c.self.inside.groups.items ≤ vec_capacity c.pass_tic-taken.new.due = search rules in
    let merge_room : HasRoom c.merge_due.new.merge (length c.self.inside.groups.items) (length c.self.inside.jobs.items) =
    subst (λ (l : List Group). HasRoom c.merge_due.new.merge (length l) (length c.self.inside.jobs.items)) c.deref-3.ensures.value
    (subst (λ (l : List JobId). HasRoom c.merge_due.new.merge (length c.deref-3.result.now) (length l)) c.deref-2.ensures.value c.merge_due.ensures.room) in
    (room, merge_room, due_there c.self.inside.groups.items c.pass_tic-taken.new.calendar c.args.tic c.pass_tic-taken.new.due.items passed)

pub returns-clause-own : goal.returns-clause-own
returns-clause-own g c =
    let own = subst (IsFor c.args.plan.now) (sym c.self.view_is) c.requires.own in
    let pj = c.args.plan.now.program.jobs in
    let passed : IsPassed (times_by c.self.inside.groups.items) c.pass_tic-taken.new.calendar c.args.tic c.pass_tic-taken.new.due.items =
    subst (λ (l : List Group). IsPassed (times_by l) c.pass_tic-taken.new.calendar c.args.tic c.pass_tic-taken.new.due.items) c.deref.ensures.value c.pass_tic-taken.ensures.passed in
    let old = c.self.inside.merge in
    let new = c.merge_due.new.merge in
    let groups = c.self.inside.groups.items in
    let by_jobs : AreGroups pj c.deref-2.result.now (length c.deref-2.result.now) groups → IsMergeOf pj c.deref-2.result.now groups old → IsMergeOf pj c.deref-2.result.now groups new =
    subst (λ (l : List Group). AreGroups pj c.deref-2.result.now (length c.deref-2.result.now) l → IsMergeOf pj c.deref-2.result.now l old → IsMergeOf pj c.deref-2.result.now l new)
    c.deref-3.ensures.value (c.merge_due.ensures.merged pj) in
    let merged : IsMergeOf pj c.self.inside.jobs.items groups new =
    subst (λ (l : List JobId). AreGroups pj l (length l) groups → IsMergeOf pj l groups old → IsMergeOf pj l groups new) c.deref-2.ensures.value by_jobs own.groups own.merged in
    asked_is c.args.plan.now _ c.pass_tic-taken.new.calendar c.args.tic c.pass_tic-taken.new.due.items c.merge_due.new.merge own passed
    (λ two. c.merge_due.ensures.several (subst (λ (l : List ℕ). 2 ≤ length l) (sym c.deref-4.ensures.value) two) ∙ c.deref-4.ensures.value) merged

pub returns-clause-jobs : goal.returns-clause-jobs
returns-clause-jobs g c =
    let plan = c.args.plan.now in
    let own = subst (IsFor plan) (sym c.self.view_is) c.requires.own in
    let small : c.args.tic < never = omega (arith, c.requires.range) in
    let few : late c.args.tic c.self.inside.calendar ≤ late_jobs (plan_of plan) c.self.inside.from c.args.tic =
    few_late plan _ c.args.tic (λ d t. (c.due_test_is_exact.ensures d t).1) own small in
    subst (λ (q : QueuesView). c.pass_tic-taken.result ≤ late_jobs (plan_of plan) q.from c.args.tic + 1) c.self.view_is
    (omega (arith, few, c.pass_tic-taken.ensures.steps, c.pass_tic-taken.ensures.counted))

pub returns-clause-steps : goal.returns-clause-steps
returns-clause-steps g c = search rules

pub returns-clause-counted : goal.returns-clause-counted
returns-clause-counted g c = search rules

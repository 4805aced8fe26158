use Rattle.std.proofs.Common.{◌≡◌, ◌∙◌, ◌≤◌, ◌<◌, ◌+◌, ◌++◌, [], List, ℕ, ap, length, subst, sym}
use Rattle.trick_lang.specs.declared.job.JobId.{JobId}
use Rattle.trick_model.specs.FaultList.{with_faults}
use Rattle.trick_model.specs.Plan.{is_on}
use Rattle.trick_model.specs.PlanOf.{plan_of}
use Rattle.trick_model.specs.Running.{after_jobs}
use Rattle.trick_model.specs.Valid.{ids}
use Rattle.trick_model.specs.declared.flags.Flags.{Flags}
use Rattle.trick_post_trays.proofs.Jobs.{due_are_there}
use Rattle.trick_post_trays.proofs.Runs.{rest_faults, rest_memory}
use Rattle.trick_post_trays.proofs.Tics.{work_next, work_over}
use Rattle.trick_post_trays.specs.Calendars.{due_of, line_work}
use Rattle.trick_post_trays.specs.Trays.{AreThere}
use Rattle.trick_post_work.specs.declared.posts.Job1.TheVariants as work
use Rattle.trick_post_trays.proofs.worker.Worker.run_tics.Goals as goal

pub run_due-requires-clause-jobs : goal.run_due-requires-clause-jobs
run_due-requires-clause-jobs c =
    let plan = c.args.plan.now in
    subst (λ (due : List JobId). AreThere due (length plan.program.jobs)) (sym c.deref.ensures.value)
    (due_are_there plan c.loop-next.calendar.jobs c.pass.new.self.due.items c.loop-next.next c.loop-next.invariant.calendar.scheduled c.pass.ensures.due)

pub loop-next-preserved : goal.loop-next-preserved
loop-next-preserved c =
    let plan = c.args.plan.now in
    let p = plan_of plan in
    let pj = plan.program.jobs in
    let line = ids c.args.calendar.now.jobs in
    let on = c.args.self.now.on in
    let inv = c.loop-next.invariant in
    let old = c.loop-next.calendar in
    let next = c.loop-next.next in
    let last = c.args.last in
    let ran = c.run_due.ensures in
    let jobs_same : ids old.jobs ≡ line = ap ids inv.jobs in
    let high : next ≤ last = c.loop-next-test.true in
    let whole : line_work pj line (work.Frame old.from last) ≡ due_of pj line next ++ line_work pj line (work.Frame (next + 1) last) =
    subst (λ (l : List ℕ). line_work pj l (work.Frame old.from last) ≡ due_of pj l next ++ line_work pj l (work.Frame (next + 1) last)) jobs_same
    (work_next pj old.jobs old.tics old.from next last (λ d t. (c.due_test_is_exact.ensures d t).0) inv.calendar.as_many inv.set inv.least high c.requires.last) in
    let due_is : ids c.deref.result.now ≡ due_of pj line next = ap ids c.deref.ensures.value ∙ c.pass.ensures.due ∙ ap (λ (l : List ℕ). due_of pj l next) jobs_same in
    let flags_are : c.loop-next.self.on ≡ on = inv.flags in
    let numbers : c.run_due.new.self.scratch.numbers ≡ (after_jobs p (is_on on) c.args.tic (due_of pj line next) c.loop-next.self.scratch.numbers).memory =
    ran.numbers ∙ ap (λ (f : Flags). (after_jobs p (is_on f) c.args.tic (ids c.deref.result.now) c.loop-next.self.scratch.numbers).memory) flags_are
    ∙ ap (λ (ks : List ℕ). (after_jobs p (is_on on) c.args.tic ks c.loop-next.self.scratch.numbers).memory) due_is in
    let faults : c.run_due.new.faults ≡ with_faults (after_jobs p (is_on on) c.args.tic (due_of pj line next) c.loop-next.self.scratch.numbers).faults c.loop-next.faults =
    ran.faults ∙ ap (λ (f : Flags). with_faults (after_jobs p (is_on f) c.args.tic (ids c.deref.result.now) c.loop-next.self.scratch.numbers).faults c.loop-next.faults) flags_are
    ∙ ap (λ (ks : List ℕ). with_faults (after_jobs p (is_on on) c.args.tic ks c.loop-next.self.scratch.numbers).faults c.loop-next.faults) due_is in
    let rest = λ (from : ℕ). line_work pj line (work.Frame from last) in
    let from_is = c.pass.ensures.from in
    record {
      calendar = c.pass.ensures.own;
      set = c.pass.ensures.set;
      jobs = c.pass.ensures.jobs ∙ inv.jobs;
      least = c.next-next-in-loop-next.ensures;
      numbers = ap (λ (from : ℕ). (after_jobs p (is_on on) c.args.tic (rest from) c.run_due.new.self.scratch.numbers).memory) from_is
          ∙ rest_memory p (is_on on) c.args.tic (rest old.from) (due_of pj line next) (rest (next + 1)) c.loop-next.self.scratch.numbers c.run_due.new.self.scratch.numbers whole numbers
          ∙ inv.numbers;
      faults = ap (λ (from : ℕ). with_faults (after_jobs p (is_on on) c.args.tic (rest from) c.run_due.new.self.scratch.numbers).faults c.run_due.new.faults) from_is
          ∙ rest_faults p (is_on on) c.args.tic (rest old.from) (due_of pj line next) (rest (next + 1)) c.loop-next.self.scratch.numbers c.run_due.new.self.scratch.numbers
          c.loop-next.faults c.run_due.new.faults whole numbers faults
          ∙ inv.faults;
      memory = ran.memory;
      bench = ran.bench ∙ inv.bench;
      flags = ran.flags ∙ inv.flags;
      writes_are = ran.writes_are ∙ inv.writes_are;
    }

pub returns-clause-ran : goal.returns-clause-ran
returns-clause-ran c =
    let plan = c.args.plan.now in
    let p = plan_of plan in
    let pj = plan.program.jobs in
    let line = ids c.args.calendar.now.jobs in
    let on = c.args.self.now.on in
    let inv = c.loop-next.invariant in
    let old = c.loop-next.calendar in
    let past : c.args.last < c.loop-next.next = c.loop-next-test.false in
    let over : line_work pj line (work.Frame old.from c.args.last) ≡ [] =
    subst (λ (l : List ℕ). line_work pj l (work.Frame old.from c.args.last) ≡ []) (ap ids inv.jobs)
    (work_over pj old.jobs old.tics old.from c.loop-next.next c.args.last (λ d t. (c.due_test_is_exact.ensures d t).0) inv.calendar.as_many inv.set inv.least past) in
    record {
      numbers = sym (ap (λ (ks : List ℕ). (after_jobs p (is_on on) c.args.tic ks c.loop-next.self.scratch.numbers).memory) over) ∙ inv.numbers;
      faults = sym (ap (λ (ks : List ℕ). with_faults (after_jobs p (is_on on) c.args.tic ks c.loop-next.self.scratch.numbers).faults c.loop-next.faults) over) ∙ inv.faults;
      memory = inv.memory;
      bench = inv.bench;
      flags = inv.flags;
      writes_are = inv.writes_are;
    }

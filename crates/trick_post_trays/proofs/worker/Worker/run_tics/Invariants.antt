use Rattle.std.proofs.Common.{◌≡◌, ◌+◌, ◌-◌}
use Rattle.trick_phase_jobs.specs.Belongs.{IsMemoryOf}
use Rattle.trick_model.specs.FaultList.{with_faults}
use Rattle.trick_model.specs.Plan.{is_on}
use Rattle.trick_model.specs.PlanOf.{plan_of}
use Rattle.trick_model.specs.Running.{after_jobs}
use Rattle.trick_model.specs.Valid.{ids}
use Rattle.trick_post_trays.specs.Calendars.{IsCalendar, IsSet, line_work}
use Rattle.trick_post_work.specs.declared.posts.Job1.TheVariants as work
use Rattle.trick_queue.specs.Tree.{IsLeast}
use Rattle.trick_post_trays.proofs.worker.Worker.run_tics.Given as goal

-- what is left of the tics makes of what is there what all tics make of the beginning
abbrev pub invariant-loop-next : goal.invariant-loop-next
invariant-loop-next l = record {
  calendar : IsCalendar l.plan l.calendar;
  set : IsSet l.plan l.calendar;
  jobs : l.calendar.jobs ≡ l.fn.calendar.jobs;
  least : IsLeast l.calendar.tics l.next;
  numbers : (after_jobs (plan_of l.plan) (is_on l.fn.self.on) l.tic
      (line_work l.plan.program.jobs (ids l.fn.calendar.jobs) (work.Frame l.calendar.from l.last)) l.self.scratch.numbers).memory
      ≡ (after_jobs (plan_of l.plan) (is_on l.fn.self.on) l.tic
      (line_work l.plan.program.jobs (ids l.fn.calendar.jobs) (work.Frame l.fn.calendar.from l.last)) l.fn.self.scratch.numbers).memory;
  faults : with_faults (after_jobs (plan_of l.plan) (is_on l.fn.self.on) l.tic
      (line_work l.plan.program.jobs (ids l.fn.calendar.jobs) (work.Frame l.calendar.from l.last)) l.self.scratch.numbers).faults l.faults
      ≡ with_faults (after_jobs (plan_of l.plan) (is_on l.fn.self.on) l.tic
      (line_work l.plan.program.jobs (ids l.fn.calendar.jobs) (work.Frame l.fn.calendar.from l.last)) l.fn.self.scratch.numbers).faults l.fn.faults;
  memory : IsMemoryOf l.plan.program l.self.scratch.numbers l.self.scratch.scalars;
  bench : l.self.bench.parts ≡ l.fn.self.bench.parts;
  flags : l.self.on ≡ l.fn.self.on;
  writes_are : l.self.writes ≡ l.fn.self.writes;
}

abbrev pub decreases-loop-next : goal.decreases-loop-next
decreases-loop-next l = l.last + 1 - l.next

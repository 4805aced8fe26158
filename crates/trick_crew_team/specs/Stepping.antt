-- What one step comes to: p is the pass of the hand before it, and q after it.
use Rattle.std.specs.Prelude.{ℕ, Some}
use Rattle.trick_crew_team.specs.declared.step.Stepped.{Stepped}
use Rattle.trick_crew_team.specs.declared.step.Stepped.TheVariants.{Ends, Idles, Waits, Worked}
use Rattle.trick_eval.specs.Bench.{BenchView, the_job}
use Rattle.trick_hall_kept.specs.Answers.{CommitsAt, TakesAt}
use Rattle.trick_hall_kept.specs.declared.answers.HandCommit.{HandCommit}
use Rattle.trick_hall_kept.specs.declared.answers.HandTook.{HandTook}
use Rattle.trick_hall_kept.specs.declared.answers.HandTook.TheVariants as taken
use Rattle.trick_hall_kept.specs.declared.entry.Entry.{Entry}
use Rattle.trick_lang.specs.Effect.{effect}
use Rattle.trick_lang.specs.declared.program.Program.{Program}
use Rattle.trick_model.specs.declared.plan.Plan.{Plan}
use Rattle.trick_turn.specs.declared.pass.Pass.{Pass}

-- a take answered that the thread's next due job waits for another
abbrev pub IsWaiting : HandTook → Type 0
IsWaiting taken.Took = ⊥
IsWaiting (taken.NotYet job waits_for) = Unit {0}
IsWaiting taken.ThreadDone = ⊥
IsWaiting taken.Shut = ⊥
IsWaiting (taken.Closed phase) = ⊥
IsWaiting (taken.Busy found) = ⊥

-- a take answered that the thread's due jobs are all committed, or that no tic is open
abbrev pub IsIdle : HandTook → Type 0
IsIdle taken.Took = ⊥
IsIdle (taken.NotYet job waits_for) = ⊥
IsIdle taken.ThreadDone = Unit {0}
IsIdle taken.Shut = ⊥
IsIdle (taken.Closed phase) = Unit {0}
IsIdle (taken.Busy found) = ⊥

-- the bench with what its job makes of its inputs
abbrev pub evaluated : Program → BenchView → BenchView
evaluated p bench = record bench { outcome = Some (effect p (the_job bench.job) bench.inputs) }

module _ {B : Type 0} where
  -- The thread's next due job was taken, evaluated on what was taken, and then committed, each once.
  pub record Works (plan : Plan) (thread : ℕ) (p q : Pass B Entry) (was left : BenchView) : Type 0 where
    pub between : Pass B Entry
    pub filled : BenchView
    pub takes : TakesAt plan thread p between was filled taken.Took
    pub answer : HandCommit
    pub commits : CommitsAt plan between q (evaluated plan.program filled) left answer

  -- There was nothing to take, for this reason.
  pub record FindsNothing (IsReason : HandTook → Type 0) (plan : Plan) (thread : ℕ) (p q : Pass B Entry)
      (was left : BenchView) : Type 0 where
    pub answer : HandTook
    pub reason : IsReason answer
    pub takes : TakesAt plan thread p q was left answer

  -- What a step comes to.
  abbrev pub StepsAt : Plan → ℕ → Pass B Entry → Pass B Entry → BenchView → BenchView → Stepped → Type 0
  StepsAt plan thread p q was left Worked = Works plan thread p q was left
  StepsAt plan thread p q was left Waits = FindsNothing IsWaiting plan thread p q was left
  StepsAt plan thread p q was left Idles = FindsNothing IsIdle plan thread p q was left
  StepsAt plan thread p q was left Ends = TakesAt plan thread p q was left taken.Shut

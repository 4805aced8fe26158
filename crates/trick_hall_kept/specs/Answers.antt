-- What takes, commits and closes answer, by the history that they find.
use Rattle.std.specs.Option.{option_map}
use Rattle.std.specs.Prelude.{◌≡◌, ℕ, ◌<◌, ℤ, Bool, true, false, List, Option, Some, None, MatchOption}
use Rattle.trick_phase_board.specs.Answers.{Commits, IsFilledBy, IsReadyOn, Takes, open_count}
use Rattle.trick_phase_board.specs.Board.{Opened, tic_at}
use Rattle.trick_phase_board.specs.declared.answers.Closed.{Closed}
use Rattle.trick_phase_board.specs.declared.answers.Closed.TheVariants as closed
use Rattle.trick_phase_board.specs.declared.answers.Commit.{Commit as BoardCommit}
use Rattle.trick_phase_board.specs.declared.answers.Commit.TheVariants as commit
use Rattle.trick_phase_board.specs.declared.answers.Took.TheVariants as took
use Rattle.trick_eval.specs.Bench.{BenchView, the_job}
use Rattle.trick_hall_kept.specs.Histories.{IsLegal, Opening, after, fresh, has_shut}
use Rattle.trick_hall_kept.specs.Telling.{HasAdded, HasTold}
use Rattle.trick_hall_kept.specs.declared.answers.HandCommit.{HandCommit}
use Rattle.trick_hall_kept.specs.declared.answers.HandCommit.TheVariants as committed
use Rattle.trick_hall_kept.specs.declared.answers.HandTook.{HandTook}
use Rattle.trick_hall_kept.specs.declared.answers.HandTook.TheVariants as taken
use Rattle.trick_hall_kept.specs.declared.answers.TryClose.{TryClose}
use Rattle.trick_hall_kept.specs.declared.answers.TryClose.TheVariants as tried
use Rattle.trick_hall_kept.specs.declared.answers.TryOpen.{TryOpen}
use Rattle.trick_hall_kept.specs.declared.answers.TryOpen.TheVariants as opened
use Rattle.trick_hall_kept.specs.declared.entry.Entry.{Entry}
use Rattle.trick_hall_kept.specs.declared.entry.Entry.TheVariants.{Close, Commit, Take}
use Rattle.trick_lang.specs.Effect.{reads}
use Rattle.trick_lang.specs.declared.job.JobId.{JobId}
use Rattle.trick_model.specs.FaultList.{FaultList, with_faults}
use Rattle.trick_model.specs.PlanOf.{plan_of}
use Rattle.trick_model.specs.Running.{serial}
use Rattle.trick_model.specs.declared.plan.Plan.{Plan as PlanValue}
use Rattle.trick_phase.specs.Steps.{IsPlayed}
use Rattle.trick_phase_schedules.specs.Tics.{due_jobs}
use Rattle.trick_turn.specs.Passes.{Misses, number_of, seen}
use Rattle.trick_turn.specs.declared.pass.Pass.{Pass}

-- ---- the state of a history

-- the history leaves a tic open, and so answers an open board that has come as far
abbrev pub IsOpenIn : PlanValue → List Entry → (Opened → Type 0) → Type 0
IsOpenIn plan log P = MatchOption (after log).course ⊥ (λ c. (o : Opened)
    × IsPlayed plan c.opening.on c.opening.tic c.opening.memory c.steps o × P o)

-- it does, and holds no Shut
abbrev pub GoesOnIn : PlanValue → List Entry → (Opened → Type 0) → Type 0
GoesOnIn plan log P = (has_shut log ≡ false) × IsOpenIn plan log P

-- The history holds no Shut and leaves no tic open, and this is its phase.
pub record IsClosedIn (log : List Entry) (phase : ℕ) : Type 0 where
  pub not_shut : has_shut log ≡ false
  pub none : (after log).course ≡ None
  pub phase_is : phase ≡ (after log).phase

-- ---- a take

-- the job that was taken, if one was
abbrev pub job_taken : Option JobId → HandTook → Option JobId
job_taken in_bench taken.Took = in_bench
job_taken in_bench (taken.NotYet job waits_for) = None
job_taken in_bench taken.ThreadDone = None
job_taken in_bench taken.Shut = None
job_taken in_bench (taken.Closed phase) = None
job_taken in_bench (taken.Busy found) = None

-- only a take of a job adds an entry
abbrev pub told_by_take : ℕ → Option JobId → HandTook → Option Entry
told_by_take seat in_bench answer = option_map (Take seat) (job_taken in_bench answer)

-- What a take answers, by the history that it finds and the bench before and after it.
abbrev pub TakesIn : PlanValue → ℕ → List Entry → BenchView → BenchView → HandTook → Type 0
TakesIn plan thread log was bench taken.Took = GoesOnIn plan log (λ o.
    IsReadyOn (tic_at plan o) o.progress.stages thread (the_job bench.job).0
    × IsFilledBy (after log).phase (reads plan.program (the_job bench.job)) o.progress.memory was bench
    (the_job bench.job))
TakesIn plan thread log was bench (taken.NotYet job waits_for) = (bench ≡ was) × GoesOnIn plan log (λ o.
    Takes (tic_at plan o) o.progress.stages thread (the_job bench.job).0 (took.NotYet job waits_for))
TakesIn plan thread log was bench taken.ThreadDone = (bench ≡ was) × GoesOnIn plan log (λ o.
    Takes (tic_at plan o) o.progress.stages thread (the_job bench.job).0 took.ThreadDone)
TakesIn plan thread log was bench taken.Shut = (bench ≡ was) × (has_shut log ≡ true)
TakesIn plan thread log was bench (taken.Closed phase) = (bench ≡ was) × IsClosedIn log phase
TakesIn plan thread log was bench (taken.Busy found) = ⊥

-- ---- a commit

-- the job that was committed, if one was
abbrev pub job_committed : Option JobId → HandCommit → Option JobId
job_committed in_bench committed.Committed = in_bench
job_committed in_bench (committed.Stale cell kept given) = None
job_committed in_bench (committed.Gone phase given) = None
job_committed in_bench (committed.NotTaken job) = None
job_committed in_bench committed.Shut = None
job_committed in_bench (committed.Closed phase) = None
job_committed in_bench (committed.Busy found) = None

-- only a commit of a job adds an entry
abbrev pub told_by_commit : ℕ → Option JobId → HandCommit → Option Entry
told_by_commit seat in_bench answer = option_map (Commit seat) (job_committed in_bench answer)

-- what an open board with this phase may answer to a commit of this bench
abbrev pub MayAnswer : PlanValue → ℕ → BenchView → BoardCommit → Opened → Type 0
MayAnswer plan phase bench answer o = Commits phase o.progress.stages o.progress.memory
    (reads plan.program (the_job bench.job)) bench (the_job bench.job) answer

-- the bench without its job
abbrev pub emptied : BenchView → BenchView
emptied bench = record bench { phase = 0; job = None; outcome = None }

-- What a commit answers, by the history that it finds and the bench before and after it.
abbrev pub CommitsIn : PlanValue → List Entry → BenchView → BenchView → HandCommit → Type 0
CommitsIn plan log was bench committed.Committed =
    (bench ≡ emptied was) × GoesOnIn plan log (MayAnswer plan (after log).phase was commit.Committed)
CommitsIn plan log was bench (committed.Stale cell kept given) =
    (bench ≡ was) × GoesOnIn plan log (MayAnswer plan (after log).phase was (commit.Stale cell kept given))
CommitsIn plan log was bench (committed.Gone phase given) =
    (bench ≡ was) × GoesOnIn plan log (MayAnswer plan (after log).phase was (commit.Gone phase given))
CommitsIn plan log was bench (committed.NotTaken job) =
    (bench ≡ was) × GoesOnIn plan log (MayAnswer plan (after log).phase was (commit.NotTaken job))
CommitsIn plan log was bench committed.Shut = (bench ≡ was) × (has_shut log ≡ true)
CommitsIn plan log was bench (committed.Closed phase) = (bench ≡ was) × IsClosedIn log phase
CommitsIn plan log was bench (committed.Busy found) = ⊥

-- ---- a close

abbrev pub gives_memory : {M : Type 0} → Closed M → Bool
gives_memory (closed.Memory m) = true
gives_memory (closed.Left count) = false

abbrev pub close_if : Bool → Option Entry
close_if true = Some (Close 1)
close_if false = None

-- only a close that gives the memory adds an entry
abbrev pub told_by_close : {M : Type 0} → Closed M → Option Entry
told_by_close answer = close_if (gives_memory answer)

-- The memory and the faults are what one thread makes of what the open put in.
pub record IsSerial (plan : PlanValue) (x : Opening) (memory : List ℤ) (old new : FaultList) : Type 0 where
  pub memory_is : memory ≡ (serial (plan_of plan) x.on x.tic x.memory).memory
  pub faults_are : new ≡ with_faults (serial (plan_of plan) x.on x.tic x.memory).faults old

-- so many due jobs are not committed, and at least one
abbrev pub AreLeft : PlanValue → ℕ → Opened → Type 0
AreLeft plan count o = (count ≡ open_count o.progress.stages (due_jobs (tic_at plan o))) × (0 < count)

-- What a close answers, by what the open put in, the history that it finds and the faults before and after it.
abbrev pub ClosesIn : {M : Type 0} → (M → List ℤ) → PlanValue → Opening → List Entry → FaultList → FaultList
    → Closed M → Type 0
ClosesIn numbers plan x log old new (closed.Memory m) = IsSerial plan x (numbers m) old new
ClosesIn numbers plan x log old new (closed.Left count) = (new ≡ old) × IsOpenIn plan log (AreLeft plan count)

abbrev pub IfOpened : {M : Type 0} → TryOpen M → Type 0 → Type 0
IfOpened opened.Opened P = P
IfOpened (opened.Busy found back) P = Unit {0}

-- what holds of the memory that a close gives, if it gives one
abbrev pub IfTriedMemory : {M : Type 0} → TryClose M → (M → Type 0) → Type 0
IfTriedMemory (tried.Memory m) P = P m
IfTriedMemory (tried.Left count) P = Unit {0}
IfTriedMemory (tried.Busy found) P = Unit {0}

-- a close had the turn, and came to this
abbrev pub as_tried : {M : Type 0} → Closed M → TryClose M
as_tried (closed.Memory m) = tried.Memory m
as_tried (closed.Left count) = tried.Left count

-- ---- whole calls: p is the pass before the call, and q after it. What q has seen is a legal history.

module _ {B : Type 0} where
  -- what a take that waits for its turn answers
  pub record TakesAt (plan : PlanValue) (thread : ℕ) (p q : Pass B Entry) (was bench : BenchView) (answer : HandTook)
      : Type 0 where
    pub found : List Entry
    pub told : HasTold found (told_by_take (number_of p) bench.job answer) p q
    pub legal : IsLegal plan fresh (seen q)
    pub answers : TakesIn plan thread found was bench answer

  -- what a commit that waits for its turn answers
  pub record CommitsAt (plan : PlanValue) (p q : Pass B Entry) (was bench : BenchView) (answer : HandCommit)
      : Type 0 where
    pub found : List Entry
    pub told : HasTold found (told_by_commit (number_of p) was.job answer) p q
    pub legal : IsLegal plan fresh (seen q)
    pub answers : CommitsIn plan found was bench answer

  -- what a close that waits for its turn answers
  pub record ClosesAt {M : Type 0} (numbers : M → List ℤ) (plan : PlanValue) (x : Opening) (p q : Pass B Entry)
      (old new : FaultList) (answer : Closed M) : Type 0 where
    pub found : List Entry
    pub told : HasTold found (told_by_close answer) p q
    pub legal : IsLegal plan fresh (seen q)
    pub answers : ClosesIn numbers plan x found old new answer

  -- A call that waits for nobody may find that another pass has the turn: then this was its one miss, and all else is
  -- as before. Where it does not, its answer is that of a call that waits.
  abbrev pub TriesTake : PlanValue → ℕ → Pass B Entry → Pass B Entry → BenchView → BenchView → HandTook → Type 0
  TriesTake plan thread p q was bench taken.Took = TakesAt plan thread p q was bench taken.Took
  TriesTake plan thread p q was bench (taken.NotYet job waits_for) =
      TakesAt plan thread p q was bench (taken.NotYet job waits_for)
  TriesTake plan thread p q was bench taken.ThreadDone = TakesAt plan thread p q was bench taken.ThreadDone
  TriesTake plan thread p q was bench taken.Shut = TakesAt plan thread p q was bench taken.Shut
  TriesTake plan thread p q was bench (taken.Closed phase) = TakesAt plan thread p q was bench (taken.Closed phase)
  TriesTake plan thread p q was bench (taken.Busy found) = Misses p q found × (bench ≡ was)

  abbrev pub TriesCommit : PlanValue → Pass B Entry → Pass B Entry → BenchView → BenchView → HandCommit → Type 0
  TriesCommit plan p q was bench committed.Committed = CommitsAt plan p q was bench committed.Committed
  TriesCommit plan p q was bench (committed.Stale cell kept given) =
      CommitsAt plan p q was bench (committed.Stale cell kept given)
  TriesCommit plan p q was bench (committed.Gone phase given) =
      CommitsAt plan p q was bench (committed.Gone phase given)
  TriesCommit plan p q was bench (committed.NotTaken job) = CommitsAt plan p q was bench (committed.NotTaken job)
  TriesCommit plan p q was bench committed.Shut = CommitsAt plan p q was bench committed.Shut
  TriesCommit plan p q was bench (committed.Closed phase) = CommitsAt plan p q was bench (committed.Closed phase)
  TriesCommit plan p q was bench (committed.Busy found) = Misses p q found × (bench ≡ was)

  abbrev pub TriesClose : {M : Type 0} → (M → List ℤ) → PlanValue → Opening → Pass B Entry → Pass B Entry
      → FaultList → FaultList → TryClose M → Type 0
  TriesClose numbers plan x p q old new (tried.Memory m) = ClosesAt numbers plan x p q old new (closed.Memory m)
  TriesClose numbers plan x p q old new (tried.Left count) = ClosesAt numbers plan x p q old new (closed.Left count)
  TriesClose numbers plan x p q old new (tried.Busy found) = Misses p q found × (new ≡ old)

  -- the tic was opened by this entry, or the memory comes back
  abbrev pub TriesOpen : {M : Type 0} → M → Pass B Entry → Pass B Entry → Entry → TryOpen M → Type 0
  TriesOpen memory p q e opened.Opened = HasAdded p q e
  TriesOpen memory p q e (opened.Busy found back) = Misses p q found × (back ≡ memory)

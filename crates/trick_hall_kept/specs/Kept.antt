-- What takes and commits answer, by what lies behind the turn before and after them.
use Rattle.std.specs.Prelude.{◌≡◌, ℕ, true, false, MatchOption, None}
use Rattle.trick_phase_board.specs.Answers.{IsReadyOn, Takes}
use Rattle.trick_phase_board.specs.Board.{Opened, tic_at}
use Rattle.trick_phase_board.specs.declared.answers.Commit.TheVariants as commit
use Rattle.trick_phase_board.specs.declared.answers.Took.TheVariants as took
use Rattle.trick_eval.specs.Bench.{BenchView, the_job}
use Rattle.trick_hall_kept.specs.Answers.{MayAnswer, emptied}
use Rattle.trick_hall_kept.specs.HallView.{HallView}
use Rattle.trick_hall_kept.specs.declared.answers.HandCommit.{HandCommit}
use Rattle.trick_hall_kept.specs.declared.answers.HandCommit.TheVariants as committed
use Rattle.trick_hall_kept.specs.declared.answers.HandTook.{HandTook}
use Rattle.trick_hall_kept.specs.declared.answers.HandTook.TheVariants as taken
use Rattle.trick_model.specs.declared.plan.Plan.{Plan as PlanValue}

-- the board was open, and the hall is not shut
abbrev pub WasOpen : HallView → HallView → (Opened → Type 0) → Type 0
WasOpen old new P = (old.shut ≡ false) × (new.shut ≡ false) × MatchOption old.board.opened ⊥ P

-- the hall is not shut, and its board is closed
abbrev pub WasClosed : HallView → ℕ → Type 0
WasClosed old phase = (old.shut ≡ false) × (old.board.opened ≡ None) × (phase ≡ old.board.phase)

abbrev pub TakesFrom : PlanValue → ℕ → HallView → HallView → BenchView → BenchView → HandTook → Type 0
TakesFrom plan thread old new was bench taken.Took = WasOpen old new (λ o.
    IsReadyOn (tic_at plan o) o.progress.stages thread (the_job bench.job).0)
TakesFrom plan thread old new was bench (taken.NotYet job waits_for) = WasOpen old new (λ o.
    Takes (tic_at plan o) o.progress.stages thread (the_job bench.job).0 (took.NotYet job waits_for))
    × (new.board ≡ old.board) × (bench ≡ was)
TakesFrom plan thread old new was bench taken.ThreadDone = WasOpen old new (λ o.
    Takes (tic_at plan o) o.progress.stages thread (the_job bench.job).0 took.ThreadDone)
    × (new.board ≡ old.board) × (bench ≡ was)
TakesFrom plan thread old new was bench taken.Shut = (old.shut ≡ true) × (new ≡ old) × (bench ≡ was)
TakesFrom plan thread old new was bench (taken.Closed phase) =
    WasClosed old phase × (new ≡ old) × (bench ≡ was)
TakesFrom plan thread old new was bench (taken.Busy found) = ⊥

abbrev pub CommitsTo : PlanValue → HallView → HallView → BenchView → BenchView → HandCommit → Type 0
CommitsTo plan old new was bench committed.Committed =
    WasOpen old new (MayAnswer plan old.board.phase was commit.Committed) × (bench ≡ emptied was)
CommitsTo plan old new was bench (committed.Stale cell kept given) =
    WasOpen old new (MayAnswer plan old.board.phase was (commit.Stale cell kept given))
    × (new.board ≡ old.board) × (bench ≡ was)
CommitsTo plan old new was bench (committed.Gone phase given) =
    WasOpen old new (MayAnswer plan old.board.phase was (commit.Gone phase given))
    × (new.board ≡ old.board) × (bench ≡ was)
CommitsTo plan old new was bench (committed.NotTaken job) =
    WasOpen old new (MayAnswer plan old.board.phase was (commit.NotTaken job))
    × (new.board ≡ old.board) × (bench ≡ was)
CommitsTo plan old new was bench committed.Shut = (old.shut ≡ true) × (new ≡ old) × (bench ≡ was)
CommitsTo plan old new was bench (committed.Closed phase) =
    WasClosed old phase × (new ≡ old) × (bench ≡ was)
CommitsTo plan old new was bench (committed.Busy found) = ⊥

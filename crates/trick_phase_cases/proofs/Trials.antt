-- Calls of a board leave a board and benches of the plan.
use Rattle.std.proofs.Common.{◌≡◌, ◌≢◌, ◌∙◌, ℕ, true, false, List, Option, Some, None, ap, is_some, length, pos, refl, subst, sym}
use Rattle.std.proofs.lemmas.List.{length-replicate}
use Rattle.std.specs.Option.{IfSome}
use Rattle.trick_phase_board.specs.Answers.{IfLeft, IfMemory, IsFilledBy}
use Rattle.trick_phase_board.specs.Board.{BoardView, IsBoardOf, Opened}
use Rattle.trick_phase_board.specs.declared.answers.Closed.{Closed}
use Rattle.trick_phase_board.specs.declared.answers.Closed.TheVariants.{Left, Memory}
use Rattle.trick_phase_board.specs.declared.answers.Commit.{Commit}
use Rattle.trick_phase_board.specs.declared.answers.Commit.TheVariants.{Committed}
use Rattle.trick_phase_board.specs.declared.answers.Took.{Took}
use Rattle.trick_phase_board.specs.declared.answers.Took.TheVariants.{Took as WasTaken}
use Rattle.trick_eval.specs.Bench.{BenchView, IsFor}
use Rattle.trick_phase_jobs.specs.Belongs.{IsMemoryOf}
use Rattle.trick_lang.specs.declared.job.JobId.{JobId}
use Rattle.trick_lang.specs.declared.range.CellRange.{CellRange}
use Rattle.trick_memory.specs.Stored.{Stored, zeros}
use Rattle.trick_model.specs.declared.plan.Plan.{Plan}
use Rattle.trick_phase_cases.specs.Trial.{IsTrial}

-- a bench that is filled keeps its parts
pub filled_parts : (phase : ℕ) (ranges : List CellRange) (old new : BenchView) (job : JobId) (opened : Option Opened)
    → is_some opened ≡ true → IfSome opened (λ o. IsFilledBy phase ranges o.progress.memory old new job)
    → new.parts ≡ old.parts
filled_parts phase ranges old new job None some is = cc
filled_parts phase ranges old new job (Some o) some is = ap (λ (b : BenchView). b.parts) is.bench

-- a bench after a take has its parts
pub taken_parts : (r : Took) (phase : ℕ) (ranges : List CellRange) (old new : BenchView) (job : JobId)
    (opened : Option Opened) → is_some opened ≡ true
    → (r ≡ WasTaken → IfSome opened (λ o. IsFilledBy phase ranges o.progress.memory old new job))
    → (r ≢ WasTaken → new ≡ old) → new.parts ≡ old.parts
taken_parts WasTaken phase ranges old new job opened some filled kept =
    filled_parts phase ranges old new job opened some (filled refl)
taken_parts other phase ranges old new job opened some filled kept =
    ap (λ (b : BenchView). b.parts) (kept (λ e. cc))

-- a bench after a commit has its parts
pub committed_parts : (r : Commit) (old new : BenchView)
    → (r ≡ Committed → new ≡ record old { phase = 0; job = None; outcome = None }) → (r ≢ Committed → new ≡ old)
    → new.parts ≡ old.parts
committed_parts Committed old new emptied kept = ap (λ (b : BenchView). b.parts) (emptied refl)
committed_parts other old new emptied kept = ap (λ (b : BenchView). b.parts) (kept (λ e. cc))

-- a board of the plan beside benches that have their parts
pub right_trial : (plan : Plan) (old new : BoardView) (bench_old bench_new other : BenchView)
    → IsTrial plan old bench_old other → IsBoardOf plan new → bench_new.parts ≡ bench_old.parts
    → IsTrial plan new bench_new other
right_trial plan old new bench_old bench_new other t belongs bench = record {
  board_is = belongs;
  bench_is = subst (IsFor plan.program) (sym bench) t.bench_is;
  other_is = t.other_is;
}

-- a board after a close is one of the plan
pub closed_board : {M : Type 0} (r : Closed M) (plan : Plan) (old new : BoardView) (kept : Type 0) → IsBoardOf plan old
    → IfMemory r (λ _. new ≡ record old { opened = None }) → IfLeft r ((new ≡ old) × kept) → IsBoardOf plan new
closed_board (Memory m) plan old new kept is closed left =
    subst (IsBoardOf plan) (sym closed) (record { tables = is.tables; many = is.many; opened = tt })
closed_board (Left count) plan old new kept is closed left = subst (IsBoardOf plan) (sym left.0) is

-- a board on which no tic is open
pub closed_none : (opened : Option Opened) → is_some opened ≡ false → opened ≡ None
closed_none None is = refl
closed_none (Some o) is = cc

-- a memory of zeros is one of the plan
pub zeros_memory : (plan same : Plan) (memory : Stored) → memory ≡ zeros same.program.cells → same ≡ plan
    → IsMemoryOf plan.program memory.numbers memory.scalars
zeros_memory plan same memory is same_is = subst (λ (x : Plan). IsMemoryOf x.program memory.numbers memory.scalars) same_is (record {
  as_many = ap (λ (m : Stored). length m.numbers) is ∙ length-replicate (length same.program.cells) (pos 0);
  of_types = ap (λ (m : Stored). m.scalars) is;
})

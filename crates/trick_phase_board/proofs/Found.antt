-- The jobs that are found in the tables of a board are jobs of its plan.
use Rattle.std.proofs.Common.{ℕ, ◌<◌, ◌==◌, Bool, true, false, List, [], ◌∷◌, length, cond, Option, Some, None, sym, subst}
use Rattle.std.specs.List.{slice_index_or}
use Rattle.std.specs.Option.{IfSome}
use Rattle.std.specs.Prelude.{filter, if◌then◌else◌}
use Rattle.trick_phase_board.specs.Search.{find_first, find_wanted, meets, other_than}
use Rattle.trick_phase_board.specs.Tables.{IsFor, awaits, scheduled}
use Rattle.trick_phase_board.specs.declared.search.Wanted.{Wanted}
use Rattle.trick_phase_board.specs.declared.tables.Tables.{Tables}
use Rattle.trick_lang.specs.declared.class.Class.TheVariants as class
use Rattle.trick_lang.specs.declared.job.JobId.{JobId}
use Rattle.trick_model.proofs.Ranges.{Below, filter_below, jobs_below, order_below}
use Rattle.trick_model.specs.Order.{is_of_class}
use Rattle.trick_model.specs.Plan.{Plan, job_numbers, thread_of}
use Rattle.trick_model.specs.Valid.{ids}
use Rattle.trick_phase_schedules.specs.Play.{stage_at}
use Rattle.trick_phase_schedules.specs.declared.stage.Stage.{Stage}

found_below : (test : ℕ → Bool) (n : ℕ) (jobs : List JobId) → Below n (ids jobs)
    → IfSome (find_first test jobs) (λ (job : JobId). job.0 < n)
found_below test n [] below = tt
found_below test n (job ∷ jobs) below = by_test (test job.0) below.0 (found_below test n jobs below.1)
  where
    by_test : (b : Bool) → job.0 < n → IfSome (find_first test jobs) (λ (j : JobId). j.0 < n)
        → IfSome (cond b (Some job) (find_first test jobs)) (λ (j : JobId). j.0 < n)
    by_test true here rest = here
    by_test false here rest = rest

scheduled_below : (p : Plan) (test : ℕ → Bool) → Below (length p.jobs) (filter test (scheduled p))
scheduled_below p test =
    let n = length p.jobs in
    filter_below n test (scheduled p)
    (order_below n p.jobs (filter (is_of_class p.jobs class.Scheduled) (job_numbers p.jobs))
    (filter_below n (is_of_class p.jobs class.Scheduled) (job_numbers p.jobs) (jobs_below p.jobs)))

-- a job of a thread
pub in_line : (p : Plan) (tables : Tables) → IsFor p tables → (kind : Wanted) (stages : List Stage) (thread : ℕ)
    → IfSome (find_wanted kind stages (slice_index_or tables.lines thread [])) (λ (job : JobId). job.0 < length p.jobs)
in_line p tables right kind stages thread =
    found_below (λ k. meets kind (stage_at stages k)) (length p.jobs) (slice_index_or tables.lines thread [])
    (subst (Below (length p.jobs)) (sym (right.lines thread)) (scheduled_below p (λ k. thread_of p.jobs k == thread)))

-- a job that another one depends on
pub in_depended : (p : Plan) (tables : Tables) → IsFor p tables → (kind : Wanted) (stages : List Stage) (k : ℕ)
    → k < length p.jobs
    → IfSome (find_wanted kind stages (slice_index_or tables.depended k [])) (λ (job : JobId). job.0 < length p.jobs)
in_depended p tables right kind stages k there =
    found_below (λ j. meets kind (stage_at stages j)) (length p.jobs) (slice_index_or tables.depended k [])
    (subst (Below (length p.jobs)) (sym (right.depended k there)) (scheduled_below p (awaits p.jobs p.depends k)))

-- a job that is another one
pub other_below : (job : JobId) (n : ℕ) (found : Option JobId) → IfSome found (λ (j : JobId). j.0 < n)
    → IfSome (other_than job found) (λ (j : JobId). j.0 < n)
other_below job n None below = tt
other_below job n (Some other) below = by_test (other.0 == job.0) below
  where
    by_test : (b : Bool) → other.0 < n
        → IfSome {T = JobId} (if b then None else Some other) (λ (j : JobId). j.0 < n)
    by_test true here = tt
    by_test false here = here

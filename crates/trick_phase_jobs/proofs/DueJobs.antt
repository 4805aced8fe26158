-- The due jobs of a tic are jobs of the program.
use Rattle.std.proofs.Common.{◌≡◌, ℕ, zero, suc, ◌<◌, List, [], ◌∷◌, length, sym, subst, arith, ◌&&◌}
use Rattle.std.specs.Prelude.{All}
use Rattle.trick_lang.specs.declared.job.JobId.{JobId}
use Rattle.trick_model.proofs.Ranges.{Below, filter_below, jobs_below, order_below}
use Rattle.trick_model.specs.Order.{is_due, jobs_at}
use Rattle.trick_model.specs.Plan.{Plan, is_on_scheduled, job_numbers}
use Rattle.trick_model.specs.Valid.{ids}
use Rattle.trick_model.specs.declared.flags.Flags.{Flags}

all_jobs : (n : ℕ) (due : List JobId) → Below n (ids due) → All (λ (job : JobId). job.0 < n) due
all_jobs n [] below k d less = absurd (omega arith)
all_jobs n (job ∷ due) below zero d less = below.0
all_jobs n (job ∷ due) below (suc k) d less = all_jobs n due below.1 k d (omega arith)

pub due_jobs : (p : Plan) (on : Flags) (tic : ℕ) (due : List JobId) → ids due ≡ jobs_at p on tic → All (λ (job : JobId). job.0 < length p.jobs) due
due_jobs p on tic due is =
    all_jobs (length p.jobs) due (subst (Below (length p.jobs)) (sym is)
    (order_below (length p.jobs) p.jobs _ (filter_below (length p.jobs) (λ k. is_due p on tic k && is_on_scheduled p.jobs p.threads k) (job_numbers p.jobs) (jobs_below p.jobs))))

-- The stages of due jobs, and how many due jobs there are.
use Rattle.std.proofs.Common.{◌≡◌, inl, inr, ℕ, zero, suc, ◌<◌, ◌≤◌, Bool, true, false, cond, ◌&&◌, List, length, refl, sym, ◌∙◌, ap, subst, arith}
use Rattle.std.proofs.lemmas.Bool.{cases_eq, cases_lt}
use Rattle.std.proofs.lemmas.List.{get_or-set_other, get_or-set_same, length-replicate, set_past}
use Rattle.std.specs.Prelude.{filter, replicate, slice_set}
use Rattle.trick_lang.specs.declared.job.JobId.{JobId}
use Rattle.trick_model.proofs.Lengths.{ids_length}
use Rattle.trick_model.specs.Laws.{is_among}
use Rattle.trick_model.specs.Order.{is_due as is_due_at_tic, jobs_at}
use Rattle.trick_model.specs.Plan.{Plan, is_on_scheduled, job_numbers}
use Rattle.trick_model.specs.Valid.{ids}
use Rattle.trick_model.specs.declared.flags.Flags.{Flags}
use Rattle.trick_queue.proofs.Queued.{filter_few, numbers_length, order_length}
use Rattle.trick_phase_schedules.proofs.Due.{due_there}
use Rattle.trick_phase_schedules.proofs.History.{waiting_at}
use Rattle.trick_phase_schedules.specs.Play.{first_stages, is_due, stage_at}
use Rattle.trick_phase_schedules.specs.Tics.{Tic, due_jobs}
use Rattle.trick_phase_schedules.specs.declared.stage.Stage.{Stage}
use Rattle.trick_phase_schedules.specs.declared.stage.Stage.TheVariants.{Idle, Waiting}

-- a stage of a job that is as due as the one before leaves which jobs are due
pub due_kept : (stages : List Stage) (k : ℕ) (s : Stage) → is_due s ≡ is_due (stage_at stages k) → (i : ℕ)
    → is_due (stage_at (slice_set stages k s) i) ≡ is_due (stage_at stages i)
due_kept stages k s same i = elim (cases_eq i k) [
  | inr ne ↦ ap is_due (get_or-set_other stages k i s Idle ne)
  | inl e ↦ elim (cases_lt k (length stages)) [
    | inr past ↦ ap (λ (l : List Stage). is_due (stage_at l i)) (set_past stages k s past)
    | inl less ↦ subst (λ (n : ℕ). is_due (stage_at (slice_set stages k s) n) ≡ is_due (stage_at stages n)) (sym e)
        (ap is_due (get_or-set_same stages k s Idle less) ∙ same)
  ]
]

pub all_idle : (n k : ℕ) → stage_at (replicate n Idle) k ≡ Idle
all_idle zero k = refl
all_idle (suc n) zero = refl
all_idle (suc n) (suc k) = all_idle n k

waiting_due : (b : Bool) → is_due (cond b Waiting Idle) ≡ b
waiting_due true = refl
waiting_due false = refl

-- at first the due jobs wait
pub first_due : (t : Tic) (k : ℕ) → is_due (stage_at (first_stages t) k) ≡ is_among k (due_jobs t)
first_due t k =
    ap is_due (waiting_at (due_jobs t) (replicate (length t.plan.jobs) Idle) k
    (λ i among. subst (λ (n : ℕ). i < n) (sym (length-replicate (length t.plan.jobs) Idle)) (due_there t i among))
    ∙ ap (λ (s : Stage). cond (is_among k (due_jobs t)) Waiting s) (all_idle (length t.plan.jobs) k))
    ∙ waiting_due (is_among k (due_jobs t))

-- ---- how many there are

-- no more jobs are due than there are
pub few_due : (p : Plan) (on : Flags) (tic : ℕ) (due : List JobId) → ids due ≡ jobs_at p on tic → length due ≤ length p.jobs
few_due p on tic due is =
    let test = λ (k : ℕ). is_due_at_tic p on tic k && is_on_scheduled p.jobs p.threads k in
    omega (
      arith,
      sym (ids_length due),
      ap length is,
      order_length p.jobs (filter test (job_numbers p.jobs)),
      filter_few test (job_numbers p.jobs),
      numbers_length 0 p.jobs,
    )

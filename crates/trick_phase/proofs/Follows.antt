-- How a schedule goes on at a board: by the stages that its steps have left.
use Rattle.std.proofs.Common.{◌≡◌, ◌⊎◌, ◌∙◌, inl, inr, ℕ, ℤ, Bool, true, false, IsTrue, List, [], ◌∷◌, ◌++◌, refl, sym, ap, subst}
use Rattle.std.specs.List.{Contains}
use Rattle.trick_phase_board.specs.Answers.{IsReadyOn}
use Rattle.trick_lang.specs.Laws.{SameEffect, WritesOnly}
use Rattle.trick_lang.specs.declared.job.JobId.{JobId}
use Rattle.trick_model.specs.Acceptance.{IsAccepted}
use Rattle.trick_model.specs.Laws.{KeyOrderIsOne}
use Rattle.trick_model.specs.Plan.{thread_of}
use Rattle.trick_model.specs.PlanOf.{plan_of}
use Rattle.trick_model.specs.declared.flags.Flags.{Flags}
use Rattle.trick_model.specs.declared.plan.Plan.{Plan as PlanValue}
use Rattle.trick_race.specs.Laws.{DueJobsAreSettled}
use Rattle.trick_phase_schedules.proofs.Alone.{one_by_one_schedule}
use Rattle.trick_phase_schedules.proofs.Due.{right as right_of}
use Rattle.trick_phase_schedules.proofs.Extend.{begun_before, each_follows}
use Rattle.trick_phase_schedules.proofs.History.{stands}
use Rattle.trick_phase_schedules.proofs.Moves.{board_goes_with}
use Rattle.trick_phase_schedules.proofs.Right.{IsRight}
use Rattle.trick_phase_schedules.proofs.Steps.{flies_open, flies_taken, is_due_in, waits_not_taken, waits_open}
use Rattle.trick_phase_schedules.proofs.Told.{IsHistory, not_done, not_taken}
use Rattle.trick_phase_schedules.specs.Play.{is_done, is_due, stage_at}
use Rattle.trick_phase_schedules.specs.Progress.{IsInOrder, Progress, begun, moved}
use Rattle.trick_phase_schedules.specs.Schedule.{CanFollow, IsBegun, job_of, one_by_one}
use Rattle.trick_phase_schedules.specs.Tics.{IsDueIn, Tic, due_jobs, tic_of}
use Rattle.trick_phase_schedules.specs.declared.stage.Stage.{Stage}
use Rattle.trick_phase_schedules.specs.declared.stage.Stage.TheVariants.{InFlight, Waiting}
use Rattle.trick_phase_schedules.specs.declared.step.Step.{Step}
use Rattle.trick_phase_schedules.specs.declared.step.Step.TheVariants.{Commit, Take}

-- the laws that all of this rests on
pub record Laws : Type 0 where
  pub keys : KeyOrderIsOne
  pub settled : DueJobsAreSettled
  pub same : SameEffect
  pub within : WritesOnly

pub right_tic : Laws → (plan : PlanValue) (on : Flags) (number : ℕ) → ∥ IsAccepted (plan_of plan) ∥₁ → IsRight (tic_of plan on number)
right_tic laws plan on number accepted = right_of laws.keys laws.settled laws.same laws.within plan on number accepted

-- The stages tell which steps were done.
pub record IsTold (t : Tic) (before : List Step) (stages : List Stage) : Type 0 where
  pub history : IsHistory before stages
  pub order : IsInOrder t stages

pub told : (t : Tic) (first : List ℤ) (before : List Step) → IsRight t → IsBegun t before → IsTold t before (moved t (begun t first) before).stages
told t first before right may =
    let st = stands t first before right may in
    subst (λ (p : Progress). IsTold t before p.stages) (sym (board_goes_with t first before right may)) (record { history = st.history; order = st.kept.order })

-- ---- takes

module _ (t : Tic) (right : IsRight t) (before : List Step) (stages : List Stage) (at_ : IsTold t before stages) where
  pub waits : (job : JobId) → CanFollow t before (Take job) → stage_at stages job.0 ≡ Waiting
  waits job may = not_taken (stage_at stages job.0) (at_.order.due job.0 ∙ may.0) (λ taken. may.1 ((at_.history job.0).took taken))

  committed : (a : ℕ) → Contains before (Commit (job_of a)) → IsTrue (is_done (stage_at stages a))
  committed a within = (at_.history a).committed_by within

  -- what can follow is next on its thread, and ready
  pub follows_ready : (job : JobId) → CanFollow t before (Take job) → IsReadyOn t stages (thread_of t.plan.jobs job.0) job.0
  follows_ready job may = record {
    next = record {
      holds = (refl, waits job may);
      least = λ j waiting first.
          let due : IsDueIn t j = is_due_in t stages j at_.order (ap is_due waiting.1) in
          waits_open (stage_at stages j) waiting.1 (committed j (may.2 j (record { due = due; before = inl (first, waiting.0) })));
    };
    ready = λ a missing. let is_one = committed a (may.2 a missing.0) in let off : true ≡ false = sym is_one ∙ missing.1 in cc;
  }

  done_or_not : (a : ℕ) → IsTrue (is_done (stage_at stages a)) ⊎ (is_done (stage_at stages a) ≡ false)
  done_or_not a = by_test (is_done (stage_at stages a)) refl
    where
      by_test : (b : Bool) → is_done (stage_at stages a) ≡ b → IsTrue (is_done (stage_at stages a)) ⊎ (is_done (stage_at stages a) ≡ false)
      by_test true e = inl e
      by_test false e = inr e

  -- what is ready can follow
  pub ready_follows : (thread : ℕ) (job : JobId) → IsReadyOn t stages thread job.0 → CanFollow t before (Take job)
  ready_follows thread job ready = (
    is_due_in t stages job.0 at_.order (ap is_due ready.next.holds.1),
    λ within. waits_not_taken (stage_at stages job.0) ready.next.holds.1 ((at_.history job.0).took_by within),
    λ a pred. elim (done_or_not a) [
      | inl done ↦ (at_.history a).committed done
      | inr open_ ↦ absurd (ready.ready a (pred, open_))
    ],
  )

  -- ---- commits

  pub follows_flies : (job : JobId) → CanFollow t before (Commit job) → stage_at stages job.0 ≡ InFlight
  follows_flies job may = not_done (stage_at stages job.0) ((at_.history job.0).took_by may.0) (λ done. may.1 ((at_.history job.0).committed done))

  pub flies_follows : (job : JobId) → stage_at stages job.0 ≡ InFlight → CanFollow t before (Commit job)
  flies_follows job flies = (
    (at_.history job.0).took (flies_taken (stage_at stages job.0) flies),
    λ within. flies_open (stage_at stages job.0) flies ((at_.history job.0).committed_by within),
  )

-- ---- one by one

one_by_one_join : (ks js : List ℕ) → one_by_one (ks ++ js) ≡ one_by_one ks ++ one_by_one js
one_by_one_join [] js = refl
one_by_one_join (k ∷ ks) js = ap (λ (l : List Step). Take (job_of k) ∷ Commit (job_of k) ∷ l) (one_by_one_join ks js)

-- The next of the due jobs can be taken after those before it are done.
pub next_follows : (t : Tic) → IsRight t → (done : List ℕ) (k : ℕ) (rest : List ℕ) → due_jobs t ≡ done ++ k ∷ rest → CanFollow t (one_by_one done) (Take (job_of k))
next_follows t right done k rest split =
    each_follows t [] (one_by_one (due_jobs t)) (one_by_one done) (Commit (job_of k) ∷ one_by_one rest) (Take (job_of k))
    (one_by_one_schedule t right).begun (ap one_by_one split ∙ one_by_one_join done (k ∷ rest))

pub done_begun : (t : Tic) → IsRight t → (done rest : List ℕ) → due_jobs t ≡ done ++ rest → IsBegun t (one_by_one done)
done_begun t right done rest split =
    begun_before t [] (one_by_one done) (one_by_one rest)
    (subst (IsBegun t) (ap one_by_one split ∙ one_by_one_join done rest) (one_by_one_schedule t right).begun)

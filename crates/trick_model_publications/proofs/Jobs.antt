-- Jobs keep memories that agree outside the asynchronous reach: a job that reads a cell of the reach writes no other cell.
use Rattle.std.proofs.Common.{◌≡◌, ◌∙◌, inl, inr, ℕ, ◌-◌, ◌<◌, ◌==◌, ℤ, List, [], ◌∷◌, length, Bool, true, false, ◌&&◌, ◌||◌, Option, Result, Ok, Err, IsTrue, ap, arith, refl, sym}
use Rattle.std.proofs.lemmas.Bool.{cases_Bool}
use Rattle.std.proofs.lemmas.Bool.Decides.{nat_tests}
use Rattle.std.specs.Prelude.{filter, flat_map}
use Rattle.trick_lang.proofs.Overwrites.{overwritten_length}
use Rattle.trick_lang.specs.declared.class.Class.{Class}
use Rattle.trick_lang.specs.declared.fault.StatementFault.{StatementFault}
use Rattle.trick_model.specs.Access.{IsReached, Passed, Source, may_write, writes_cell}
use Rattle.trick_model.specs.Beside.{tics_from, work}
use Rattle.trick_model.specs.Order.{in_key_order, is_due, is_of_class, jobs_at, jobs_in}
use Rattle.trick_model.specs.Plan.{Plan, is_async, is_on_async, is_on_scheduled, job_numbers, jobs_of, process_in, thread_of}
use Rattle.trick_model.specs.Running.{after_jobs, apply, outcome}
use Rattle.trick_model.specs.State.{number_at}
use Rattle.trick_model.specs.declared.flags.Flags.{Flags}
use Rattle.trick_model.specs.declared.thread.Process.{Process}
use Rattle.trick_model.specs.declared.thread.Process.TheVariants as process
use Rattle.trick_model.specs.declared.thread.Thread.{Thread}
use Rattle.trick_model_publications.proofs.Members.{Every, filter_every, flat_every, jobs_every, order_every}
use Rattle.trick_model_publications.proofs.Memories.{over_other, over_same}
use Rattle.trick_model_publications.proofs.Steady.{IsSteady}
use Rattle.trick_model_publications.specs.Publications.{AgreeOutside}

-- ---- which jobs run

-- the job is one of the plan
abbrev pub IsJob : Plan → ℕ → Type 0
IsJob p k = k < length p.jobs

pub class_jobs : (p : Plan) (class : Class) → Every (IsJob p) (jobs_in p.jobs class)
class_jobs p class =
    order_every (IsJob p) p.jobs _ (filter_every (IsJob p) (IsJob p) (is_of_class p.jobs class) (λ k there _. there) (job_numbers p.jobs) (jobs_every p.jobs))

pub due_jobs : (p : Plan) (on : Flags) (tic : ℕ) → Every (IsJob p) (jobs_at p on tic)
due_jobs p on tic =
    order_every (IsJob p) p.jobs _ (filter_every (IsJob p) (IsJob p) (λ k. is_due p on tic k && is_on_scheduled p.jobs p.threads k) (λ k there _. there)
    (job_numbers p.jobs) (jobs_every p.jobs))

thread_jobs : (p : Plan) (thread : Thread) → Every (IsJob p) (jobs_of p.jobs thread)
thread_jobs p thread =
    filter_every (IsJob p) (IsJob p) (λ k. thread_of p.jobs k == thread.number) (λ k there _. there) (job_numbers p.jobs) (jobs_every p.jobs)

pub work_jobs : (p : Plan) (thread : Thread) (on : Flags) (tic : ℕ) → Every (IsJob p) (work p thread on tic)
work_jobs p thread on tic = by_process thread.process
  where
    by_process : (type : Process) → Every (IsJob p) (elim type [
      | process.Scheduled ↦ []
      | process.Async ↦ in_key_order p.jobs (jobs_of p.jobs thread)
      | process.MustFinish ↦
          let from = tic - thread.cycle in
          flat_map (λ u. in_key_order p.jobs (filter (is_due p on u) (jobs_of p.jobs thread))) (tics_from from (tic - from))
    ])
    by_process process.Scheduled = tt
    by_process process.Async = order_every (IsJob p) p.jobs (jobs_of p.jobs thread) (thread_jobs p thread)
    by_process process.MustFinish =
        flat_every (IsJob p) (λ u. in_key_order p.jobs (filter (is_due p on u) (jobs_of p.jobs thread))) _
        (λ u. order_every (IsJob p) p.jobs _ (filter_every (IsJob p) (IsJob p) (is_due p on u) (λ k there _. there) (jobs_of p.jobs thread) (thread_jobs p thread)))

-- ---- what they make of memories that agree

module _ (p : Plan) (steady : IsSteady p) where
  not_both : (b : Bool) → b ≡ false → IsTrue b → ⊥
  not_both true none some = cc none
  not_both false none some = cc some

  outcome_length : (tic k : ℕ) (m : List ℤ) (e : Result (List (Option ℤ)) StatementFault) → length (outcome tic k m e).memory ≡ length m
  outcome_length tic k m (Ok stored) = overwritten_length stored m
  outcome_length tic k m (Err stop) = refl

  -- a cell that the job does not write
  outcome_other : (tic k cell : ℕ) (m : List ℤ) (e : Result (List (Option ℤ)) StatementFault) → p.effect k m ≡ e → writes_cell p k cell ≡ false
      → number_at (outcome tic k m e).memory cell ≡ number_at m cell
  outcome_other tic k cell m (Ok stored) e none =
      over_other stored m cell (λ n found. not_both (writes_cell p k cell) none (steady.stores k cell m stored n e found))
  outcome_other tic k cell m (Err stop) e none = refl

  -- a cell that it writes, by one effect
  outcome_same : (tic k cell : ℕ) (m n : List ℤ) (e : Result (List (Option ℤ)) StatementFault) → length m ≡ length n → number_at m cell ≡ number_at n cell
      → number_at (outcome tic k m e).memory cell ≡ number_at (outcome tic k n e).memory cell
  outcome_same tic k cell m n (Ok stored) many same = over_same stored m n cell many same
  outcome_same tic k cell m n (Err stop) many same = same

  agree_outcome : (tic k : ℕ) (m n : List ℤ) → IsJob p k → AgreeOutside p m n
      → AgreeOutside p (outcome tic k m (p.effect k m)).memory (outcome tic k n (p.effect k n)).memory
  agree_outcome tic k m n there h = record {
    many = outcome_length tic k m (p.effect k m) ∙ h.many ∙ sym (outcome_length tic k n (p.effect k n));
    same = λ cell out. elim (cases_Bool (writes_cell p k cell)) [
      | inl writes ↦
          let e : p.effect k m ≡ p.effect k n =
          steady.effects k m n (λ d reads. h.same d (λ reached. out (Passed k d cell there reached reads writes))) in
          outcome_same tic k cell m n (p.effect k m) h.many (h.same cell out)
          ∙ ap (λ (r : Result (List (Option ℤ)) StatementFault). number_at (outcome tic k n r).memory cell) e
      | inr none ↦
          outcome_other tic k cell m (p.effect k m) refl none ∙ h.same cell out ∙ sym (outcome_other tic k cell n (p.effect k n) refl none)
    ];
  }

  agree_apply : (on : Bool) (tic k : ℕ) (m n : List ℤ) → IsJob p k → AgreeOutside p m n
      → AgreeOutside p (apply p on tic k m).memory (apply p on tic k n).memory
  agree_apply false tic k m n there h = h
  agree_apply true tic k m n there h = agree_outcome tic k m n there h

  pub agree_jobs : (on : ℕ → Bool) (tic : ℕ) (ks : List ℕ) (m n : List ℤ) → Every (IsJob p) ks → AgreeOutside p m n
      → AgreeOutside p (after_jobs p on tic ks m).memory (after_jobs p on tic ks n).memory
  agree_jobs on tic [] m n there h = h
  agree_jobs on tic (k ∷ ks) m n there h =
      agree_jobs on tic ks (apply p (on k) tic k m).memory (apply p (on k) tic k n).memory there.1 (agree_apply (on k) tic k m n there.0 h)

-- ---- what a round may write

-- the job is one of an asynchronous thread
abbrev IsOnRound : Plan → ℕ → Type 0
IsOnRound p k = IsJob p k × (is_on_async p.jobs p.threads k ≡ true)

either : (P : Type 0) (a b : Bool) → (a ≡ true → P) → (b ≡ true → P) → a || b ≡ true → P
either P true b one other h = one refl
either P false b one other h = other h

written_reached : (p : Plan) (ks : List ℕ) (cell : ℕ) → Every (IsOnRound p) ks → may_write p ks cell ≡ true → IsReached p cell
written_reached p [] cell on h = cc h
written_reached p (k ∷ ks) cell on h =
    either (IsReached p cell) (writes_cell p k cell) (may_write p ks cell) (λ writes. Source k cell on.0.0 on.0.1 writes)
    (λ later. written_reached p ks cell on.1 later) h

-- each job of a round is on its thread
round_jobs : (p : Plan) (thread : Thread) (on : Flags) (tic : ℕ) → process_in p.threads thread.number ≡ thread.process
    → is_async thread.process ≡ true → Every (IsOnRound p) (work p thread on tic)
round_jobs p thread on tic same round = by_process thread.process round
  where
    on_round : (k : ℕ) → IsJob p k → (thread_of p.jobs k == thread.number) ≡ true → IsOnRound p k
    on_round k there e =
        let number : thread_of p.jobs k ≡ thread.number = grind (arith, nat_tests, e) in
        (there, ap (λ (n : ℕ). is_async (process_in p.threads n)) number ∙ ap is_async same ∙ round)

    by_process : (type : Process) → is_async type ≡ true → Every (IsOnRound p) (elim type [
      | process.Scheduled ↦ []
      | process.Async ↦ in_key_order p.jobs (jobs_of p.jobs thread)
      | process.MustFinish ↦
          let from = tic - thread.cycle in
          flat_map (λ u. in_key_order p.jobs (filter (is_due p on u) (jobs_of p.jobs thread))) (tics_from from (tic - from))
    ])
    by_process process.Scheduled e = tt
    by_process process.Async e =
        order_every (IsOnRound p) p.jobs (jobs_of p.jobs thread)
        (filter_every (IsOnRound p) (IsJob p) (λ k. thread_of p.jobs k == thread.number) on_round (job_numbers p.jobs) (jobs_every p.jobs))
    by_process process.MustFinish e = cc e

-- A round writes cells of the reach alone.
pub round_reached : (p : Plan) (thread : Thread) (on : Flags) (tic cell : ℕ) → process_in p.threads thread.number ≡ thread.process
    → is_async thread.process ≡ true → may_write p (work p thread on tic) cell ≡ true → IsReached p cell
round_reached p thread on tic cell same round h = written_reached p (work p thread on tic) cell (round_jobs p thread on tic same round) h

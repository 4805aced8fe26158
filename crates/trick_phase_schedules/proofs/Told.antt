-- What steps tell of the stages of jobs.
use Rattle.std.proofs.Common.{◌≡◌, inl, inr, ℕ, ◌<◌, Bool, true, false, List, [], ◌∷◌, ◌++◌, length, Option, IsTrue, refl, sym, ap, subst, arith}
use Rattle.std.proofs.lemmas.Bool.{cases_eq}
use Rattle.std.proofs.lemmas.List.Elements.{Contains-append_left, Contains-push, Contains-push_cases}
use Rattle.std.specs.List.{Contains}
use Rattle.std.specs.Prelude.{slice_set}
use Rattle.trick_lang.specs.declared.fault.JobFault.{JobFault}
use Rattle.trick_lang.specs.declared.job.JobId.{JobId}
use Rattle.trick_phase_schedules.proofs.Insert.{stage_other, stage_set}
use Rattle.trick_phase_schedules.specs.Play.{is_done, is_due, is_taken, stage_at}
use Rattle.trick_phase_schedules.specs.Schedule.{job_of}
use Rattle.trick_phase_schedules.specs.declared.stage.Stage.{Stage}
use Rattle.trick_phase_schedules.specs.declared.stage.Stage.TheVariants.{Done, Idle, InFlight, Waiting}
use Rattle.trick_phase_schedules.specs.declared.step.Step.{Step}
use Rattle.trick_phase_schedules.specs.declared.step.Step.TheVariants.{Commit, Take}

-- the job is taken, and is committed, as its stage says
pub record Tells (before : List Step) (k : ℕ) (taken done : Bool) : Type 0 where
  pub took : IsTrue taken → Contains before (Take (job_of k))
  pub took_by : Contains before (Take (job_of k)) → IsTrue taken
  pub committed : IsTrue done → Contains before (Commit (job_of k))
  pub committed_by : Contains before (Commit (job_of k)) → IsTrue done

abbrev pub IsHistory : List Step → List Stage → Type 0
IsHistory before stages = (k : ℕ) → Tells before k (is_taken (stage_at stages k)) (is_done (stage_at stages k))

-- a due job that is not taken waits
pub not_taken : (s : Stage) → IsTrue (is_due s) → (IsTrue (is_taken s) → ⊥) → s ≡ Waiting
not_taken Idle due out = cc
not_taken Waiting due out = refl
not_taken InFlight due out = absurd (out refl)
not_taken (Done fault) due out = absurd (out refl)

-- a taken job that is not committed is in flight
pub not_done : (s : Stage) → IsTrue (is_taken s) → (IsTrue (is_done s) → ⊥) → s ≡ InFlight
not_done Idle taken out = cc
not_done Waiting taken out = cc
not_done InFlight taken out = refl
not_done (Done fault) taken out = absurd (out refl)

-- a step at another job tells nothing
other_step : (before : List Step) (y : Step) (k : ℕ) (taken done : Bool) → (y ≡ Take (job_of k) → ⊥) → (y ≡ Commit (job_of k) → ⊥)
    → Tells before k taken done → Tells (before ++ y ∷ []) k taken done
other_step before y k taken done no_take no_commit h = record {
  took = λ is. Contains-append_left before (y ∷ []) (Take (job_of k)) (h.took is);
  took_by = λ within. elim (Contains-push_cases before y (Take (job_of k)) within) [ inl old ↦ h.took_by old | inr new ↦ absurd (no_take new) ];
  committed = λ is. Contains-append_left before (y ∷ []) (Commit (job_of k)) (h.committed is);
  committed_by = λ within. elim (Contains-push_cases before y (Commit (job_of k)) within) [ inl old ↦ h.committed_by old | inr new ↦ absurd (no_commit new) ];
}

take_same : (i : JobId) (k : ℕ) → Take i ≡ Take (job_of k) → i.0 ≡ k
take_same i k e = let same : i ≡ job_of k = cc in ap (λ (j : JobId). j.0) same

commit_same : (i : JobId) (k : ℕ) → Commit i ≡ Commit (job_of k) → i.0 ≡ k
commit_same i k e = let same : i ≡ job_of k = cc in ap (λ (j : JobId). j.0) same

take_commit : (i j : JobId) → Take i ≡ Commit j → ⊥
take_commit i j e = cc

commit_take : (i j : JobId) → Commit i ≡ Take j → ⊥
commit_take i j e = cc

here_take : (before : List Step) (k : ℕ) → (Contains before (Commit (job_of k)) → ⊥) → Tells (before ++ Take (job_of k) ∷ []) k true false
here_take before k out = record {
  took = λ is. Contains-push before (Take (job_of k));
  took_by = λ within. refl;
  committed = λ (is : IsTrue false). absurd cc;
  committed_by = λ within. elim (Contains-push_cases before (Take (job_of k)) (Commit (job_of k)) within) [
    | inl old ↦ absurd (out old)
    | inr new ↦ absurd (take_commit (job_of k) (job_of k) new)
  ];
}

here_commit : (before : List Step) (k : ℕ) → Contains before (Take (job_of k)) → Tells (before ++ Commit (job_of k) ∷ []) k true true
here_commit before k took = record {
  took = λ is. Contains-append_left before (Commit (job_of k) ∷ []) (Take (job_of k)) took;
  took_by = λ within. refl;
  committed = λ is. Contains-push before (Commit (job_of k));
  committed_by = λ within. refl;
}

pub history_take : (before : List Step) (stages : List Stage) (k : ℕ) → k < length stages → (Contains before (Commit (job_of k)) → ⊥)
    → IsHistory before stages → IsHistory (before ++ Take (job_of k) ∷ []) (slice_set stages k InFlight)
history_take before stages k there out h i = elim (cases_eq i k) [
  | inl e ↦ subst (λ (n : ℕ). Tells (before ++ Take (job_of k) ∷ []) n (is_taken (stage_at (slice_set stages k InFlight) n)) (is_done (stage_at (slice_set stages k InFlight) n)))
      (sym e)
      (subst (λ (s : Stage). Tells (before ++ Take (job_of k) ∷ []) k (is_taken s) (is_done s)) (sym (stage_set stages k InFlight there)) (here_take before k out))
  | inr ne ↦ subst (λ (s : Stage). Tells (before ++ Take (job_of k) ∷ []) i (is_taken s) (is_done s)) (sym (stage_other stages k i InFlight ne))
      (other_step before (Take (job_of k)) i (is_taken (stage_at stages i)) (is_done (stage_at stages i))
      (λ e. ne (sym (take_same (job_of k) i e))) (take_commit (job_of k) (job_of i)) (h i))
]

pub history_commit : (before : List Step) (stages : List Stage) (k : ℕ) (g : Option JobFault) → k < length stages
    → Contains before (Take (job_of k)) → IsHistory before stages
    → IsHistory (before ++ Commit (job_of k) ∷ []) (slice_set stages k (Done g))
history_commit before stages k g there took h i = elim (cases_eq i k) [
  | inl e ↦ subst (λ (n : ℕ). Tells (before ++ Commit (job_of k) ∷ []) n (is_taken (stage_at (slice_set stages k (Done g)) n)) (is_done (stage_at (slice_set stages k (Done g)) n)))
      (sym e)
      (subst (λ (s : Stage). Tells (before ++ Commit (job_of k) ∷ []) k (is_taken s) (is_done s)) (sym (stage_set stages k (Done g) there)) (here_commit before k took))
  | inr ne ↦ subst (λ (s : Stage). Tells (before ++ Commit (job_of k) ∷ []) i (is_taken s) (is_done s)) (sym (stage_other stages k i (Done g) ne))
      (other_step before (Commit (job_of k)) i (is_taken (stage_at stages i)) (is_done (stage_at stages i))
      (commit_take (job_of k) (job_of i)) (λ e. ne (sym (commit_same (job_of k) i e))) (h i))
]

pub nothing_done : (x : Step) → Contains [] x → ⊥
nothing_done x (i, less, e) = absurd (omega arith)

pub no_history : (stages : List Stage) → ((k : ℕ) → is_taken (stage_at stages k) ≡ false) → ((k : ℕ) → is_done (stage_at stages k) ≡ false) → IsHistory [] stages
no_history stages none_taken none_done k = record {
  took = λ is. let off = none_taken k in absurd cc;
  took_by = λ within. absurd (nothing_done (Take (job_of k)) within);
  committed = λ is. let off = none_done k in absurd cc;
  committed_by = λ within. absurd (nothing_done (Commit (job_of k)) within);
}

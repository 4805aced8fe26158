-- A board, which keeps no copies, goes with the play that has them; a copy stays what it was.
use Rattle.std.proofs.Common.{◌≡◌, inl, inr, ℕ, List, [], ◌∷◌, ◌++◌, refl, sym, ◌∙◌, ap, subst, append_assoc}
use Rattle.std.proofs.lemmas.Bool.{cases_eq}
use Rattle.std.proofs.lemmas.List.{append-nil, get_or-set_other}
use Rattle.std.proofs.lemmas.List.Elements.{Contains-append_left}
use Rattle.std.specs.List.{Contains}
use Rattle.std.specs.Prelude.{ℤ}
use Rattle.trick_lang.specs.declared.job.JobId.{JobId}
use Rattle.trick_model.specs.Running.{After}
use Rattle.trick_phase_schedules.proofs.History.{Stands, one_step, stands_first}
use Rattle.trick_phase_schedules.proofs.Passing.{made_same, run_is_apply}
use Rattle.trick_phase_schedules.proofs.Right.{IsRight}
use Rattle.trick_phase_schedules.proofs.Told.{not_done}
use Rattle.trick_phase_schedules.specs.Play.{Playing, copied, copy_of, opening, played, stage_at, step}
use Rattle.trick_phase_schedules.specs.Progress.{Progress, begun, committing, move, moved, progress_of}
use Rattle.trick_phase_schedules.specs.Schedule.{CanAllFollow, CanFollow, IsBegun, job_of}
use Rattle.trick_phase_schedules.specs.Tics.{Tic}
use Rattle.trick_phase_schedules.specs.declared.step.Step.{Step}
use Rattle.trick_phase_schedules.specs.declared.step.Step.TheVariants.{Commit, Take}

-- ---- boards

one_move : (t : Tic) (first : List ℤ) (before : List Step) (s : Playing) (x : Step) → IsRight t → Stands t first before s → CanFollow t before x
    → move t (progress_of s) x ≡ progress_of (step t s x)
one_move t first before s (Take job) right h may = refl
one_move t first before s (Commit job) right h may =
    ap (λ (r : After). committing (progress_of s) job.0 r)
    (sym (run_is_apply t job.0 s.memory) ∙ sym (made_same t job.0 (copy_of s job.0) s.memory s.memory right
    (h.fresh job.0 (not_done (stage_at s.stages job.0) ((h.history job.0).took_by may.0) (λ is. may.1 ((h.history job.0).committed is))))))

all_moves : (t : Tic) (first : List ℤ) (before : List Step) (s : Playing) (steps : List Step) → IsRight t → Stands t first before s
    → CanAllFollow t before steps → moved t (progress_of s) steps ≡ progress_of (played t s steps)
all_moves t first before s [] right h may = refl
all_moves t first before s (x ∷ steps) right h may =
    ap (λ (p : Progress). moved t p steps) (one_move t first before s x right h may.0)
    ∙ all_moves t first (before ++ x ∷ []) (step t s x) steps right (one_step t first before s x right h may.0) may.1

pub board_goes_with : (t : Tic) (first : List ℤ) (steps : List Step) → IsRight t → IsBegun t steps
    → moved t (begun t first) steps ≡ progress_of (played t (opening t first) steps)
board_goes_with t first steps right may = all_moves t first [] (opening t first) steps right (stands_first t first right) may

-- ---- copies

played_append : (t : Tic) (s : Playing) (xs ys : List Step) → played t s (xs ++ ys) ≡ played t (played t s xs) ys
played_append t s [] ys = refl
played_append t s (x ∷ xs) ys = played_append t (step t s x) xs ys

follow_rest : (t : Tic) (before xs ys : List Step) → CanAllFollow t before (xs ++ ys) → CanAllFollow t (before ++ xs) ys
follow_rest t before [] ys h = subst (λ (l : List Step). CanAllFollow t l ys) (sym (append-nil before)) h
follow_rest t before (x ∷ xs) ys h =
    subst (λ (l : List Step). CanAllFollow t l ys) (append_assoc before (x ∷ []) xs) (follow_rest t (before ++ x ∷ []) xs ys h.1)

same_job : (j : JobId) (k : ℕ) → k ≡ j.0 → job_of k ≡ j
same_job j k e = ap job_of e

one_copy : (t : Tic) (s : Playing) (before : List Step) (x : Step) (k : ℕ) → CanFollow t before x → Contains before (Take (job_of k))
    → copy_of (step t s x) k ≡ copy_of s k
one_copy t s before (Commit job) k may within = refl
one_copy t s before (Take job) k may within = elim (cases_eq k job.0) [
  | inl e ↦ absurd (may.1 (subst (λ (j : JobId). Contains before (Take j)) (same_job job k e) within))
  | inr ne ↦ get_or-set_other s.copies job.0 k (copied (t.plan.reads job.0) s.memory) [] ne
]

copies_stay : (t : Tic) (s : Playing) (before ys : List Step) (k : ℕ) → CanAllFollow t before ys → Contains before (Take (job_of k))
    → copy_of (played t s ys) k ≡ copy_of s k
copies_stay t s before [] k may within = refl
copies_stay t s before (y ∷ ys) k may within =
    copies_stay t (step t s y) (before ++ y ∷ []) ys k may.1 (Contains-append_left before (y ∷ []) (Take (job_of k)) within)
    ∙ one_copy t s before y k may.0 within

pub copy_stays : (t : Tic) (first : List ℤ) (early late : List Step) (k : ℕ) → IsBegun t (early ++ late) → Contains early (Take (job_of k))
    → copy_of (played t (opening t first) (early ++ late)) k ≡ copy_of (played t (opening t first) early) k
copy_stays t first early late k may within =
    ap (λ (s : Playing). copy_of s k) (played_append t (opening t first) early late)
    ∙ copies_stay t (played t (opening t first) early) early late k (follow_rest t [] early late may) within

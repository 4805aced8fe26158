-- The first jobs of a list, of which none is open, need not be looked at.
use Rattle.std.proofs.Common.{◌≡◌, inl, inr, ℕ, zero, suc, ◌+◌, ◌<◌, ◌≤◌, Bool, true, false, cond, List, [], ◌∷◌, ◌++◌, drop, length, take, Some, None, refl, sym, ◌∙◌, ap, subst}
use Rattle.std.proofs.lemmas.Bool.{cases_eq, cases_lt}
use Rattle.std.proofs.lemmas.List.{drop_all, get_or-set_other, get_or-set_same, set_past, take-append-drop, take_more}
use Rattle.std.specs.List.{slice_index_or}
use Rattle.std.specs.Prelude.{replicate, slice_set}
use Rattle.trick_phase_board.specs.Search.{ArePassed, IsPassed, find_first, find_wanted, is_open, meets}
use Rattle.trick_phase_board.specs.declared.search.Wanted.{Wanted}
use Rattle.trick_phase_board.specs.declared.search.Wanted.TheVariants as wanted
use Rattle.trick_phase_board.specs.declared.tables.Tables.{Tables}
use Rattle.trick_lang.specs.declared.job.JobId.{JobId}
use Rattle.trick_phase_schedules.specs.Play.{stage_at}
use Rattle.trick_phase_schedules.specs.declared.stage.Stage.{Stage}
use Rattle.trick_phase_schedules.specs.declared.stage.Stage.TheVariants.{Done, Idle, InFlight, Waiting}

-- ---- lists

-- where a test implies another one
abbrev pub Implies : (ℕ → Bool) → (ℕ → Bool) → Type 0
Implies test other = (k : ℕ) → test k ≡ true → other k ≡ true

fails : (test other : ℕ → Bool) → Implies test other → (k : ℕ) → other k ≡ false → test k ≡ false
fails test other implies k out = by_test (test k) refl
  where
    by_test : (b : Bool) → test k ≡ b → b ≡ false
    by_test true e = let on : other k ≡ true = implies k e in cc
    by_test false e = refl

-- jobs that pass no test are passed over
find_past : (test other : ℕ → Bool) → Implies test other → (first rest : List JobId) → find_first other first ≡ None
    → find_first test (first ++ rest) ≡ find_first test rest
find_past test other implies [] rest none = refl
find_past test other implies (job ∷ jobs) rest none = by_test (find_past test other implies jobs rest) (other job.0) refl none
  where
    by_test : (find_first other jobs ≡ None → find_first test (jobs ++ rest) ≡ find_first test rest) → (b : Bool) → other job.0 ≡ b
        → cond b (Some job) (find_first other jobs) ≡ None
        → cond (test job.0) (Some job) (find_first test (jobs ++ rest)) ≡ find_first test rest
    by_test others true e none = cc
    by_test others false e none =
        ap (λ (b : Bool). cond b (Some job) (find_first test (jobs ++ rest))) (fails test other implies job.0 e) ∙ others none

-- a test that implies one that no job passes is passed by none
find_nothing : (test other : ℕ → Bool) → Implies test other → (jobs : List JobId) → find_first other jobs ≡ None → find_first test jobs ≡ None
find_nothing test other implies [] none = refl
find_nothing test other implies (job ∷ jobs) none = by_test (find_nothing test other implies jobs) (other job.0) refl none
  where
    by_test : (find_first other jobs ≡ None → find_first test jobs ≡ None) → (b : Bool) → other job.0 ≡ b
        → cond b (Some job) (find_first other jobs) ≡ None → cond (test job.0) (Some job) (find_first test jobs) ≡ None
    by_test others true e none = cc
    by_test others false e none =
        ap (λ (b : Bool). cond b (Some job) (find_first test jobs)) (fails test other implies job.0 e) ∙ others none

-- ---- jobs that are passed

meets_open : (kind : Wanted) (s : Stage) → meets kind s ≡ true → is_open s ≡ true
meets_open wanted.Waiting Idle h = cc
meets_open wanted.Waiting Waiting h = refl
meets_open wanted.Waiting InFlight h = cc
meets_open wanted.Waiting (Done fault) h = cc
meets_open wanted.InFlight Idle h = cc
meets_open wanted.InFlight Waiting h = cc
meets_open wanted.InFlight InFlight h = refl
meets_open wanted.InFlight (Done fault) h = cc
meets_open wanted.Open s h = h

-- a job of any kind is after those that are passed
pub behind : (kind : Wanted) (stages : List Stage) (jobs : List JobId) (passed : ℕ) → IsPassed stages jobs passed
    → find_wanted kind stages (drop passed jobs) ≡ find_wanted kind stages jobs
behind kind stages jobs passed none =
    sym (find_past (λ k. meets kind (stage_at stages k)) (λ k. is_open (stage_at stages k)) (λ k. meets_open kind (stage_at stages k))
    (take passed jobs) (drop passed jobs) none)
    ∙ ap (find_wanted kind stages) (take-append-drop passed jobs)

-- where all are passed there is none
pub none_behind : (kind : Wanted) (stages : List Stage) (jobs : List JobId) (passed : ℕ) → IsPassed stages jobs passed → length jobs ≤ passed
    → None ≡ find_wanted kind stages jobs
none_behind kind stages jobs passed none all =
    sym (ap (find_wanted kind stages) (drop_all passed jobs all)) ∙ behind kind stages jobs passed none

-- one more job is passed
pub one_more : (stages : List Stage) (jobs : List JobId) (passed : ℕ) (other : JobId) → IsPassed stages jobs passed → passed < length jobs
    → is_open (stage_at stages (slice_index_or jobs passed other).0) ≡ false → IsPassed stages jobs (passed + 1)
one_more stages jobs passed other none less shut =
    let job = slice_index_or jobs passed other in
    let test = λ (k : ℕ). is_open (stage_at stages k) in
    ap (find_first test) (take_more jobs passed other less)
    ∙ find_past test test (λ k h. h) (take passed jobs) (job ∷ []) none
    ∙ ap (λ (b : Bool). cond b (Some job) None) shut

-- ---- all threads

-- stages of which no more are open leave those passed that are
pub still_passed : (tables : Tables) (old new : List Stage) (passed : List ℕ)
    → ((k : ℕ) → is_open (stage_at new k) ≡ true → is_open (stage_at old k) ≡ true)
    → ArePassed tables old passed → ArePassed tables new passed
still_passed tables old new passed fewer are thread =
    find_nothing (λ k. is_open (stage_at new k)) (λ k. is_open (stage_at old k)) fewer
    (take (slice_index_or passed thread 0) (slice_index_or tables.lines thread [])) (are thread)

-- a stage opens nothing where the one before was open, or it is not
pub set_opens : (stages : List Stage) (k : ℕ) (s : Stage) → (is_open s ≡ true → is_open (stage_at stages k) ≡ true) → (i : ℕ)
    → is_open (stage_at (slice_set stages k s) i) ≡ true → is_open (stage_at stages i) ≡ true
set_opens stages k s opens i = elim (cases_eq i k) [
  | inr ne ↦ λ h. sym (ap is_open (get_or-set_other stages k i s Idle ne)) ∙ h
  | inl e ↦ elim (cases_lt k (length stages)) [
    | inr past ↦ λ h. sym (ap (λ (l : List Stage). is_open (stage_at l i)) (set_past stages k s past)) ∙ h
    | inl less ↦ subst (λ (n : ℕ). is_open (stage_at (slice_set stages k s) n) ≡ true → is_open (stage_at stages n) ≡ true) (sym e)
        (λ h. opens (sym (ap is_open (get_or-set_same stages k s Idle less)) ∙ h))
  ]
]

pub all_zero : (n k : ℕ) → ◌≡◌ {A = ℕ} (slice_index_or (replicate n 0) k 0) 0
all_zero zero k = refl
all_zero (suc n) zero = refl
all_zero (suc n) (suc k) = all_zero n k

-- at first none is passed
pub none_passed : (tables : Tables) (stages : List Stage) (n : ℕ) → ArePassed tables stages (replicate n 0)
none_passed tables stages n thread =
    ap (λ (i : ℕ). find_wanted wanted.Open stages (take i (slice_index_or tables.lines thread []))) (all_zero n thread)

-- those of one thread are passed
pub thread_passed : (tables : Tables) (stages : List Stage) (passed : List ℕ) (at_ n : ℕ) → ArePassed tables stages passed → at_ < length passed
    → IsPassed stages (slice_index_or tables.lines at_ []) n → ArePassed tables stages (slice_set passed at_ n)
thread_passed tables stages passed at_ n are less here thread = elim (cases_eq thread at_) [
  | inr ne ↦ ap (λ (i : ℕ). find_wanted wanted.Open stages (take i (slice_index_or tables.lines thread []))) (get_or-set_other passed at_ thread n 0 ne) ∙ are thread
  | inl e ↦ subst (λ (j : ℕ). IsPassed stages (slice_index_or tables.lines j []) (slice_index_or (slice_set passed at_ n) j 0)) (sym e)
      (ap (λ (i : ℕ). find_wanted wanted.Open stages (take i (slice_index_or tables.lines at_ []))) (get_or-set_same passed at_ n 0 less) ∙ here)
]

-- a job that is committed leaves those passed that are
pub done_passed : (tables now_tables : Tables) (stages now_stages new : List Stage) (passed now_passed : List ℕ) (k : ℕ) (s : Stage)
    → now_tables ≡ tables → now_stages ≡ stages → now_passed ≡ passed → new ≡ slice_set now_stages k s → is_open s ≡ false
    → ArePassed tables stages passed → ArePassed now_tables new now_passed
done_passed tables now_tables stages now_stages new passed now_passed k s same_tables same_stages same_passed set shut are =
    subst (λ (l : List Stage). ArePassed now_tables l now_passed) (sym set)
    (still_passed now_tables now_stages (slice_set now_stages k s) now_passed (set_opens now_stages k s (λ h. cc))
    (subst (λ (t : Tables). ArePassed t now_stages now_passed) (sym same_tables)
    (subst (λ (l : List Stage). ArePassed tables l now_passed) (sym same_stages)
    (subst (λ (n : List ℕ). ArePassed tables stages n) (sym same_passed) are))))

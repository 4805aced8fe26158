-- The due jobs one by one in key order are a schedule.
use Rattle.std.proofs.Common.{◌≡◌, ◌⊎◌, inl, inr, ℕ, List, [], ◌∷◌, ◌++◌, IsTrue, sym, ap, subst}
use Rattle.std.proofs.lemmas.List.Elements.{Contains-append_left, Contains-append_right, Contains-push, Contains-push_cases}
use Rattle.std.specs.List.{Contains}
use Rattle.trick_lang.specs.declared.job.JobId.{JobId}
use Rattle.trick_model.specs.Laws.{AreInKeyOrder, is_among}
use Rattle.trick_model.specs.Order.{precedes}
use Rattle.trick_phase_schedules.proofs.Keys.{among_cases, among_first, among_rest, before_among, none_among, not_both, not_itself}
use Rattle.trick_phase_schedules.proofs.Right.{IsRight}
use Rattle.trick_phase_schedules.proofs.Told.{nothing_done}
use Rattle.trick_phase_schedules.specs.Schedule.{CanAllFollow, CanFollow, IsSchedule, job_of, one_by_one}
use Rattle.trick_phase_schedules.specs.Tics.{IsDueIn, IsPredecessor, Tic, due_jobs}
use Rattle.trick_phase_schedules.specs.declared.step.Step.{Step}
use Rattle.trick_phase_schedules.specs.declared.step.Step.TheVariants.{Commit, Take}

take_job : (i k : ℕ) → Take (job_of i) ≡ Take (job_of k) → i ≡ k
take_job i k e = let same : job_of i ≡ job_of k = cc in ap (λ (j : JobId). j.0) same

commit_job : (i k : ℕ) → Commit (job_of i) ≡ Commit (job_of k) → i ≡ k
commit_job i k e = let same : job_of i ≡ job_of k = cc in ap (λ (j : JobId). j.0) same

take_commit : (i k : ℕ) → Take (job_of i) ≡ Commit (job_of k) → ⊥
take_commit i k e = cc

commit_take : (i k : ℕ) → Commit (job_of i) ≡ Take (job_of k) → ⊥
commit_take i k e = cc

-- the steps of a job more
abbrev more : List Step → ℕ → List Step
more before k = (before ++ Take (job_of k) ∷ []) ++ Commit (job_of k) ∷ []

kept : (before : List Step) (k : ℕ) (x : Step) → Contains before x → Contains (more before k) x
kept before k x h =
    Contains-append_left (before ++ Take (job_of k) ∷ []) (Commit (job_of k) ∷ []) x (Contains-append_left before (Take (job_of k) ∷ []) x h)

not_more : (before : List Step) (k : ℕ) (x : Step) → (Take (job_of k) ≡ x → ⊥) → (Commit (job_of k) ≡ x → ⊥) → (Contains before x → ⊥)
    → Contains (more before k) x → ⊥
not_more before k x no_take no_commit out h = elim (Contains-push_cases (before ++ Take (job_of k) ∷ []) (Commit (job_of k)) x h) [
  | inr e ↦ no_commit e
  | inl first ↦ elim (Contains-push_cases before (Take (job_of k)) x first) [ inr e ↦ no_take e | inl old ↦ out old ]
]

-- a due job that is before all that are left has been committed
record Left (t : Tic) (before : List Step) (left : List ℕ) : Type 0 where
  ordered : AreInKeyOrder t.plan.jobs left
  due : (k : ℕ) → IsTrue (is_among k left) → IsDueIn t k
  not_taken : (k : ℕ) → IsTrue (is_among k left) → Contains before (Take (job_of k)) → ⊥
  not_committed : (k : ℕ) → IsTrue (is_among k left) → Contains before (Commit (job_of k)) → ⊥
  others : (k : ℕ) → IsDueIn t k → IsTrue (is_among k left) ⊎ Contains before (Commit (job_of k))

module _ (t : Tic) (right : IsRight t) where
  take_follows : (before : List Step) (k : ℕ) (ks : List ℕ) → Left t before (k ∷ ks) → CanFollow t before (Take (job_of k))
  take_follows before k ks h = (h.due k (among_first k ks), h.not_taken k (among_first k ks), ready)
    where
      first : (a : ℕ) → IsTrue (is_among a (k ∷ ks)) → IsTrue (precedes t.plan.jobs a k) → ⊥
      first a among before_k = elim (among_cases a k ks among) [
        | inl same ↦ not_itself t.plan.jobs k (subst (λ (n : ℕ). IsTrue (precedes t.plan.jobs n k)) (sym same) before_k)
        | inr later ↦ not_both t.plan.jobs k a (before_among t.plan.jobs k ks a h.ordered.0 later) before_k
      ]

      precedes_k : (a : ℕ) → IsPredecessor t a k → IsTrue (precedes t.plan.jobs a k)
      precedes_k a pred = elim pred.before [ inl same ↦ same.0 | inr depends ↦ right.forward k a depends ]

      ready : (a : ℕ) → IsPredecessor t a k → Contains before (Commit (job_of a))
      ready a pred = elim (h.others a pred.due) [
        | inl among ↦ absurd (first a among (precedes_k a pred))
        | inr committed ↦ committed
      ]

  commit_follows : (before : List Step) (k : ℕ) (ks : List ℕ) → Left t before (k ∷ ks) → CanFollow t (before ++ Take (job_of k) ∷ []) (Commit (job_of k))
  commit_follows before k ks h = (
    Contains-push before (Take (job_of k)),
    λ within. elim (Contains-push_cases before (Take (job_of k)) (Commit (job_of k)) within) [
      | inl old ↦ h.not_committed k (among_first k ks) old
      | inr e ↦ take_commit k k e
    ],
  )

  goes_left : (before : List Step) (k : ℕ) (ks : List ℕ) → Left t before (k ∷ ks) → Left t (more before k) ks
  goes_left before k ks h = record {
    ordered = h.ordered.1;
    due = λ i among. h.due i (among_rest i k ks among);
    not_taken = λ i among. not_more before k (Take (job_of i)) (λ e. other i among (take_job k i e)) (commit_take k i) (h.not_taken i (among_rest i k ks among));
    not_committed = λ i among. not_more before k (Commit (job_of i)) (take_commit k i) (λ e. other i among (commit_job k i e)) (h.not_committed i (among_rest i k ks among));
    others = λ i due. elim (h.others i due) [
      | inr committed ↦ inr (kept before k (Commit (job_of i)) committed)
      | inl among ↦ elim (among_cases i k ks among) [
        | inl same ↦ inr (subst (λ (n : ℕ). Contains (more before k) (Commit (job_of n))) same (Contains-push (before ++ Take (job_of k) ∷ []) (Commit (job_of k))))
        | inr later ↦ inl later
      ]
    ];
  }
    where
      other : (i : ℕ) → IsTrue (is_among i ks) → k ≡ i → ⊥
      other i among e = not_itself t.plan.jobs k
          (subst (λ (n : ℕ). IsTrue (precedes t.plan.jobs k n)) (sym e) (before_among t.plan.jobs k ks i h.ordered.0 among))

  all_follow_on : (before : List Step) (ks : List ℕ) → Left t before ks → CanAllFollow t before (one_by_one ks)
  all_follow_on before [] h = tt
  all_follow_on before (k ∷ ks) h = (take_follows before k ks h, (commit_follows before k ks h, all_follow_on (more before k) ks (goes_left before k ks h)))

  commits : (ks : List ℕ) (k : ℕ) → IsTrue (is_among k ks) → Contains (one_by_one ks) (Commit (job_of k))
  commits [] k among = absurd (none_among k among)
  commits (j ∷ ks) k among = elim (among_cases k j ks among) [
    | inl same ↦ subst (λ (n : ℕ). Contains (one_by_one (j ∷ ks)) (Commit (job_of n))) same
        (Contains-append_left (Take (job_of j) ∷ Commit (job_of j) ∷ []) (one_by_one ks) (Commit (job_of j)) (Contains-push (Take (job_of j) ∷ []) (Commit (job_of j))))
    | inr later ↦ Contains-append_right (Take (job_of j) ∷ Commit (job_of j) ∷ []) (one_by_one ks) (Commit (job_of k)) (commits ks k later)
  ]

  all_left : Left t [] (due_jobs t)
  all_left = record {
    ordered = right.ordered;
    due = λ k among. among;
    not_taken = λ k among. nothing_done (Take (job_of k));
    not_committed = λ k among. nothing_done (Commit (job_of k));
    others = λ k due. inl due;
  }

  pub one_by_one_schedule : IsSchedule t (one_by_one (due_jobs t))
  one_by_one_schedule = record { begun = all_follow_on [] (due_jobs t) all_left; whole = λ k due. commits (due_jobs t) k due }

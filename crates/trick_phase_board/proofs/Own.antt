-- The jobs of a list that come before a job on its thread.
use Rattle.std.proofs.Common.{◌≡◌, ◌⊎◌, inl, inr, ℕ, suc, ◌+◌, ◌≤◌, ◌==◌, Bool, true, false, cond, List, [], ◌∷◌, length, IsTrue, refl, sym, ◌∙◌, ap, subst, arith}
use Rattle.std.proofs.lemmas.Bool.{both_ways, eq-eqb, eqb-true}
use Rattle.trick_base.proofs.Numbers.{zero_at_most}
use Rattle.trick_phase_board.specs.Counts.{before_on, many_on, one_if, open_among, rank_in}
use Rattle.trick_phase_board.specs.Search.{is_open}
use Rattle.trick_phase_board.specs.Tables.{thread_in}
use Rattle.trick_phase_board.specs.declared.tables.Tables.{Tables}
use Rattle.trick_lang.specs.declared.job.Job.{Job}
use Rattle.trick_lang.specs.declared.job.JobId.{JobId}
use Rattle.trick_model.specs.Laws.{AreInKeyOrder, is_among}
use Rattle.trick_model.specs.Order.{precedes}
use Rattle.trick_model.specs.Valid.{ids}
use Rattle.trick_phase_schedules.proofs.Keys.{among_cases, among_first, among_rest, before_among, none_among, not_both, not_itself}
use Rattle.trick_phase_schedules.specs.Play.{stage_at}
use Rattle.trick_phase_schedules.specs.declared.stage.Stage.{Stage}

-- ---- which jobs are before a job

-- they are jobs of the list
pub before_within : (tables : Tables) (thread k : ℕ) (jobs : List JobId) (a : ℕ) → IsTrue (is_among a (ids (before_on tables thread k jobs)))
    → IsTrue (is_among a (ids jobs))
before_within tables thread k [] a among = among
before_within tables thread k (job ∷ jobs) a among =
    by_test (before_within tables thread k jobs a) (job.0 == k) (thread_in tables job.0 == thread) among
  where
    by_test : (IsTrue (is_among a (ids (before_on tables thread k jobs))) → IsTrue (is_among a (ids jobs))) → (here own : Bool)
        → IsTrue (is_among a (ids (cond here [] (cond own (job ∷ before_on tables thread k jobs) (before_on tables thread k jobs)))))
        → IsTrue (is_among a (job.0 ∷ ids jobs))
    by_test others true own among = absurd (none_among a among)
    by_test others false true among = elim (among_cases a job.0 (ids (before_on tables thread k jobs)) among) [
      | inl same ↦ subst (λ (n : ℕ). IsTrue (is_among n (job.0 ∷ ids jobs))) same (among_first job.0 (ids jobs))
      | inr later ↦ among_rest a job.0 (ids jobs) (others later)
    ]
    by_test others false false among = among_rest a job.0 (ids jobs) (others among)

-- they are on the thread
pub before_thread : (tables : Tables) (thread k : ℕ) (jobs : List JobId) (a : ℕ) → IsTrue (is_among a (ids (before_on tables thread k jobs)))
    → thread_in tables a ≡ thread
before_thread tables thread k [] a among = absurd (none_among a among)
before_thread tables thread k (job ∷ jobs) a among =
    by_test (before_thread tables thread k jobs a) (job.0 == k) (thread_in tables job.0 == thread) refl among
  where
    by_test : (IsTrue (is_among a (ids (before_on tables thread k jobs))) → thread_in tables a ≡ thread) → (here own : Bool)
        → (thread_in tables job.0 == thread) ≡ own
        → IsTrue (is_among a (ids (cond here [] (cond own (job ∷ before_on tables thread k jobs) (before_on tables thread k jobs)))))
        → thread_in tables a ≡ thread
    by_test others true own e among = absurd (none_among a among)
    by_test others false true e among = elim (among_cases a job.0 (ids (before_on tables thread k jobs)) among) [
      | inl same ↦ subst (λ (n : ℕ). thread_in tables n ≡ thread) same (eqb-true (thread_in tables job.0) thread e)
      | inr later ↦ others later
    ]
    by_test others false false e among = others among

-- in key order they have smaller keys
pub before_first : (all : List Job) (tables : Tables) (thread k : ℕ) (jobs : List JobId) (a : ℕ) → AreInKeyOrder all (ids jobs)
    → IsTrue (is_among k (ids jobs)) → IsTrue (is_among a (ids (before_on tables thread k jobs))) → IsTrue (precedes all a k)
before_first all tables thread k [] a ordered there among = absurd (none_among a among)
before_first all tables thread k (job ∷ jobs) a ordered there among =
    by_test (before_first all tables thread k jobs a ordered.1) (job.0 == k) (thread_in tables job.0 == thread) refl
    (among_cases k job.0 (ids jobs) there) among
  where
    by_test : (IsTrue (is_among k (ids jobs)) → IsTrue (is_among a (ids (before_on tables thread k jobs))) → IsTrue (precedes all a k)) → (here own : Bool)
        → (job.0 == k) ≡ here → (job.0 ≡ k) ⊎ IsTrue (is_among k (ids jobs))
        → IsTrue (is_among a (ids (cond here [] (cond own (job ∷ before_on tables thread k jobs) (before_on tables thread k jobs)))))
        → IsTrue (precedes all a k)
    by_test others true own e place among = absurd (none_among a among)
    by_test others false own e (inl same) among = absurd (both_ways (job.0 == k) e (eq-eqb job.0 k same))
    by_test others false true e (inr behind) among = elim (among_cases a job.0 (ids (before_on tables thread k jobs)) among) [
      | inl same ↦ subst (λ (n : ℕ). IsTrue (precedes all n k)) same (before_among all job.0 (ids jobs) k ordered.0 behind)
      | inr later ↦ others behind later
    ]
    by_test others false false e (inr behind) among = others behind among

-- in key order each job of the thread with a smaller key is one of them
pub before_all : (all : List Job) (tables : Tables) (thread k : ℕ) (jobs : List JobId) (a : ℕ) → AreInKeyOrder all (ids jobs)
    → IsTrue (is_among a (ids jobs)) → thread_in tables a ≡ thread → IsTrue (precedes all a k)
    → IsTrue (is_among a (ids (before_on tables thread k jobs)))
before_all all tables thread k [] a ordered there own first = absurd (none_among a there)
before_all all tables thread k (job ∷ jobs) a ordered there own first =
    by_test (λ later. before_all all tables thread k jobs a ordered.1 later own first) (job.0 == k) (thread_in tables job.0 == thread) refl refl
    (among_cases a job.0 (ids jobs) there)
  where
    by_test : (IsTrue (is_among a (ids jobs)) → IsTrue (is_among a (ids (before_on tables thread k jobs)))) → (here on : Bool)
        → (job.0 == k) ≡ here → (thread_in tables job.0 == thread) ≡ on → (job.0 ≡ a) ⊎ IsTrue (is_among a (ids jobs))
        → IsTrue (is_among a (ids (cond here [] (cond on (job ∷ before_on tables thread k jobs) (before_on tables thread k jobs)))))
    by_test others true on e t (inl same) =
        absurd (not_itself all k (subst (λ (n : ℕ). IsTrue (precedes all n k)) (sym same ∙ eqb-true job.0 k e) first))
    by_test others true on e t (inr later) =
        absurd (not_both all k a (subst (λ (n : ℕ). IsTrue (precedes all n a)) (eqb-true job.0 k e) (before_among all job.0 (ids jobs) a ordered.0 later)) first)
    by_test others false true e t (inl same) =
        subst (λ (n : ℕ). IsTrue (is_among n (job.0 ∷ ids (before_on tables thread k jobs)))) same
        (among_first job.0 (ids (before_on tables thread k jobs)))
    by_test others false true e t (inr later) = among_rest a job.0 (ids (before_on tables thread k jobs)) (others later)
    by_test others false false e t (inl same) =
        absurd (both_ways (thread_in tables job.0 == thread) t (eq-eqb (thread_in tables job.0) thread (ap (thread_in tables) same ∙ own)))
    by_test others false false e t (inr later) = others later

-- ---- how many of them are open

-- an open job of a list is counted
pub open_some : (stages : List Stage) (jobs : List JobId) (a : ℕ) → IsTrue (is_among a (ids jobs)) → IsTrue (is_open (stage_at stages a))
    → open_among stages jobs ≡ 0 → ⊥
open_some stages [] a among opens none = none_among a among
open_some stages (job ∷ jobs) a among opens none =
    by_place (open_some stages jobs a) (among_cases a job.0 (ids jobs) among)
  where
    by_place : (IsTrue (is_among a (ids jobs)) → IsTrue (is_open (stage_at stages a)) → open_among stages jobs ≡ 0 → ⊥)
        → (job.0 ≡ a) ⊎ IsTrue (is_among a (ids jobs)) → ⊥
    by_place others (inl same) =
        let one : one_if (is_open (stage_at stages job.0)) ≡ 1 =
        ap one_if (subst (λ (n : ℕ). is_open (stage_at stages n) ≡ true) (sym same) opens) in
        let zero_ : one_if (is_open (stage_at stages job.0)) + open_among stages jobs ≡ 0 = none in
        absurd (omega (arith, one, zero_))
    by_place others (inr later) =
        let zero_ : one_if (is_open (stage_at stages job.0)) + open_among stages jobs ≡ 0 = none in
        others later opens (omega (arith, zero_))

-- where no job is open none is counted
pub none_opens : (stages : List Stage) (jobs : List JobId) → ((a : ℕ) → IsTrue (is_among a (ids jobs)) → IsTrue (is_open (stage_at stages a)) → ⊥)
    → open_among stages jobs ≡ 0
none_opens stages [] none = refl
none_opens stages (job ∷ jobs) none =
    by_test (none_opens stages jobs (λ a later. none a (among_rest a job.0 (ids jobs) later))) (is_open (stage_at stages job.0)) refl
  where
    by_test : open_among stages jobs ≡ 0 → (b : Bool) → is_open (stage_at stages job.0) ≡ b → one_if b + open_among stages jobs ≡ 0
    by_test others true e = absurd (none job.0 (among_first job.0 (ids jobs)) e)
    by_test others false e = omega (arith, others)

-- where all are open all are counted
pub all_open : (stages : List Stage) (jobs : List JobId) → ((a : ℕ) → IsTrue (is_among a (ids jobs)) → IsTrue (is_open (stage_at stages a)))
    → open_among stages jobs ≡ length jobs
all_open stages [] opens = refl
all_open stages (job ∷ jobs) opens =
    let others = all_open stages jobs (λ a later. opens a (among_rest a job.0 (ids jobs) later)) in
    let one : one_if (is_open (stage_at stages job.0)) ≡ 1 = ap one_if (opens job.0 (among_first job.0 (ids jobs))) in
    omega (arith, one, others)

more_less : (n a b : ℕ) → a ≤ b → n + a ≤ n + b
more_less n a b less = omega (arith, less)

-- Of two jobs of a thread, where the one is not before the other, no more are open before this than before that.
pub before_fewer : (stages : List Stage) (tables : Tables) (thread j k : ℕ) (jobs : List JobId) → thread_in tables j ≡ thread
    → (IsTrue (is_among j (ids (before_on tables thread k jobs))) → ⊥)
    → open_among stages (before_on tables thread k jobs) ≤ open_among stages (before_on tables thread j jobs)
before_fewer stages tables thread j k [] own none = zero_at_most 0
before_fewer stages tables thread j k (job ∷ jobs) own none =
    by_test (before_fewer stages tables thread j k jobs own) (job.0 == k) (job.0 == j) (thread_in tables job.0 == thread) refl refl none
  where
    by_test : ((IsTrue (is_among j (ids (before_on tables thread k jobs))) → ⊥)
        → open_among stages (before_on tables thread k jobs) ≤ open_among stages (before_on tables thread j jobs))
        → (this that on : Bool) → (job.0 == j) ≡ that → (thread_in tables job.0 == thread) ≡ on
        → (IsTrue (is_among j (ids (cond this [] (cond on (job ∷ before_on tables thread k jobs) (before_on tables thread k jobs))))) → ⊥)
        → open_among stages (cond this [] (cond on (job ∷ before_on tables thread k jobs) (before_on tables thread k jobs)))
        ≤ open_among stages (cond that [] (cond on (job ∷ before_on tables thread j jobs) (before_on tables thread j jobs)))
    by_test others true that on e t none = zero_at_most _
    by_test others false true true e t none =
        absurd (none (subst (λ (n : ℕ). IsTrue (is_among n (job.0 ∷ ids (before_on tables thread k jobs)))) (eqb-true job.0 j e)
        (among_first job.0 (ids (before_on tables thread k jobs)))))
    by_test others false true false e t none =
        absurd (both_ways (thread_in tables job.0 == thread) t
        (eq-eqb (thread_in tables job.0) thread (ap (thread_in tables) (eqb-true job.0 j e) ∙ own)))
    by_test others false false true e t none =
        more_less (one_if (is_open (stage_at stages job.0))) _ _
        (others (λ among. none (among_rest j job.0 (ids (before_on tables thread k jobs)) among)))
    by_test others false false false e t none = others none

-- ---- ranks

all_here : (n : ℕ) → n ≡ 0 + n
all_here n = omega arith

one_before : (m l r : ℕ) → m ≡ l + r → 1 + m ≡ suc l + r
one_before m l r h = omega (arith, h)

none_before : (m l r : ℕ) → m ≡ l + r → 0 + m ≡ l + r
none_before m l r h = omega (arith, h)

-- the jobs of a thread are those before a job, and those from its place on
pub rank_splits : (tables : Tables) (thread k : ℕ) (jobs : List JobId)
    → many_on tables thread jobs ≡ length (before_on tables thread k jobs) + rank_in tables thread k jobs
rank_splits tables thread k [] = refl
rank_splits tables thread k (job ∷ jobs) =
    by_test (rank_splits tables thread k jobs) (job.0 == k) (thread_in tables job.0 == thread)
  where
    by_test : many_on tables thread jobs ≡ length (before_on tables thread k jobs) + rank_in tables thread k jobs → (here on : Bool)
        → one_if on + many_on tables thread jobs
        ≡ length (cond here [] (cond on (job ∷ before_on tables thread k jobs) (before_on tables thread k jobs)))
        + cond here (one_if on + many_on tables thread jobs) (rank_in tables thread k jobs)
    by_test others true on = all_here (one_if on + many_on tables thread jobs)
    by_test others false true = one_before (many_on tables thread jobs) (length (before_on tables thread k jobs)) (rank_in tables thread k jobs) others
    by_test others false false = none_before (many_on tables thread jobs) (length (before_on tables thread k jobs)) (rank_in tables thread k jobs) others

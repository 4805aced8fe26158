-- The late groups are no more than the late jobs.
use Rattle.std.proofs.Common.{◌≡◌, ◌∙◌, ℕ, zero, suc, ◌+◌, ◌-◌, ◌<◌, ◌≤◌, Bool, true, false, ◌&&◌, ◌||◌, ◌↔◌, IsTrue, List, [], ◌∷◌, length, get_or, map, refl, sym, ap, arith, inl, inr}
use Rattle.std.proofs.lemmas.Bool.{or_right}
use Rattle.std.proofs.lemmas.Bool.Decides.{nat_tests}
use Rattle.std.specs.Prelude.{cond, filter, not, nat_le}
use Rattle.trick_cycle.specs.Due.{IsDue, is_due_at}
use Rattle.trick_cycle.specs.declared.Due.{Due}
use Rattle.trick_model.proofs.Lengths.{ids_length}
use Rattle.trick_model.specs.PlanOf.{plan_of}
use Rattle.trick_model.specs.Valid.{ids}
use Rattle.trick_model.specs.declared.plan.Plan.{Plan as PlanValue}
use Rattle.trick_queue.proofs.Grouping.{same_is, same_self, true≢false}
use Rattle.trick_queue.proofs.Queued.{ids_at}
use Rattle.trick_queue.proofs.Trees.{same_or}
use Rattle.trick_queue.specs.Calendar.{no_times, times_in}
use Rattle.trick_queue.specs.Groups.{AreApart, are_same, is_one_of, times_by}
use Rattle.trick_queue.specs.Late.{is_due_within, is_late, late_jobs}
use Rattle.trick_queue.specs.Line.{no_id, times_at}
use Rattle.trick_queue.specs.Passed.{late}
use Rattle.trick_queue.specs.Queue.{IsFor, QueuesView}
use Rattle.trick_queue.specs.Tree.{never}

-- ---- times that are late

-- a due tic among so many makes them late
pub within : (d : Due) (from count t : ℕ) → from ≤ t → t < from + count → is_due_at d t ≡ true → is_due_within d from count ≡ true
within d from zero t low high due = absurd (omega arith)
within d from (suc count) t low high due = elim (same_or t from) [
  | inl e ↦ ap (λ b. b || is_due_within d (suc from) count) (ap (is_due_at d) (sym e) ∙ due)
  | inr ne ↦ or_right (is_due_at d from) (is_due_within d (suc from) count) (within d (suc from) count t (omega (arith, low, ne)) (omega (arith, high)) due)
]

-- where they are late, there is a due tic among so many
found_within : (d : Due) (from count : ℕ) → is_due_within d from count ≡ true → (t : ℕ) × (from ≤ t) × (t < from + count) × (is_due_at d t ≡ true)
found_within d from zero is = absurd (true≢false (sym is))
found_within d from (suc count) is = by_test (is_due_at d from) refl is (found_within d (suc from) count)
  where
    by_test : (b : Bool) → is_due_at d from ≡ b → (b || is_due_within d (suc from) count) ≡ true
        → (is_due_within d (suc from) count ≡ true → (t : ℕ) × (suc from ≤ t) × (t < suc from + count) × (is_due_at d t ≡ true))
        → (t : ℕ) × (from ≤ t) × (t < from + suc count) × (is_due_at d t ≡ true)
    by_test true due is others = (from, omega arith, omega arith, due)
    by_test false none is others = let found = others is in (found.0, omega (arith, found.1), omega (arith, found.2), found.3)

pub late_exact : (d : Due) (from tic : ℕ) → ((t : ℕ) → IsTrue (is_due_at d t) ↔ IsDue d t)
    → IsTrue (is_late from tic d) ↔ ((t : ℕ) × (from ≤ t) × (t ≤ tic) × IsDue d t)
late_exact d from tic exact = (
  λ is. let found = found_within d from (suc tic - from) is in
      (found.0, found.1, omega (arith, found.1, found.2), (exact found.0).0 found.3),
  λ some.
      within d from (suc tic - from) some.0 some.1 (omega (arith, some.1, some.2)) ((exact some.0).1 some.3),
)

-- ---- counts of times

-- the number of these that pass a test
abbrev many : (Due → Bool) → List Due → ℕ
many test ds = length (filter test ds)

-- the test, for times other than these
abbrev but : Due → (Due → Bool) → Due → Bool
but d test x = test x && not (are_same d x)

many_but : (test : Due → Bool) (d : Due) (xs : List Due) → many (but d test) xs ≤ many test xs
many_but test d [] = omega arith
many_but test d (x ∷ xs) = by_test (test x) (are_same d x) (many_but test d xs)
  where
    by_test : (p s : Bool) → many (but d test) xs ≤ many test xs
        → length (cond (p && not s) (x ∷ filter (but d test) xs) (filter (but d test) xs)) ≤ length (cond p (x ∷ filter test xs) (filter test xs))
    by_test true true others = omega (arith, others)
    by_test true false others = omega (arith, others)
    by_test false s others = others

-- where times are there, one passes less without them
many_less : (test : Due → Bool) (d : Due) (xs : List Due) → test d ≡ true → is_one_of d xs ≡ true → suc (many (but d test) xs) ≤ many test xs
many_less test d [] passes there = absurd (true≢false (sym there))
many_less test d (x ∷ xs) passes there = by_same (are_same d x) refl there (many_less test d xs passes)
  where
    others : (p : Bool) → suc (many (but d test) xs) ≤ many test xs
        → suc (length (cond (p && true) (x ∷ filter (but d test) xs) (filter (but d test) xs))) ≤ length (cond p (x ∷ filter test xs) (filter test xs))
    others true less = omega (arith, less)
    others false less = less

    nothing : (p : Bool) → p ≡ true → many (but d test) xs ≤ many test xs
        → suc (length (cond (p && false) (x ∷ filter (but d test) xs) (filter (but d test) xs))) ≤ length (cond p (x ∷ filter test xs) (filter test xs))
    nothing true is most = omega (arith, most)
    nothing false is most = absurd (true≢false (sym is))

    by_same : (s : Bool) → are_same d x ≡ s → (s || is_one_of d xs) ≡ true → (is_one_of d xs ≡ true → suc (many (but d test) xs) ≤ many test xs)
        → suc (length (cond (test x && not s) (x ∷ filter (but d test) xs) (filter (but d test) xs))) ≤ length (cond (test x) (x ∷ filter test xs) (filter test xs))
    by_same true same there less = nothing (test x) (ap test (sym (same_is d x same)) ∙ passes) (many_but test d xs)
    by_same false other there less = others (test x) (less there)

-- where times are not there, nothing changes without them
many_same : (test : Due → Bool) (d : Due) (xs : List Due) → is_one_of d xs ≡ false → many (but d test) xs ≡ many test xs
many_same test d [] none = refl
many_same test d (x ∷ xs) none = by_same (are_same d x) refl none (many_same test d xs)
  where
    by_test : (p : Bool) → many (but d test) xs ≡ many test xs
        → length (cond (p && true) (x ∷ filter (but d test) xs) (filter (but d test) xs)) ≡ length (cond p (x ∷ filter test xs) (filter test xs))
    by_test true others = ap suc others
    by_test false others = others

    by_same : (s : Bool) → are_same d x ≡ s → (s || is_one_of d xs) ≡ false → (is_one_of d xs ≡ false → many (but d test) xs ≡ many test xs)
        → length (cond (test x && not s) (x ∷ filter (but d test) xs) (filter (but d test) xs)) ≡ length (cond (test x) (x ∷ filter test xs) (filter test xs))
    by_same true same none others = absurd (true≢false none)
    by_same false other none others = by_test (test x) (others none)

-- Times that stand apart, each among others, are no more than these.
no_more : (test : Due → Bool) (ds xs : List Due) → AreApart ds → ((at : ℕ) → at < length ds → is_one_of (get_or ds at no_times) xs ≡ true)
    → many test ds ≤ many test xs
no_more test [] xs apart there = omega arith
no_more test (d ∷ ds) xs apart there =
    by_test (test d) refl (no_more test ds xs apart.1 (λ at less. there (suc at) (omega arith)))
    (no_more (but d test) ds xs apart.1 (λ at less. there (suc at) (omega arith)))
  where
    by_test : (p : Bool) → test d ≡ p → many test ds ≤ many test xs → many (but d test) ds ≤ many (but d test) xs
        → length (cond p (d ∷ filter test ds) (filter test ds)) ≤ many test xs
    by_test true passes all others =
        let same : many (but d test) ds ≡ many test ds = many_same test d ds apart.0 in
        let less : suc (many (but d test) xs) ≤ many test xs = many_less test d xs passes (there zero (omega arith)) in
        omega (arith, same, less, others)
    by_test false fails all others = all

-- ---- groups and jobs

-- each late tic is one of times that are late
late_few : (tic : ℕ) (test : Due → Bool) (tics : List ℕ) (ds : List Due) → length tics ≡ length ds
    → ((at : ℕ) → at < length ds → get_or tics at never ≤ tic → test (get_or ds at no_times) ≡ true) → late tic tics ≤ many test ds
late_few tic test [] ds same are = omega arith
late_few tic test (t ∷ tics) [] same are = absurd (omega (arith, same))
late_few tic test (t ∷ tics) (d ∷ ds) same are =
    by_tests (nat_le t tic) refl (test d) refl (late_few tic test tics ds (omega (arith, same)) (λ at less le. are (suc at) (omega arith) le))
  where
    by_tests : (b : Bool) → nat_le t tic ≡ b → (p : Bool) → test d ≡ p → late tic tics ≤ many test ds
        → cond b 1 0 + late tic tics ≤ length (cond p (d ∷ filter test ds) (filter test ds))
    by_tests true is true passes others = omega (arith, others)
    by_tests true is false fails others =
        let le : t ≤ tic = grind (arith, nat_tests, is) in absurd (true≢false (sym (are zero (omega arith) le) ∙ fails))
    by_tests false is true passes others = omega (arith, others)
    by_tests false is false fails others = omega (arith, others)

-- the times of a job are among those of all jobs
job_times : (f : ℕ → Due) (ks : List ℕ) (place : ℕ) (d : Due) → place < length ks → f (get_or ks place 0) ≡ d → is_one_of d (map f ks) ≡ true
job_times f [] place d less is = absurd (omega arith)
job_times f (k ∷ ks) zero d less is = ap (λ b. b || is_one_of d (map f ks)) (ap (are_same d) is ∙ same_self d)
job_times f (k ∷ ks) (suc place) d less is = or_right (are_same d (f k)) (is_one_of d (map f ks)) (job_times f ks place d (omega arith) is)

-- The groups that are late are no more than the jobs that are.
pub few_late : (plan : PlanValue) (q : QueuesView) (tic : ℕ) → ((d : Due) (t : ℕ) → IsDue d t → IsTrue (is_due_at d t)) → IsFor plan q → tic < never
    → late tic q.tics ≤ late_jobs (plan_of plan) q.from tic
few_late plan q tic exact own small =
    let jobs = plan.program.jobs in
    let ds = times_by q.groups in
    let test = is_late q.from tic in
    let of_groups : late tic q.tics ≤ many test ds = late_few tic test q.tics ds own.next.as_many (λ at less le.
    elim ((own.next.next at less).due) [
      | inl e ↦ absurd (omega (arith, e, le, small))
      | inr due ↦ within (times_in ds at) q.from (suc tic - q.from) (get_or q.tics at never) due.0 (omega (arith, due.0, le)) (exact (times_in ds at) (get_or q.tics at never) due.1)
    ]) in
    let of_jobs : many test ds ≤ many test (map (times_at jobs) (ids q.jobs)) = no_more test ds (map (times_at jobs) (ids q.jobs)) own.groups.apart (λ at less.
    let used = own.have at no_times less in
    job_times (times_at jobs) (ids q.jobs) used.0 (get_or ds at no_times) (omega (arith, used.1, ids_length q.jobs)) (ap (times_at jobs) (ids_at q.jobs used.0 no_id used.1) ∙ used.2)) in
    let all : many test (map (times_at jobs) (ids q.jobs)) ≡ late_jobs (plan_of plan) q.from tic = ap (λ (ks : List ℕ). many test (map (times_at jobs) ks)) own.jobs in
    omega (arith, of_groups, of_jobs, all)

-- What an accepted plan says of the jobs of a tic.
use Rattle.std.proofs.Common.{◌≡◌, ℕ, ◌<◌, ◌-◌, ◌%◌, ◌&&◌, ◌==◌, nat_le, nat_lt, ◌⊎◌, inl, inr, IsTrue, List, [], ◌∷◌, length, refl, sym, ap, arith}
use Rattle.std.proofs.Math.Logic.{∥∥₁_map}
use Rattle.std.proofs.lemmas.Bool.{cases_order, leb-true, or_left, or_right}
use Rattle.std.proofs.lemmas.Bool.Decides.{nat_tests}
use Rattle.trick_base.proofs.Truths.{first_holds, second_holds}
use Rattle.trick_cycle.specs.Due.{IsDue, is_due_at}
use Rattle.trick_cycle.specs.declared.Due.{Due}
use Rattle.trick_lang.specs.declared.class.Class.TheVariants as class
use Rattle.trick_model.specs.Acceptance.{AreIndependent, IsAccepted}
use Rattle.trick_model.specs.Laws.{KeysDiffer}
use Rattle.trick_model.specs.Order.{is_below, is_due, is_of_class, key}
use Rattle.trick_model.specs.Plan.{Plan, is_on_scheduled, job_at, thread_of}
use Rattle.trick_model.specs.PlanOf.{plan_of}
use Rattle.trick_model.specs.Time.{due_of}
use Rattle.trick_model.specs.declared.flags.Flags.{Flags}
use Rattle.trick_model.specs.declared.plan.Plan.{Plan as PlanValue}
use Rattle.trick_race.proofs.Merging.{both}
use Rattle.trick_race.specs.Laws.{AreDueApart, AreSettled, DueJobsAreSettled}

-- of two keys one is below the other, or they are one
below_cases : (xs ys : List ℕ) → length xs ≡ length ys → (IsTrue (is_below xs ys) ⊎ IsTrue (is_below ys xs)) ⊎ (xs ≡ ys)
below_cases [] [] long = inr refl
below_cases [] (y ∷ ys) long = absurd (omega (arith, long))
below_cases (x ∷ xs) [] long = absurd (omega (arith, long))
below_cases (x ∷ xs) (y ∷ ys) long = by_heads (cases_order x y) (below_cases xs ys (omega (arith, long)))
  where
    less : (n m : ℕ) → n < m → IsTrue (nat_lt n m)
    less n m h = grind (arith, nat_tests)

    equal : (n m : ℕ) → n ≡ m → IsTrue (n == m)
    equal n m h = grind (arith, nat_tests)

    by_heads : (x ≡ y) ⊎ ((x < y) ⊎ (y < x)) → (IsTrue (is_below xs ys) ⊎ IsTrue (is_below ys xs)) ⊎ (xs ≡ ys)
        → (IsTrue (is_below (x ∷ xs) (y ∷ ys)) ⊎ IsTrue (is_below (y ∷ ys) (x ∷ xs))) ⊎ (x ∷ xs ≡ y ∷ ys)
    by_heads (inr (inl h)) rest = inl (inl (or_left (nat_lt x y) _ (less x y h)))
    by_heads (inr (inr h)) rest = inl (inr (or_left (nat_lt y x) _ (less y x h)))
    by_heads (inl same) (inl (inl h)) = inl (inl (or_right (nat_lt x y) _ (both (x == y) _ (equal x y same) h)))
    by_heads (inl same) (inl (inr h)) = inl (inr
        (or_right (nat_lt y x) _ (both (y == x) _ (equal y x (sym same)) h)))
    by_heads (inl same) (inr e) = inr (λ i. same i ∷ e i)

due_is : (d : Due) (t : ℕ) → IsTrue (is_due_at d t) → IsDue d t
due_is d t h =
    let times = first_holds (nat_le d.start t && nat_le t d.stop) _ h in
    let step = second_holds (nat_le d.start t && nat_le t d.stop) _ h in
    record {
      started = leb-true _ _ (first_holds (nat_le d.start t) _ times);
      not_over = leb-true _ _ (second_holds (nat_le d.start t) _ times);
      in_step = zero_of ((t - d.start) % d.cycle) step;
    }
  where
    zero_of : (n : ℕ) → IsTrue (n == 0) → n ≡ 0
    zero_of n h = grind (arith, nat_tests)

-- what is said of a job that is due on a scheduled thread
record Runs (p : Plan) (flags : Flags) (tic k : ℕ) : Type 0 where
  racer : IsTrue (is_of_class p.jobs class.Scheduled k && is_on_scheduled p.jobs p.threads k)
  due : IsDue (due_of p p.jobs_on k) tic

runs : (p : Plan) (flags : Flags) (tic k : ℕ) → IsTrue (is_due p flags tic k && is_on_scheduled p.jobs p.threads k)
    → Runs p flags tic k
runs p flags tic k h =
    let here = first_holds (is_due p flags tic k) _ h in
    record {
      racer = both (is_of_class p.jobs class.Scheduled k) (is_on_scheduled p.jobs p.threads k)
          (first_holds (is_of_class p.jobs class.Scheduled k) _ here) (second_holds (is_due p flags tic k) _ h);
      due = due_is (due_of p flags k) tic (second_holds (is_of_class p.jobs class.Scheduled k) _ here);
    }

swapped : (p : Plan) (a b : ℕ) → AreIndependent p a b → AreIndependent p b a
swapped p a b h = record { from = h.to; to = h.from; both = λ cell w u. h.both cell u w }

settled : KeysDiffer → (plan : PlanValue) (flags : Flags) (tic a b : ℕ) → AreDueApart (plan_of plan) flags tic a b
    → IsAccepted (plan_of plan)
    → AreSettled (plan_of plan) a b
settled law plan flags tic a b apart accepted =
    let p = plan_of plan in
    let one = runs p flags tic a apart.first_due in
    let other = runs p flags tic b apart.second_due in
    elim (below_cases (key (job_at p.jobs a)) (key (job_at p.jobs b)) refl) [
      | inr same ↦ absurd (apart.on_two_threads
          (ap (thread_of p.jobs) (law plan a b apart.first_there apart.second_there same)))
      | inl differ ↦ elim differ [
        | inl first ↦ elim (accepted.no_race a b apart.first_there apart.second_there
            (record {
              in_order = first;
              first_scheduled = one.racer;
              second_scheduled = other.racer;
              on_two_threads =
                  apart.on_two_threads;
            })
            tic (one.due, other.due)) [
              | inl independent ↦ inl independent
              | inr ordered ↦ inr (inl ordered)
            ]
        | inr second ↦ elim (accepted.no_race b a apart.second_there apart.first_there
            (record {
              in_order = second;
              first_scheduled = other.racer;
              second_scheduled = one.racer;
              on_two_threads =
                  λ e. apart.on_two_threads (sym e);
            })
            tic (other.due, one.due)) [
              | inl independent ↦ inl (swapped p b a independent)
              | inr ordered ↦ inr (inr ordered)
            ]
      ]
    ]

pub due_jobs_are_settled : KeysDiffer → DueJobsAreSettled
due_jobs_are_settled law plan accepted flags tic a b apart =
    ∥∥₁_map accepted (λ (h : IsAccepted (plan_of plan)). settled law plan flags tic a b apart h)

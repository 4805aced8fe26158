-- Two jobs that may race.
use Rattle.std.proofs.Common.{◌≡◌, ◌≢◌, ℕ, zero, suc, ◌<◌, Bool, false, ◌==◌, inl, inr, ◌↔◌, IsTrue, List, [], ◌∷◌, length, get_or, nat_le, sym, ap, subst, ◌∙◌, arith}
use Rattle.std.proofs.lemmas.Bool.{leb-true}
use Rattle.std.specs.List.{list_all}
use Rattle.trick_access.specs.declared.cells.Access.{Access}
use Rattle.trick_base.proofs.Truths.{first_holds, second_holds}
use Rattle.trick_cycle.specs.Due.{IsInRange}
use Rattle.trick_cycle.specs.Least.{IsLeast}
use Rattle.trick_cycle.specs.Shared.{Covers, IsShared}
use Rattle.trick_cycle.specs.declared.Due.{Due}
use Rattle.trick_base.specs.Time.{tic_limit}
use Rattle.trick_lang.specs.Valid.{has_right_times, is_scheduled_right}
use Rattle.trick_lang.specs.declared.class.Class.{Class}
use Rattle.trick_lang.specs.declared.class.Class.TheVariants as class
use Rattle.trick_lang.specs.declared.job.Job.{Job}
use Rattle.trick_model.specs.Acceptance.{AreIndependent, IsFine, IsOrderedBefore, Orders}
use Rattle.trick_model.specs.Order.{is_below, is_of_class, key, precedes, rank}
use Rattle.trick_model.specs.Plan.{Plan, is_on_scheduled, job_at, thread_of}
use Rattle.trick_model.specs.PlanOf.{plan_of}
use Rattle.trick_model.specs.Time.{due_of}
use Rattle.trick_model.specs.declared.depends.Depends.{Depends}
use Rattle.trick_model.specs.declared.flags.Flags.{Flags}
use Rattle.trick_model.specs.declared.plan.Plan.{Plan as PlanValue}
use Rattle.trick_race.proofs.FixedPoint.{of_read, of_write, to_read, to_write}
use Rattle.trick_race.proofs.Firsts.{read_at}
use Rattle.trick_access.specs.Accesses.{no_access}
use Rattle.trick_race.proofs.Merging.{both}
use Rattle.trick_race.specs.Accesses.{AreAccesses, AreSeparate, IsInOrderBoth}
use Rattle.trick_race.specs.Racers.{IsRaceAt, IsRacer}

-- ---- when a scheduled job is due

scheduled_times : (c : Class) (job : Job) → IsTrue (rank c == rank class.Scheduled) → IsTrue (has_right_times c job)
    → IsTrue (is_scheduled_right job)
scheduled_times class.DefaultData job h right = cc
scheduled_times class.Initialization job h right = cc
scheduled_times class.Scheduled job h right = right
scheduled_times class.TopOfFrame job h right = cc
scheduled_times class.EndOfFrame job h right = cc
scheduled_times class.Freeze job h right = cc
scheduled_times class.Unfreeze job h right = cc
scheduled_times class.Checkpoint job h right = cc
scheduled_times class.Restart job h right = cc
scheduled_times class.Shutdown job h right = cc

all_at : (f : Job → Bool) (jobs : List Job) (k : ℕ) → IsTrue (list_all f jobs) → k < length jobs
    → IsTrue (f (job_at jobs k))
all_at f [] k h there = absurd (omega arith)
all_at f (job ∷ jobs) zero h there = first_holds (f job) _ h
all_at f (job ∷ jobs) (suc k) h there = all_at f jobs k (second_holds (f job) _ h) (omega arith)

pub due_in_range : (plan : PlanValue) (flags : Flags) (k : ℕ) → IsRacer (plan_of plan) k
    → IsInRange (due_of (plan_of plan) flags k)
due_in_range plan flags k racer =
    let jobs = plan.program.jobs in
    let job = job_at jobs k in
    let right = scheduled_times job.class job racer.scheduled
    (all_at (λ job. has_right_times job.class job) jobs k plan.program.right_times racer.there) in
    let rest = second_holds (nat_le 1 job.cycle) _ right in
    let times = second_holds (nat_le job.cycle tic_limit) _ rest in
    record {
      cycle_positive = leb-true _ _ (first_holds (nat_le 1 job.cycle) _ right);
      start_in_range = leb-true _ _ (first_holds (nat_le job.start tic_limit) _ times);
      cycle_in_range = leb-true _ _ (first_holds (nat_le job.cycle tic_limit) _ rest);
      stop_in_range = leb-true _ _ (second_holds (nat_le job.start tic_limit) _ times);
    }

-- ---- what two jobs may read and write

pub in_order_both : (cells : ℕ) (p : Plan) (accesses : List Access) (k : ℕ) (x : Access) → AreAccesses cells p accesses
    → k < length p.jobs
    → x ≡ get_or accesses k x → IsInOrderBoth cells x
in_order_both cells p accesses k x are there is =
    let many = are.many in
    let here : get_or accesses k no_access ≡ x = read_at accesses k no_access x (omega arith) ∙ sym is in
    subst (IsInOrderBoth cells) here (record {
      reads = (are.reads k there).sorted;
      writes =
          (are.writes k there).sorted;
    })

pub separate_is : (cells : ℕ) (p : Plan) (accesses : List Access) (a b : ℕ) (x y : Access) (r : Bool)
    → AreAccesses cells p accesses
    → a < length p.jobs → b < length p.jobs → x ≡ get_or accesses a x → y ≡ get_or accesses b y
    → IsTrue r ↔ AreSeparate x y → IsTrue r ↔ AreIndependent p a b
separate_is cells p accesses a b x y r are a_there b_there x_is y_is told =
    let many = are.many in
    let first : get_or accesses a no_access ≡ x = read_at accesses a no_access x (omega arith) ∙ sym x_is in
    let second : get_or accesses b no_access ≡ y = read_at accesses b no_access y (omega arith) ∙ sym y_is in
    by_ranges (subst (λ q. IsTrue r ↔ AreSeparate q (get_or accesses b no_access)) (sym first)
    (subst (λ q. IsTrue r ↔ AreSeparate x q) (sym second) told))
  where
    by_ranges : IsTrue r ↔ AreSeparate (get_or accesses a no_access) (get_or accesses b no_access)
        → IsTrue r ↔ AreIndependent p a b
    by_ranges told = (
      (λ h. let separate = told.0 h in record {
        from = λ c w u. separate.from c (of_write cells p accesses are a c a_there w)
            (of_read cells p accesses are b c b_there u);
        to = λ c w u. separate.to c (of_write cells p accesses are b c b_there w)
            (of_read cells p accesses are a c a_there u);
        both = λ c w u. separate.both c (of_write cells p accesses are a c a_there w)
            (of_write cells p accesses are b c b_there u);
      }),
      λ independent. told.1 (record {
        from = λ c w u. independent.from c (to_write cells p accesses are a c a_there w)
            (to_read cells p accesses are b c b_there u);
        to = λ c w u. independent.to c (to_write cells p accesses are b c b_there w)
            (to_read cells p accesses are a c a_there u);
        both = λ c w u. independent.both c (to_write cells p accesses are a c a_there w)
            (to_write cells p accesses are b c b_there u);
      }),
    )

-- ---- whether two jobs race

pub fine_on_one : (p : Plan) (a b : ℕ) → thread_of p.jobs a ≡ thread_of p.jobs b → IsFine p a b
fine_on_one p a b same may = absurd (may.on_two_threads same)

pub fine_apart : (p : Plan) (a b : ℕ) → AreIndependent p a b → IsFine p a b
fine_apart p a b independent may tic shared = inl independent

pub fine_never : (p : Plan) (a b : ℕ) → ((tic : ℕ) → IsShared (due_of p p.jobs_on a) (due_of p p.jobs_on b) tic → ⊥)
    → IsFine p a b
fine_never p a b never may tic shared = absurd (never tic shared)

pub fine_ordered : (p : Plan) (a b : ℕ) → IsOrderedBefore p a b → IsFine p a b
fine_ordered p a b ordered may tic shared = inr ordered

pub race_at : (p : Plan) (a b tic : ℕ) → IsRacer p a → IsRacer p b → IsTrue (precedes p.jobs a b)
    → thread_of p.jobs a ≢ thread_of p.jobs b
    → (AreIndependent p a b → ⊥) → (IsOrderedBefore p a b → ⊥)
    → IsLeast (IsShared (due_of p p.jobs_on a) (due_of p p.jobs_on b)) tic → IsRaceAt p a b tic
race_at p a b tic first second in_order threads touch unordered least = record {
  races = λ fine. elim (fine (record {
    in_order = in_order;
    first_scheduled = both (is_of_class p.jobs class.Scheduled a)
        (is_on_scheduled p.jobs p.threads a) first.scheduled first.in_tics;
    second_scheduled = both (is_of_class p.jobs class.Scheduled b)
        (is_on_scheduled p.jobs p.threads b) second.scheduled second.in_tics;
    on_two_threads = threads;
  }) tic least.0) [
    | inl independent ↦ touch independent
    | inr ordered ↦ unordered ordered
  ];
  first_tic = least;
}

-- ---- whether a pair orders two jobs

covers_along : (c c' a a' b b' : Due) → c ≡ c' → a ≡ a' → b ≡ b' → Covers c a b → Covers c' a' b'
covers_along c c' a a' b b' ec ea eb h = subst (λ d. Covers d a' b') ec
    (subst (λ d. Covers c d b') ea (subst (λ d. Covers c a d) eb h))

not_before : (p : Plan) (k m : ℕ) (x y : Job) (below : Bool) → x ≡ job_at p.jobs k → y ≡ job_at p.jobs m
    → below ≡ is_below (key x) (key y) → below ≡ false
    → IsTrue (precedes p.jobs k m) → ⊥
not_before p k m x y below x_is y_is told out h =
    let e : below ≡ precedes p.jobs k m = told ∙ ap (λ j. is_below (key j) (key y)) x_is
    ∙ ap (λ j. is_below (key (job_at p.jobs k)) (key j)) y_is in
    let yes_and_no = sym h ∙ sym e ∙ out in cc

pub orders_is : (p : Plan) (a b : ℕ) (pair : Depends) (x y u v : Job) (below above : Bool) (d one other t : Due)
    (r : Bool)
    → x ≡ job_at p.jobs (pair.depended).0 → y ≡ job_at p.jobs a → u ≡ job_at p.jobs (pair.target).0
    → v ≡ job_at p.jobs b
    → x.thread ≡ y.thread → u.thread ≡ v.thread
    → below ≡ is_below (key x) (key y) → below ≡ false → above ≡ is_below (key v) (key u) → above ≡ false
    → d ≡ due_of p p.jobs_on (pair.depended).0 → one ≡ due_of p p.jobs_on a → other ≡ due_of p p.jobs_on b
    → t ≡ due_of p p.jobs_on (pair.target).0
    → Covers d one other → IsTrue r ↔ Covers t one other → IsTrue r ↔ Orders p a b pair
orders_is p a b pair x y u v below above d one other t r x_is y_is u_is v_is on_first on_second below_is below_out
    above_is above_out d_is one_is other_is t_is covers told = (
      (λ h. record {
        on_first = ap (λ (j : Job). j.thread) (sym x_is) ∙ on_first ∙ ap (λ (j : Job). j.thread) y_is;
        on_second = ap (λ (j : Job). j.thread) (sym u_is) ∙ on_second ∙ ap (λ (j : Job). j.thread) v_is;
        not_below = not_before p (pair.depended).0 a x y below x_is y_is below_is below_out;
        not_above = not_before p b (pair.target).0 v u above v_is u_is above_is above_out;
        depended_due = covers_along d _ one _ other _ d_is one_is other_is covers;
        target_due = covers_along t _ one _ other _ t_is one_is other_is (told.0 h);
      }),
      λ orders. told.1 (covers_along _ t _ one _ other (sym t_is) (sym one_is) (sym other_is) orders.target_due),
    )

pub orders_not : (p : Plan) (a b : ℕ) (pair : Depends) (d one other : Due) (r : Bool)
    → d ≡ due_of p p.jobs_on (pair.depended).0 → one ≡ due_of p p.jobs_on a → other ≡ due_of p p.jobs_on b
    → r ≡ false → IsTrue r ↔ Covers d one other → IsTrue r ↔ Orders p a b pair
orders_not p a b pair d one other r d_is one_is other_is out told = (
  (λ h. let yes_and_no = sym h ∙ out in cc),
  λ orders. told.1 (covers_along _ d _ one _ other (sym d_is) (sym one_is) (sym other_is) orders.depended_due),
)

pub least_along : (p : Plan) (a b tic : ℕ) (one other : Due) → one ≡ due_of p p.jobs_on a → other ≡ due_of p p.jobs_on b
    → IsLeast (IsShared one other) tic → IsLeast (IsShared (due_of p p.jobs_on a) (due_of p p.jobs_on b)) tic
least_along p a b tic one other one_is other_is h =
    subst (λ d. IsLeast (IsShared d (due_of p p.jobs_on b)) tic) one_is
    (subst (λ d. IsLeast (IsShared one d) tic) other_is h)

pub differ_along : (p : Plan) (a b : ℕ) (x y : Job) → x ≡ job_at p.jobs a → y ≡ job_at p.jobs b → x.thread ≢ y.thread
    → thread_of p.jobs a ≢ thread_of p.jobs b
differ_along p a b x y x_is y_is differ same =
    differ (ap (λ (j : Job). j.thread) x_is ∙ same ∙ sym (ap (λ (j : Job). j.thread) y_is))

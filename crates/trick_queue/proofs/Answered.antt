-- What queues that keep their jobs' next tics answer.
use Rattle.std.proofs.Common.{◌≡◌, ℕ, zero, suc, ◌<◌, ◌≤◌, ◌^◌, ◌||◌, ◌↔◌, List, [], ◌∷◌, ◌++◌, length, get_or, map, Bool, true, false, IsTrue, Option, Some, None, refl, sym, ◌∙◌, ap, subst, take, arith, inl, inr}
use Rattle.std.proofs.Math.Seq.{take-length, take-suc}
use Rattle.std.proofs.lemmas.List.{map-append}
use Rattle.std.specs.Prelude.{cond, filter}
use Rattle.trick_cycle.specs.Due.{IsDue, IsInRange, is_due_at}
use Rattle.trick_cycle.specs.Least.{FindsLeast}
use Rattle.trick_cycle.specs.declared.Due.{Due}
use Rattle.trick_lang.specs.declared.job.Job.{Job}
use Rattle.trick_lang.specs.declared.job.JobId.{JobId}
use Rattle.trick_model.proofs.Lengths.{ids_length}
use Rattle.trick_model.specs.Laws.{is_among}
use Rattle.trick_model.specs.Order.{jobs_at}
use Rattle.trick_model.specs.PlanOf.{plan_of}
use Rattle.trick_model.specs.Valid.{ids}
use Rattle.trick_model.specs.declared.flags.Flags.{Flags}
use Rattle.trick_model.specs.declared.plan.Plan.{Plan as PlanValue}
use Rattle.trick_queue.proofs.Grouping.{filter_push, same_is, true≢false}
use Rattle.trick_queue.proofs.Merged.{among_times}
use Rattle.trick_queue.proofs.Orders.{queue_due}
use Rattle.trick_queue.proofs.Queued.{all_scheduled, ids_at, times_in_range}
use Rattle.trick_queue.proofs.Trees.{below_or}
use Rattle.trick_queue.specs.Calendar.{FindsLeastOf, no_times, times_in}
use Rattle.trick_queue.specs.Groups.{AreGroups, are_same, below, is_one_of, times_by, times_of}
use Rattle.trick_queue.specs.Merged.{places_in, times_with}
use Rattle.trick_queue.specs.Line.{id_at, no_id, queue_of, times_at}
use Rattle.trick_queue.specs.Queue.{IsBusy, IsFor, QueuesView}
use Rattle.trick_queue.specs.Tree.{never}
use Rattle.trick_queue.specs.declared.group.Group.{Group}

-- ---- the next tic

pub not_due_at : (d : Due) (t : ℕ) → ((d : Due) (t : ℕ) → IsTrue (is_due_at d t) → IsDue d t) → (IsDue d t → ⊥) → is_due_at d t ≡ false
not_due_at d t exact not_then = by_test (is_due_at d t) refl
  where
    by_test : (b : Bool) → is_due_at d t ≡ b → is_due_at d t ≡ false
    by_test true e = absurd (not_then (exact d t e))
    by_test false e = e

pub filter_none : (test : ℕ → Bool) (xs : List ℕ) → ((k : ℕ) → k < length xs → test (get_or xs k 0) ≡ false) → filter test xs ≡ []
filter_none test [] none = refl
filter_none test (x ∷ xs) none =
    ap (λ b. cond b (x ∷ filter test xs) (filter test xs)) (none zero (omega arith)) ∙ filter_none test xs (λ k less. none (suc k) (omega arith))

filter_some : (test : ℕ → Bool) (xs : List ℕ) (k : ℕ) → k < length xs → test (get_or xs k 0) ≡ true → filter test xs ≡ [] → ⊥
filter_some test [] k less is none = absurd (omega arith)
filter_some test (x ∷ xs) zero less is none =
    let some : x ∷ filter test xs ≡ [] = ap (λ b. cond b (x ∷ filter test xs) (filter test xs)) (sym is) ∙ none in cc
filter_some test (x ∷ xs) (suc k) less is none = by_test (filter_some test xs k (omega arith) is) (test x) none
  where
    by_test : (filter test xs ≡ [] → ⊥) → (b : Bool) → cond b (x ∷ filter test xs) (filter test xs) ≡ [] → ⊥
    by_test others true some = cc
    by_test others false rest = others rest

-- ---- queues

due_then : (plan : PlanValue) (on : Flags) (q : QueuesView) (t : ℕ) → IsFor plan q
    → filter (λ k. is_due_at (times_at plan.program.jobs k) t) (ids q.jobs) ≡ jobs_at (plan_of plan) on t
due_then plan on q t own = ap (filter (λ k. is_due_at (times_at plan.program.jobs k) t)) own.jobs ∙ queue_due plan on t

-- the group of a job
group_at : (x : Due) (ds : List Due) → is_one_of x ds ≡ true → (at : ℕ) × (at < length ds) × ((none : Due) → get_or ds at none ≡ x)
group_at x [] among = absurd (true≢false (sym among))
group_at x (d ∷ ds) among = by_test (are_same x d) refl among (group_at x ds)
  where
    by_test : (b : Bool) → are_same x d ≡ b → (b || is_one_of x ds) ≡ true → (is_one_of x ds ≡ true → (at : ℕ) × (at < length ds) × ((none : Due) → get_or ds at none ≡ x))
        → (at : ℕ) × (at < length (d ∷ ds)) × ((none : Due) → get_or (d ∷ ds) at none ≡ x)
    by_test true here among others = (0, omega arith, λ none. sym (same_is x d here))
    by_test false here among others = let found = others among in (suc found.0, omega (arith, found.1), found.2)

-- where no job is due
idle : (plan : PlanValue) (on : Flags) (q : QueuesView) (t : ℕ) → ((d : Due) (t : ℕ) → IsTrue (is_due_at d t) → IsDue d t) → IsFor plan q
    → ((k : ℕ) → k < length q.jobs → IsDue (times_of plan.program.jobs q.jobs k) t → ⊥) → jobs_at (plan_of plan) on t ≡ []
idle plan on q t exact own none =
    let test = λ (k : ℕ). is_due_at (times_at plan.program.jobs k) t in
    sym (due_then plan on q t own)
    ∙ filter_none test (ids q.jobs) (λ k less.
    let there : k < length q.jobs = omega (arith, ids_length q.jobs) in
    ap test (ids_at q.jobs k no_id there) ∙ not_due_at (times_of plan.program.jobs q.jobs k) t exact (none k there))

-- no job is due before the next tic of its group
not_before : (plan : PlanValue) (q : QueuesView) (t k : ℕ) → IsFor plan q → q.from ≤ t → k < length q.jobs
    → ((at : ℕ) → at < length q.tics → t < get_or q.tics at never) → IsDue (times_of plan.program.jobs q.jobs k) t → ⊥
not_before plan q t k own from there all due =
    let found = group_at (times_of plan.program.jobs q.jobs k) (times_by q.groups) (own.groups.all k there) in
    let as_many : length q.tics ≡ length (times_by q.groups) = own.next.as_many in
    let next = own.next.next found.0 found.1 in
    next.none_before t from (all found.0 (omega (arith, found.1, as_many))) (subst (λ (d : Due). IsDue d t) (sym (found.2 no_times)) due)

pub none_before : (plan : PlanValue) (on : Flags) (q : QueuesView) (least : ℕ) → ((d : Due) (t : ℕ) → IsTrue (is_due_at d t) → IsDue d t)
    → ((at : ℕ) → at < length q.tics → least ≤ get_or q.tics at never) → IsFor plan q → (i : ℕ) → i < least → IsBusy plan on q.from i → ⊥
none_before plan on q least exact all own i less busy =
    busy.some (idle plan on q i exact own (λ k there.
    not_before plan q i k own busy.not_passed there (λ at within. let le : least ≤ get_or q.tics at never = all at within in omega (arith, le, less))))

pub none_at_all : (plan : PlanValue) (on : Flags) (q : QueuesView) → ((d : Due) (t : ℕ) → IsTrue (is_due_at d t) → IsDue d t)
    → ((at : ℕ) → at < length q.tics → never ≤ get_or q.tics at never) → IsFor plan q → (i : ℕ) → IsBusy plan on q.from i → ⊥
none_at_all plan on q exact all own i busy = elim (below_or i never) [
  | inl less ↦ none_before plan on q never exact all own i less busy
  | inr past ↦ busy.some (idle plan on q i exact own (λ k there due.
      let right : IsInRange (times_of plan.program.jobs q.jobs k) = times_in_range plan.program.jobs (id_at q.jobs k) plan.program.right_times (all_scheduled (plan_of plan) q.jobs own.jobs k there) in
      let stop : (times_of plan.program.jobs q.jobs k).stop ≤ 10 ^ 15 = right.stop_in_range in
      let over : i ≤ (times_of plan.program.jobs q.jobs k).stop = due.not_over in
      absurd (omega arith)))
]

busy_there : (plan : PlanValue) (on : Flags) (q : QueuesView) (least k : ℕ) → ((d : Due) (t : ℕ) → IsDue d t → IsTrue (is_due_at d t))
    → IsFor plan q → k < length q.jobs → q.from ≤ least → IsDue (times_of plan.program.jobs q.jobs k) least → IsBusy plan on q.from least
busy_there plan on q least k exact own there from due = record {
  not_passed = from;
  some = λ none. filter_some (λ k. is_due_at (times_at plan.program.jobs k) least) (ids q.jobs) k (omega (arith, ids_length q.jobs))
      (ap (λ i. is_due_at (times_at plan.program.jobs i) least) (ids_at q.jobs k no_id there) ∙ exact (times_of plan.program.jobs q.jobs k) least due)
      (due_then plan on q least own ∙ none);
}

pub found : (plan : PlanValue) (on : Flags) (q : QueuesView) (least at : ℕ) → ((d : Due) (t : ℕ) → IsDue d t → IsTrue (is_due_at d t))
    → least < never → at < length q.tics → get_or q.tics at never ≡ least → IsFor plan q → IsBusy plan on q.from least
found plan on q least at exact less there is own =
    let as_many : length q.tics ≡ length (times_by q.groups) = own.next.as_many in
    let within : at < length (times_by q.groups) = omega (arith, there, as_many) in
    let used = own.have at no_times within in
    elim ((own.next.next at within).due) [
      | inl e ↦ absurd (omega (arith, e, is, less))
      | inr due ↦ busy_there plan on q least (used.0) exact own used.1 (subst (λ n. q.from ≤ n) is due.0)
          (subst (λ (d : Due). IsDue d least) (sym used.2) (subst (IsDue (times_in (times_by q.groups) at)) is due.1))
    ]

-- ---- the due jobs

all_places : (jobs : List Job) (all : List JobId) → map (id_at all) (below (length all)) ≡ ids all
all_places jobs all = places_of all (length all) (omega arith) ∙ ap ids (take-length all)
  where
    places_of : (all : List JobId) (n : ℕ) → n ≤ length all → map (id_at all) (below n) ≡ ids (take n all)
    places_of all zero le = refl
    places_of all (suc n) le =
        map-append (id_at all) (below n) (n ∷ [])
        ∙ ap (λ l. l ++ id_at all n ∷ []) (places_of all n (omega arith))
        ∙ sym (ap ids (take-suc all n no_id (omega arith)) ∙ map-append (λ (j : JobId). j.0) (take n all) (get_or all n no_id ∷ []))

filter_map_ : (test : ℕ → Bool) (f : ℕ → ℕ) (xs : List ℕ) → filter test (map f xs) ≡ map f (filter (λ k. test (f k)) xs)
filter_map_ test f [] = refl
filter_map_ test f (x ∷ xs) = by_test (test (f x)) (filter_map_ test f xs)
  where
    by_test : (b : Bool) → filter test (map f xs) ≡ map f (filter (λ k. test (f k)) xs)
        → cond b (f x ∷ filter test (map f xs)) (filter test (map f xs)) ≡ map f (cond b (x ∷ filter (λ k. test (f k)) xs) (filter (λ k. test (f k)) xs))
    by_test true others = ap (λ l. f x ∷ l) others
    by_test false others = others

filter_below : (p q : ℕ → Bool) (end : ℕ) → ((k : ℕ) → k < end → p k ≡ q k) → filter p (below end) ≡ filter q (below end)
filter_below p q zero same = refl
filter_below p q (suc n) same =
    filter_push p (below n) n
    ∙ ap (λ l. l ++ cond (p n) (n ∷ []) []) (filter_below p q n (λ k less. same k (omega (arith, less))))
    ∙ ap (λ b. filter q (below n) ++ cond b (n ∷ []) []) (same n (omega arith))
    ∙ sym (filter_push q (below n) n)

-- the due jobs of a tic are those in the groups that are due
pub due_are : (plan : PlanValue) (on : Flags) (jobs : List JobId) (groups : List Group) (tic : ℕ) (due : List ℕ) → ids jobs ≡ queue_of (plan_of plan)
    → AreGroups plan.program.jobs jobs (length jobs) groups
    → ((at : ℕ) → at < length (times_by groups) → is_due_at (times_in (times_by groups) at) tic ≡ is_among at due)
    → ((at : ℕ) → is_among at due ≡ true → at < length (times_by groups))
    → map (id_at jobs) (places_in plan.program.jobs jobs groups due) ≡ jobs_at (plan_of plan) on tic
due_are plan on jobs groups tic due is are due_is there =
    let pj = plan.program.jobs in
    let test = λ (k : ℕ). is_due_at (times_at pj k) tic in
    sym (
    sym (queue_due plan on tic)
    ∙ ap (filter test) (sym is ∙ sym (all_places pj jobs))
    ∙ filter_map_ test (id_at jobs) (below (length jobs))
    ∙ ap (map (id_at jobs)) (filter_below (λ k. test (id_at jobs k)) (λ k. is_one_of (times_of pj jobs k) (times_with groups due)) (length jobs) (λ k less.
    let found = group_at (times_of pj jobs k) (times_by groups) (are.all k less) in
    ap (λ (d : Due). is_due_at d tic) (sym (found.2 no_times))
    ∙ due_is found.0 found.1
    ∙ among_times groups due found.0 found.1 are.apart there
    ∙ ap (λ (d : Due). is_one_of d (times_with groups due)) (found.2 no_times))))

-- ---- the least tic

pub least_found : (plan : PlanValue) (on : Flags) (q : QueuesView) (result : Option ℕ) → ((d : Due) (t : ℕ) → IsTrue (is_due_at d t) ↔ IsDue d t) → IsFor plan q
    → FindsLeastOf q.tics result → FindsLeast (IsBusy plan on q.from) result
least_found plan on q None exact own finds = λ i busy. none_at_all plan on q (λ d t. (exact d t).0) finds own i busy
least_found plan on q (Some least) exact own finds =
    (found plan on q least (finds.2.0) (λ d t. (exact d t).1) finds.0 finds.2.1 finds.2.2 own, λ i less busy. none_before plan on q least (λ d t. (exact d t).0) finds.1 own i less busy)

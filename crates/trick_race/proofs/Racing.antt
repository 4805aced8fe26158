-- Jobs that may race, in key order.
use Rattle.std.proofs.Common.{◌≡◌, ℕ, zero, suc, ◌+◌, ◌<◌, ◌≤◌, Bool, true, false, ◌||◌, ◌==◌, nat_lt, ◌⊎◌, inl, inr, IsTrue, List, [], ◌∷◌, ◌++◌, length, get_or, cond, take, refl, sym, ap, subst, ◌∙◌, arith}
use Rattle.std.proofs.lemmas.Bool.{cases_lt, cases_eq, or_left, or_right, eq-eqb, eqb-true}
use Rattle.std.proofs.lemmas.Bool.Decides.{nat_tests}
use Rattle.std.specs.List.{filter}
use Rattle.trick_base.proofs.Truths.{first_holds, second_holds}
use Rattle.trick_lang.specs.declared.class.Class.TheVariants as class
use Rattle.trick_lang.specs.declared.job.Job.{Job}
use Rattle.trick_lang.specs.declared.job.JobId.{JobId}
use Rattle.trick_model.proofs.Lengths.{ids_length}
use Rattle.trick_model.specs.Acceptance.{IsFine, MayRace}
use Rattle.trick_model.specs.Laws.{AreInKeyOrder, AreJobs, IsBefore, KeyOrderIsOne, is_among}
use Rattle.trick_model.specs.Order.{is_below, is_of_class, jobs_in, key, precedes}
use Rattle.trick_model.specs.Plan.{Plan, is_on_scheduled, job_at, job_numbers, numbers_from}
use Rattle.trick_model.specs.PlanOf.{plan_of}
use Rattle.trick_model.specs.Valid.{ids}
use Rattle.trick_model.specs.declared.plan.Plan.{Plan as PlanValue}
use Rattle.trick_race.proofs.Merging.{either}
use Rattle.trick_race.specs.Racers.{AreRacers, IsFineAt, IsFirstOther, IsRacer, racer_at}
use Rattle.trick_race.specs.Refusals.{HaveNoRace, IsRace}

-- ---- members of lists of numbers

among_at : (ks : List ℕ) (i : ℕ) → i < length ks → IsTrue (is_among (get_or ks i 0) ks)
among_at [] i there = absurd (omega arith)
among_at (k ∷ ks) zero there = or_left (k == k) _ (eq-eqb k k refl)
among_at (k ∷ ks) (suc i) there = or_right (k == get_or ks i 0) _ (among_at ks i (omega arith))

at_among : (ks : List ℕ) (k : ℕ) → IsTrue (is_among k ks) → (i : ℕ) × (i < length ks) × (get_or ks i 0 ≡ k)
at_among [] k h = cc
at_among (j ∷ js) k h = elim (either (j == k) _ h) [
  | inl here ↦ (0, omega arith, eqb-true j k here)
  | inr rest ↦ let found = at_among js k rest in let low = found.1 in (suc found.0, omega arith, found.2)
]

to_filter : (f : ℕ → Bool) (ks : List ℕ) (k : ℕ) → IsTrue (f k) → IsTrue (is_among k ks)
    → IsTrue (is_among k (filter f ks))
to_filter f [] k passes h = h
to_filter f (j ∷ js) k passes h = by_test (f j) refl (to_filter f js k passes) (either (j == k) _ h)
  where
    by_test : (b : Bool) → f j ≡ b → (IsTrue (is_among k js) → IsTrue (is_among k (filter f js)))
        → IsTrue (j == k) ⊎ IsTrue (is_among k js)
        → IsTrue (is_among k (cond b (j ∷ filter f js) (filter f js)))
    by_test true e rest (inl here) = or_left (j == k) _ here
    by_test true e rest (inr further) = or_right (j == k) _ (rest further)
    by_test false e rest (inl here) = let no : true ≡ false = sym passes ∙ ap f (sym (eqb-true j k here)) ∙ e in cc
    by_test false e rest (inr further) = rest further

of_filter : (f : ℕ → Bool) (ks : List ℕ) (k : ℕ) → IsTrue (is_among k (filter f ks))
    → IsTrue (f k) × IsTrue (is_among k ks)
of_filter f [] k h = cc
of_filter f (j ∷ js) k h = by_test (f j) refl (of_filter f js k) h
  where
    by_test : (b : Bool) → f j ≡ b → (IsTrue (is_among k (filter f js)) → IsTrue (f k) × IsTrue (is_among k js))
        → IsTrue (is_among k (cond b (j ∷ filter f js) (filter f js)))
        → IsTrue (f k) × IsTrue ((j == k) || is_among k js)
    by_test true e rest h = elim (either (j == k) _ h) [
      | inl here ↦ (subst (λ n. IsTrue (f n)) (eqb-true j k here) e, or_left (j == k) _ here)
      | inr further ↦ let found = rest further in (found.0, or_right (j == k) _ found.1)
    ]
    by_test false e rest h = let found = rest h in (found.0, or_right (j == k) _ found.1)

-- what is among numbers in a row
record InRow (n m k : ℕ) : Type 0 where
  from : n ≤ k
  below : k < n + m

of_numbers : {A : Type 0} (n : ℕ) (xs : List A) (k : ℕ) → IsTrue (is_among k (numbers_from n xs))
    → InRow n (length xs) k
of_numbers n [] k h = cc
of_numbers n (x ∷ xs) k h = elim (either (n == k) _ h) [
  | inl here ↦ let same = eqb-true n k here in record { from = omega arith; below = omega arith }
  | inr rest ↦ let row = of_numbers (suc n) xs k rest in let low = row.from in let high = row.below in
      record { from = omega arith; below = omega arith }
]

to_numbers : {A : Type 0} (n : ℕ) (xs : List A) (k : ℕ) → InRow n (length xs) k
    → IsTrue (is_among k (numbers_from n xs))
to_numbers n [] k row = let low = row.from in let high = row.below in absurd (omega arith)
to_numbers n (x ∷ xs) k row = elim (cases_eq n k) [
  | inl same ↦ or_left (n == k) _ (eq-eqb n k same)
  | inr other ↦ let low = row.from in let high = row.below in
      or_right (n == k) _ (to_numbers (suc n) xs k (record { from = omega arith; below = omega arith }))
]

-- ---- key order

are_jobs : (jobs : List Job) (g : ℕ → Bool) (n : ℕ) (xs : List Job) → n + length xs ≡ length jobs
    → AreJobs jobs (filter g (numbers_from n xs))
are_jobs jobs g n [] size = tt
are_jobs jobs g n (x ∷ xs) size = by_test (g n) (are_jobs jobs g (suc n) xs (omega arith))
  where
    not_again : (b : Bool) → is_among n (filter g (numbers_from (suc n) xs)) ≡ b → b ≡ false
    not_again true e = let row = of_numbers (suc n) xs n (of_filter g (numbers_from (suc n) xs) n e).1 in let low =
        row.from in absurd (omega arith)
    not_again false e = refl

    by_test : (b : Bool) → AreJobs jobs (filter g (numbers_from (suc n) xs))
        → AreJobs jobs (cond b (n ∷ filter g (numbers_from (suc n) xs)) (filter g (numbers_from (suc n) xs)))
    by_test true rest = (omega arith, not_again (is_among n (filter g (numbers_from (suc n) xs))) refl, rest)
    by_test false rest = rest

before_filter : (f : ℕ → Bool) (jobs : List Job) (k : ℕ) (ks : List ℕ) → IsBefore jobs k ks
    → IsBefore jobs k (filter f ks)
before_filter f jobs k [] before = tt
before_filter f jobs k (j ∷ js) before = by_test (f j) (before_filter f jobs k js before.1)
  where
    by_test : (b : Bool) → IsBefore jobs k (filter f js) → IsBefore jobs k (cond b (j ∷ filter f js) (filter f js))
    by_test true rest = (before.0, rest)
    by_test false rest = rest

order_filter : (f : ℕ → Bool) (jobs : List Job) (ks : List ℕ) → AreInKeyOrder jobs ks → AreInKeyOrder jobs (filter f ks)
order_filter f jobs [] ordered = tt
order_filter f jobs (k ∷ ks) ordered = by_test (f k) (before_filter f jobs k ks ordered.0)
    (order_filter f jobs ks ordered.1)
  where
    by_test : (b : Bool) → IsBefore jobs k (filter f ks) → AreInKeyOrder jobs (filter f ks)
        → AreInKeyOrder jobs (cond b (k ∷ filter f ks) (filter f ks))
    by_test true before rest = (before, rest)
    by_test false before rest = rest

before_at : (jobs : List Job) (k : ℕ) (ks : List ℕ) (j : ℕ) → IsBefore jobs k ks → j < length ks
    → IsTrue (precedes jobs k (get_or ks j 0))
before_at jobs k [] j before there = absurd (omega arith)
before_at jobs k (n ∷ ns) zero before there = before.0
before_at jobs k (n ∷ ns) (suc j) before there = before_at jobs k ns j before.1 (omega arith)

order_at : (jobs : List Job) (ks : List ℕ) (i j : ℕ) → AreInKeyOrder jobs ks → i < j → j < length ks
    → IsTrue (precedes jobs (get_or ks i 0) (get_or ks j 0))
order_at jobs [] i j ordered less there = absurd (omega arith)
order_at jobs (k ∷ ks) i zero ordered less there = absurd (omega arith)
order_at jobs (k ∷ ks) zero (suc j) ordered less there = before_at jobs k ks j ordered.0 (omega arith)
order_at jobs (k ∷ ks) (suc i) (suc j) ordered less there = order_at jobs ks i j ordered.1 (omega arith) (omega arith)

below_once : (xs ys : List ℕ) → IsTrue (is_below xs ys) → IsTrue (is_below ys xs) → ⊥
below_once [] ys h g = cc
below_once (x ∷ xs) [] h g = cc
below_once (x ∷ xs) (y ∷ ys) h g = elim (either (nat_lt x y) _ h) [
  | inl less ↦ elim (either (nat_lt y x) _ g) [
    | inl more ↦ grind (arith, nat_tests, less, more)
    | inr rest ↦ let same = first_holds (y == x) _ rest in grind (arith, nat_tests, less, same)
  ]
  | inr first ↦ elim (either (nat_lt y x) _ g) [
    | inl more ↦ let same = first_holds (x == y) _ first in grind (arith, nat_tests, more, same)
    | inr rest ↦ below_once xs ys (second_holds (x == y) _ first) (second_holds (y == x) _ rest)
  ]
]

-- of two jobs one comes first
pub first_once : (jobs : List Job) (a b : ℕ) → IsTrue (precedes jobs a b) → IsTrue (precedes jobs b a) → ⊥
first_once jobs a b h g = below_once (key (job_at jobs a)) (key (job_at jobs b)) h g

-- ---- the queue of scheduled jobs

ids_at : (js : List JobId) (i : ℕ) (d : JobId) → i < length js → get_or (ids js) i 0 ≡ (get_or js i d).0
ids_at [] i d there = absurd (omega arith)
ids_at (j ∷ js) zero d there = refl
ids_at (j ∷ js) (suc i) d there = ids_at js i d (omega arith)

-- a job of the queue is there, and of its class
record IsQueued (jobs : List Job) (k : ℕ) : Type 0 where
  there : k < length jobs
  scheduled : IsTrue (is_of_class jobs class.Scheduled k)

of_queue : KeyOrderIsOne → (jobs : List Job) (k : ℕ) → IsTrue (is_among k (jobs_in jobs class.Scheduled))
    → IsQueued jobs k
of_queue law jobs k h =
    let chosen = filter (is_of_class jobs class.Scheduled) (job_numbers jobs) in
    let found = of_filter (is_of_class jobs class.Scheduled) (job_numbers jobs) k (law.same jobs chosen k ∙ h) in
    let row = of_numbers 0 jobs k found.1 in
    let high = row.below in
    record { there = omega arith; scheduled = found.0 }

to_queue : KeyOrderIsOne → (jobs : List Job) (k : ℕ) → IsQueued jobs k
    → IsTrue (is_among k (jobs_in jobs class.Scheduled))
to_queue law jobs k queued =
    let chosen = filter (is_of_class jobs class.Scheduled) (job_numbers jobs) in
    let there = queued.there in
    sym (law.same jobs chosen k) ∙ to_filter (is_of_class jobs class.Scheduled) (job_numbers jobs) k queued.scheduled
    (to_numbers 0 jobs k (record { from = omega arith; below = omega arith }))

-- ---- the racers

-- one job more of the queue
pub filter_more : (f : ℕ → Bool) (queue : List JobId) (i : ℕ) (d : JobId) → i < length queue
    → filter f (ids (take (i + 1) queue)) ≡ filter f (ids (take i queue)) ++ cond (f (get_or queue i d).0)
    ((get_or queue i d).0 ∷ []) []
filter_more f queue i d there = ap (λ n. filter f (ids (take n queue))) one ∙ next queue i there
  where
    one : i + 1 ≡ suc i
    one = omega arith

    next : (queue : List JobId) (i : ℕ) → i < length queue
        → filter f (ids (take (suc i) queue)) ≡ filter f (ids (take i queue)) ++ cond (f (get_or queue i d).0)
        ((get_or queue i d).0 ∷ []) []
    next [] i there = absurd (omega arith)
    next (q ∷ qs) zero there = refl
    next (q ∷ qs) (suc i) there = by_test (f q.0) (next qs i (omega arith))
      where
        by_test : (b : Bool) → filter f (ids (take (suc i) qs)) ≡ filter f (ids (take i qs)) ++ cond
            (f (get_or qs i d).0) ((get_or qs i d).0 ∷ []) []
            → cond b (q.0 ∷ filter f (ids (take (suc i) qs))) (filter f (ids (take (suc i) qs)))
            ≡ cond b (q.0 ∷ filter f (ids (take i qs))) (filter f (ids (take i qs))) ++ cond (f (get_or qs i d).0)
            ((get_or qs i d).0 ∷ []) []
        by_test true e = ap (λ ks. q.0 ∷ ks) e
        by_test false e = e

pub taken_all : (queue : List JobId) (i : ℕ) → length queue ≤ i → take i queue ≡ queue
taken_all [] zero past = refl
taken_all [] (suc i) past = refl
taken_all (q ∷ qs) zero past = absurd (omega arith)
taken_all (q ∷ qs) (suc i) past = ap (λ js. q ∷ js) (taken_all qs i (omega arith))

pub ids_push : (js : List JobId) (j : JobId) → ids (js ++ j ∷ []) ≡ ids js ++ j.0 ∷ []
ids_push [] j = refl
ids_push (k ∷ ks) j = ap (λ ns. k.0 ∷ ns) (ids_push ks j)

in_ids : (racers : List JobId) (i : ℕ) → i < length racers → i < length (ids racers)
in_ids racers i there = let size = ids_length racers in omega arith

racers_in_order : KeyOrderIsOne → (plan : PlanValue)
    → AreInKeyOrder plan.program.jobs (filter (is_on_scheduled plan.program.jobs plan.threads)
    (jobs_in plan.program.jobs class.Scheduled))
racers_in_order law plan = order_filter (is_on_scheduled plan.program.jobs plan.threads) plan.program.jobs
    (jobs_in plan.program.jobs class.Scheduled)
    (law.ordered plan (filter (is_of_class plan.program.jobs class.Scheduled) (job_numbers plan.program.jobs))
    (are_jobs plan.program.jobs (is_of_class plan.program.jobs class.Scheduled) 0 plan.program.jobs (omega arith)))

pub are_racers : KeyOrderIsOne → (plan : PlanValue) (racers : List JobId)
    → ids racers ≡ filter (is_on_scheduled plan.program.jobs plan.threads) (jobs_in plan.program.jobs class.Scheduled)
    → AreRacers (plan_of plan) racers
are_racers law plan racers e =
    let jobs = plan.program.jobs in
    let f : ℕ → Bool = is_on_scheduled plan.program.jobs plan.threads in
    let none : JobId = record { 0 = 0 } in
    record {
      each = λ i there.
          let among = subst (λ ks. IsTrue (is_among (get_or (ids racers) i 0) ks)) e
          (among_at (ids racers) i (in_ids racers i there)) in
          let found = of_filter f (jobs_in jobs class.Scheduled) (get_or (ids racers) i 0) among in
          let queued = of_queue law jobs (get_or (ids racers) i 0) found.1 in
          subst (IsRacer (plan_of plan)) (ids_at racers i none there)
          (record { there = queued.there; scheduled = queued.scheduled; in_tics = found.0 });
      every = λ k racer.
          let among = to_filter f (jobs_in jobs class.Scheduled) k racer.in_tics
          (to_queue law jobs k (record { there = racer.there; scheduled = racer.scheduled })) in
          let found = at_among (ids racers) k (subst (λ ks. IsTrue (is_among k ks)) (sym e) among) in
          let size = ids_length racers in
          let low = found.1 in
          let there : found.0 < length racers = omega arith in
          (found.0, there, sym (ids_at racers found.0 none there) ∙ found.2);
      rise = λ i j less there.
          let inner : i < length racers = omega arith in
          let ordered = order_at jobs (ids racers) i j
          (subst (AreInKeyOrder jobs) (sym e) (racers_in_order law plan)) less (in_ids racers j there) in
          subst (λ n. IsTrue (precedes jobs n (racer_at racers j))) (ids_at racers i none inner)
          (subst (λ n. IsTrue (precedes jobs (get_or (ids racers) i 0) n)) (ids_at racers j none there) ordered);
    }

-- ---- races by places

racer_first : (p : Plan) (a b : ℕ) → a < length p.jobs → MayRace p a b → IsRacer p a
racer_first p a b there may = record {
  there = there;
  scheduled = first_holds (is_of_class p.jobs class.Scheduled a) _ may.first_scheduled;
  in_tics = second_holds (is_of_class p.jobs class.Scheduled a) _ may.first_scheduled;
}

racer_second : (p : Plan) (a b : ℕ) → b < length p.jobs → MayRace p a b → IsRacer p b
racer_second p a b there may = record {
  there = there;
  scheduled = first_holds (is_of_class p.jobs class.Scheduled b) _ may.second_scheduled;
  in_tics = second_holds (is_of_class p.jobs class.Scheduled b) _ may.second_scheduled;
}

-- the place of a smaller key is before that of a larger one
place_before : (p : Plan) (racers : List JobId) (i j : ℕ) → AreRacers p racers → i < length racers
    → IsTrue (precedes p.jobs (racer_at racers i) (racer_at racers j)) → i < j
place_before p racers i j are there first = elim (cases_lt i j) [
  | inl less ↦ less
  | inr more ↦ elim (cases_eq i j) [
    | inl same ↦
        let here = subst (λ n. IsTrue (precedes p.jobs (racer_at racers i) (racer_at racers n))) (sym same) first in
        absurd (first_once p.jobs (racer_at racers i) (racer_at racers i) here here)
    | inr other ↦ absurd (first_once p.jobs (racer_at racers i) (racer_at racers j) first
        (are.rise j i (omega arith) there))
  ]
]

-- two jobs are fine where the places that they would race at are
fine_at : (p : Plan) (racers : List JobId) (a b : ℕ) → AreRacers p racers → a < length p.jobs → b < length p.jobs
    → ((i j : ℕ) → i < j → j < length racers → racer_at racers i ≡ a → racer_at racers j ≡ b
    → IsFine p (racer_at racers i) (racer_at racers j))
    → IsFine p a b
fine_at p racers a b are a_there b_there places may tic shared =
    let one = are.every a (racer_first p a b a_there may) in
    let two = are.every b (racer_second p a b b_there may) in
    let first : IsTrue (precedes p.jobs (racer_at racers one.0) (racer_at racers two.0)) =
    subst (λ n. IsTrue (precedes p.jobs n (racer_at racers two.0))) (sym one.2)
    (subst (λ n. IsTrue (precedes p.jobs a n)) (sym two.2) may.in_order) in
    let less = place_before p racers one.0 two.0 are one.1 first in
    let fine = places one.0 two.0 less two.1 one.2 two.2 in
    (subst (λ n. IsFine p a n) two.2 (subst (λ n. IsFine p n (racer_at racers two.0)) one.2 fine)) may tic shared

pub none_races : (p : Plan) (racers : List JobId) → AreRacers p racers
    → ((i : ℕ) → i < length racers → IsFineAt p racers i) → HaveNoRace p
none_races p racers are all a b a_there b_there =
    fine_at p racers a b are a_there b_there (λ i j less there _ _. all i (omega arith) j less there)

pub race_is : (p : Plan) (racers : List JobId) (i other tic : ℕ) → AreRacers p racers → i < length racers
    → ((k : ℕ) → k < i → IsFineAt p racers k) → IsFirstOther p racers i other tic
    → IsRace p (racer_at racers i) other tic
race_is p racers i other tic are there before found =
    let j = found.place.0 in
    let behind = found.place.1 in
    let at : racer_at racers j ≡ other = found.place.3 in
    let racer = are.each j found.place.2 in
    record {
      job_there = (are.each i there).there;
      other_there = subst (λ n. n < length p.jobs) at racer.there;
      races = found.race.races;
      jobs_before = λ a b a_there b_there less.
          fine_at p racers a b are a_there b_there (λ k m k_less m_there k_is m_is.
          before k (place_before p racers k i are (omega arith)
          (subst (λ n. IsTrue (precedes p.jobs n (racer_at racers i))) (sym k_is) less)) m k_less m_there);
      others_before = λ b b_there less. fine_at p racers (racer_at racers i) b are (are.each i there).there b_there
          (λ k m k_less m_there k_is m_is.
          subst (λ n. IsFine p n (racer_at racers m)) (sym k_is)
          (found.place.4 m
          (place_before p racers i m are there (subst (λ n. IsTrue (precedes p.jobs n (racer_at racers m))) k_is
          (are.rise k m k_less m_there)))
          (place_before p racers m j are m_there
          (subst (λ n. IsTrue (precedes p.jobs (racer_at racers m) n)) (sym at)
          (subst (λ n. IsTrue (precedes p.jobs n other)) (sym m_is) less)))));
      first_tic = found.race.first_tic;
    }

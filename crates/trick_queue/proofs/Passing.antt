-- A tic that is passed: job after job, and what then is known of the next tics.
use Rattle.std.proofs.Common.{◌≡◌, ◌≢◌, ℕ, zero, suc, ◌+◌, ◌-◌, ◌<◌, ◌≤◌, List, [], ◌∷◌, ◌++◌, length, get_or, set, take, Bool, true, false, sym, ◌∙◌, ap, subst, arith, inl, inr}
use Rattle.std.proofs.lemmas.List.{append-nil, length-append, get_or-set_same, get_or-set_other, length-set}
use Rattle.std.proofs.lemmas.List.Elements.{filter_more}
use Rattle.std.proofs.Math.Seq.{take-length}
use Rattle.std.specs.Prelude.{cond, filter}
use Rattle.trick_cycle.specs.Due.{is_due_at}
use Rattle.trick_cycle.specs.declared.Due.{Due}
use Rattle.trick_lang.specs.declared.job.Job.{Job}
use Rattle.trick_lang.specs.declared.job.JobId.{JobId}
use Rattle.trick_base.specs.Time.{tic_limit}
use Rattle.trick_model.proofs.Lengths.{ids_length}
use Rattle.trick_model.specs.Valid.{ids}
use Rattle.trick_queue.proofs.Queued.{ids_at, ids_more}
use Rattle.trick_queue.proofs.Trees.{below_or, same_or}
use Rattle.trick_queue.specs.Calendar.{IsNext}
use Rattle.trick_queue.specs.Line.{AreKnown, AreNext, IsKnown, IsPassed, id_at, no_id, times_at}
use Rattle.trick_queue.specs.Tree.{AreLater, IsFirst, never}

next_later : (d : Due) (tic n : ℕ) → tic ≤ tic_limit → IsNext d (tic + 1) n → tic < n
next_later d tic n in_range next = elim (next.due) [ inl e ↦ omega arith | inr h ↦ let le : tic + 1 ≤ n = h.0 in omega arith ]

ids_get : (all : List JobId) (place : ℕ) → place < length all → get_or (ids all) place 0 ≡ id_at all place
ids_get all place less = ids_at all place no_id less

-- the place that is set, and another
set_here : (tics : List ℕ) (place t k : ℕ) → place < length tics → k ≡ place → get_or (set tics place t) k never ≡ t
set_here tics place t k less e = ap (λ i. get_or (set tics place t) i never) e ∙ get_or-set_same tics place t never less

pub next_more : (pj : List Job) (jobs : List JobId) (tics : List ℕ) (from place t end : ℕ) → place < length tics
    → IsNext (times_at pj (id_at jobs place)) from t
    → ((k : ℕ) → k ≢ place → k < end → IsNext (times_at pj (id_at jobs k)) from (get_or tics k never))
    → AreNext pj jobs (set tics place t) from 0 end
next_more pj jobs tics from place t end less here others k first last = elim (same_or k place) [
  | inl e ↦
      subst (λ n. IsNext (times_at pj (id_at jobs k)) from n) (sym (set_here tics place t k less e))
      (subst (λ i. IsNext (times_at pj (id_at jobs i)) from t) (sym e) here)
  | inr ne ↦ subst (λ n. IsNext (times_at pj (id_at jobs k)) from n) (sym (get_or-set_other tics place k t never ne)) (others k ne last)
]

-- The jobs before this place are passed.
pub record IsPassing (pj : List Job) (jobs : List JobId) (tics : List ℕ) (tic passed : ℕ) (due : List JobId) : Type 0 where
  pub as_many : length tics ≡ length jobs
  pub next : AreNext pj jobs tics (tic + 1) 0 passed
  pub known : AreKnown pj jobs tics tic passed (length jobs)
  pub due_is : ids due ≡ filter (λ k. is_due_at (times_at pj k) tic) (take passed (ids jobs))
  pub few : length due ≤ passed
  pub bound : passed ≤ length jobs

pub passing_starts : (pj : List Job) (jobs : List JobId) (tics : List ℕ) (tic : ℕ) (due : List JobId) → length tics ≡ length jobs
    → AreKnown pj jobs tics tic 0 (length jobs) → due ≡ [] → IsPassing pj jobs tics tic 0 due
passing_starts pj jobs tics tic due as_many known empty = record {
  as_many = as_many;
  next = λ k first last. absurd (omega arith);
  known = known;
  due_is = ap ids empty;
  few = omega (arith, ap length empty);
  bound = omega arith;
}

-- jobs that are not due are left out
skip : (test : ℕ → Bool) (xs : List ℕ) (from n : ℕ) → from + n ≤ length xs → ((k : ℕ) → from ≤ k → k < from + n → test (get_or xs k 0) ≡ false)
    → filter test (take (from + n) xs) ≡ filter test (take from xs)
skip test xs from zero fits none = let e : from + zero ≡ from = omega arith in ap (λ i. filter test (take i xs)) e
skip test xs from (suc n) fits none =
    let e : from + suc n ≡ (from + n) + 1 = omega arith in
    ap (λ i. filter test (take i xs)) e
    ∙ filter_more test xs (from + n) 0 (omega arith)
    ∙ ap (λ b. filter test (take (from + n) xs) ++ cond b (get_or xs (from + n) 0 ∷ []) []) (none (from + n) (omega arith) (omega arith))
    ∙ append-nil (filter test (take (from + n) xs))
    ∙ skip test xs from n (omega arith) (λ k first last. none k first (omega arith))

skip_to : (test : ℕ → Bool) (xs : List ℕ) (from to : ℕ) → from ≤ to → to ≤ length xs → ((k : ℕ) → from ≤ k → k < to → test (get_or xs k 0) ≡ false)
    → filter test (take to xs) ≡ filter test (take from xs)
skip_to test xs from to le fits none =
    let e : to ≡ from + (to - from) = omega arith in
    ap (λ i. filter test (take i xs)) e ∙ skip test xs from (to - from) (omega arith) (λ k first last. none k first (omega arith))

-- the jobs between two places are not due, since their next tics are later
none_between : (pj : List Job) (jobs : List JobId) (tics : List ℕ) (tic passed to : ℕ) → to ≤ length jobs
    → AreKnown pj jobs tics tic passed (length jobs) → AreLater tics tic to
    → (k : ℕ) → passed ≤ k → k < to → is_due_at (times_at pj (get_or (ids jobs) k 0)) tic ≡ false
none_between pj jobs tics tic passed to fits known later k first last =
    let less : k < length jobs = omega arith in
    ap (λ i. is_due_at (times_at pj i) tic) (ids_get jobs k less) ∙ (known k first less (later k last)).not_due

one_more : (due : List JobId) (job : JobId) (b : Bool) (n : ℕ) → length due ≤ n → length (due ++ cond b (job ∷ []) []) ≤ n + 1
one_more due job true n few = omega (arith, length-append due (job ∷ []))
one_more due job false n few = omega (arith, length-append {A = JobId} due [])

pub passing_more : (pj : List Job) (jobs : List JobId) (tics : List ℕ) (tic passed place t : ℕ) (due : List JobId) (job : JobId) → tic ≤ tic_limit
    → IsPassing pj jobs tics tic passed due → IsFirst tics tic place → job.0 ≡ id_at jobs place → IsNext (times_at pj job.0) (tic + 1) t
    → IsPassing pj jobs (set tics place t) tic (place + 1) (due ++ cond (is_due_at (times_at pj job.0) tic) (job ∷ []) [])
passing_more pj jobs tics tic passed place t due job in_range p first is next =
    let test = λ (k : ℕ). is_due_at (times_at pj k) tic in
    let as_many : length tics ≡ length jobs = p.as_many in
    let there : place < length tics = first.in_list in
    let here : get_or tics place never ≤ tic = first.here in
    let bound : passed ≤ length jobs = p.bound in
    let less : place < length jobs = omega arith in
    let le : passed ≤ place = elim (below_or place passed) [
      | inl h ↦ let late : tic < get_or tics place never = next_later (times_at pj (id_at jobs place)) tic (get_or tics place never) in_range (p.next place (omega arith) h) in absurd (omega arith)
      | inr h ↦ h
    ] in
    let next_here : IsNext (times_at pj (id_at jobs place)) (tic + 1) t = subst (λ k. IsNext (times_at pj k) (tic + 1) t) is next in
    record {
      as_many = length-set tics place t ∙ as_many;
      next = next_more pj jobs tics (tic + 1) place t (place + 1) there next_here
          (λ k ne last. elim (below_or k passed) [
            | inl h ↦ p.next k (omega arith) h
            | inr h ↦ (p.known k h (omega arith) (first.before k (omega arith))).next
          ]);
      known = λ k low high.
          subst (λ n. tic < n → IsKnown (times_at pj (id_at jobs k)) tic n) (sym (get_or-set_other tics place k t never (omega arith))) (p.known k (omega arith) high);
      due_is =
          ids_more due job (test job.0)
          ∙ ap (λ l. l ++ cond (test job.0) (job.0 ∷ []) []) (p.due_is ∙ sym (skip_to test (ids jobs) passed place le (omega (arith, ids_length jobs)) (none_between pj jobs tics tic passed place (omega arith) p.known first.before)))
          ∙ sym (filter_more test (ids jobs) place 0 (omega (arith, ids_length jobs))
          ∙ ap (λ k. filter test (take place (ids jobs)) ++ cond (test k) (k ∷ []) []) (ids_get jobs place less ∙ sym is));
      few = one_more due job (test job.0) place (omega (arith, p.few));
      bound = omega arith;
    }

passed_all : (test : ℕ → Bool) (xs : List ℕ) (n : ℕ) → n ≡ length xs → filter test (take n xs) ≡ filter test xs
passed_all test xs n e = ap (λ i. filter test (take i xs)) e ∙ ap (filter test) (take-length xs)

-- no job that is left is due
pub passing_stops : (pj : List Job) (jobs : List JobId) (tics : List ℕ) (tic passed : ℕ) (due : List JobId)
    → IsPassing pj jobs tics tic passed due → AreLater tics tic (length tics) → IsPassed pj jobs tics tic due
passing_stops pj jobs tics tic passed due p later =
    let test = λ (k : ℕ). is_due_at (times_at pj k) tic in
    let all_later : AreLater tics tic (length jobs) = subst (λ n. AreLater tics tic n) p.as_many later in
    record {
      as_many = p.as_many;
      next = λ k first last. elim (below_or k passed) [
        | inl h ↦ p.next k first h
        | inr h ↦ (p.known k h last (all_later k last)).next
      ];
      due_is = p.due_is
          ∙ sym (skip_to test (ids jobs) passed (length jobs) p.bound (omega (arith, ids_length jobs)) (none_between pj jobs tics tic passed (length jobs) (omega arith) p.known all_later))
          ∙ passed_all test (ids jobs) (length jobs) (sym (ids_length jobs));
    }

-- no job is left
pub passing_ends : (pj : List Job) (jobs : List JobId) (tics : List ℕ) (tic passed : ℕ) (due : List JobId)
    → IsPassing pj jobs tics tic passed due → length jobs ≤ passed → IsPassed pj jobs tics tic due
passing_ends pj jobs tics tic passed due p all =
    let test = λ (k : ℕ). is_due_at (times_at pj k) tic in
    let bound : passed ≤ length jobs = p.bound in
    record {
      as_many = p.as_many;
      next = λ k first last. p.next k first (omega arith);
      due_is = p.due_is ∙ passed_all test (ids jobs) passed (omega (arith, ids_length jobs));
    }

-- What the scheduled jobs of threads may write.
use Rattle.std.proofs.Common.{◌≡◌, ◌≢◌, ℕ, zero, suc, ◌+◌, ◌<◌, ◌≤◌, Bool, true, false, ◌&&◌, ◌||◌, ◌==◌, nat_lt, inl, inr, ◌↔◌, IsTrue, List, [], ◌∷◌, length, get_or, cond, map, refl, sym, ap, subst, ◌∙◌, arith}
use Rattle.std.proofs.lemmas.Bool.{cases_lt, cases_eq, or_left, or_right}
use Rattle.std.proofs.lemmas.Bool.Decides.{nat_tests}
use Rattle.std.proofs.lemmas.Option.{get_or_from_slice_get, slice_get_within}
use Rattle.std.specs.List.{filter, list_any}
use Rattle.trick_access.specs.declared.cells.Access.{Access}
use Rattle.trick_base.proofs.Truths.{first_holds, second_holds}
use Rattle.trick_lang.specs.Access.{is_in}
use Rattle.trick_lang.specs.declared.class.Class.TheVariants as class
use Rattle.trick_lang.specs.declared.job.Job.{Job}
use Rattle.trick_model.specs.Acceptance.{IsWrittenOnce, may_write_on}
use Rattle.trick_model.specs.Access.{writes_cell}
use Rattle.trick_model.specs.Order.{is_of_class, rank}
use Rattle.trick_model.specs.Plan.{Plan, is_beside, job_at, numbers_from, thread_of}
use Rattle.trick_model.specs.Valid.{rises, thread_numbers}
use Rattle.trick_model.specs.declared.thread.Thread.{Thread}
use Rattle.trick_race.proofs.FixedPoint.{of_write, to_write}
use Rattle.trick_race.proofs.Merging.{both, either, inside}
use Rattle.trick_race.proofs.Sets.{has_there}
use Rattle.trick_race.specs.Accesses.{AreAccesses, IsWrittenBy, has}
use Rattle.trick_access.specs.Accesses.{writes_of}
use Rattle.trick_race.specs.Refusals.{HasOneWriter, HaveOneWriter, IsSharedWriter}
use Rattle.trick_race.specs.Writers.{AreFirstWriters}

-- ---- numbers that pass two tests

-- a number of those from n on, as many as the items, that passes three tests
pub record Found (f g h : ℕ → Bool) (n m : ℕ) : Type 0 where
  pub k : ℕ
  pub from : n ≤ k
  pub below : k < n + m
  pub first : IsTrue (h k)
  pub second : IsTrue (g k)
  pub third : IsTrue (f k)

any_of : {A : Type 0} (f g h : ℕ → Bool) (n : ℕ) (xs : List A)
    → IsTrue (list_any f (filter g (filter h (numbers_from n xs)))) → Found f g h n (length xs)
any_of f g h n [] found = cc
any_of f g h n (x ∷ xs) found = by_tests (h n) (g n) (f n) refl refl refl found (any_of f g h (suc n) xs)
  where
    later : Found f g h (suc n) (length xs) → Found f g h n (suc (length xs))
    later w = let low = w.from in let high = w.below in
        record { k = w.k; from = omega arith; below = omega arith; first = w.first; second = w.second; third = w.third }

    by_tests : (a b d : Bool) → h n ≡ a → g n ≡ b → f n ≡ d
        → IsTrue (list_any f (filter g (cond a (n ∷ filter h (numbers_from (suc n) xs))
        (filter h (numbers_from (suc n) xs)))))
        → (IsTrue (list_any f (filter g (filter h (numbers_from (suc n) xs)))) → Found f g h (suc n) (length xs))
        → Found f g h n (suc (length xs))
    by_tests false b d eh eg ef found rest = later (rest found)
    by_tests true false d eh eg ef found rest =
        later (rest (subst (λ q. IsTrue (list_any f
        (cond q (n ∷ filter g (filter h (numbers_from (suc n) xs))) (filter g (filter h (numbers_from (suc n) xs))))))
        eg found))
    by_tests true true d eh eg ef found rest =
        elim (either (f n) _ (subst (λ q. IsTrue (list_any f
        (cond q (n ∷ filter g (filter h (numbers_from (suc n) xs))) (filter g (filter h (numbers_from (suc n) xs))))))
        eg found)) [
          | inl here ↦ record { k = n; from = omega arith; below = omega arith; first = eh; second = eg; third = here }
          | inr further ↦ later (rest further)
        ]

of_any : {A : Type 0} (f g h : ℕ → Bool) (n : ℕ) (xs : List A) → Found f g h n (length xs)
    → IsTrue (list_any f (filter g (filter h (numbers_from n xs))))
of_any f g h n [] w = let low = w.from in let high = w.below in absurd (omega arith)
of_any f g h n (x ∷ xs) w = elim (cases_eq w.k n) [
  | inl here ↦ at_first (subst (λ m. IsTrue (h m)) here w.first) (subst (λ m. IsTrue (g m)) here w.second)
      (subst (λ m. IsTrue (f m)) here w.third)
  | inr other ↦
      let low = w.from in let high = w.below in
      further (h n) (g n) refl refl (of_any f g h (suc n) xs
      (record {
        k = w.k;
        from = omega arith;
        below = omega arith;
        first = w.first;
        second = w.second;
        third =
            w.third;
      }))
]
  where
    at_first : IsTrue (h n) → IsTrue (g n) → IsTrue (f n)
        → IsTrue (list_any f (filter g (cond (h n) (n ∷ filter h (numbers_from (suc n) xs))
        (filter h (numbers_from (suc n) xs)))))
    at_first eh eg ef =
        subst (λ a. IsTrue (list_any f (filter g (cond a (n ∷ filter h (numbers_from (suc n) xs))
        (filter h (numbers_from (suc n) xs)))))) (sym eh)
        (subst (λ a. IsTrue (list_any f (cond a (n ∷ filter g (filter h (numbers_from (suc n) xs)))
        (filter g (filter h (numbers_from (suc n) xs)))))) (sym eg)
        (or_left (f n) _ ef))

    further : (a b : Bool) → h n ≡ a → g n ≡ b → IsTrue (list_any f (filter g (filter h (numbers_from (suc n) xs))))
        → IsTrue (list_any f (filter g (cond (h n) (n ∷ filter h (numbers_from (suc n) xs))
        (filter h (numbers_from (suc n) xs)))))
    further false b eh eg found =
        subst (λ a. IsTrue (list_any f (filter g (cond a (n ∷ filter h (numbers_from (suc n) xs))
        (filter h (numbers_from (suc n) xs)))))) (sym eh) found
    further true false eh eg found =
        subst (λ a. IsTrue (list_any f (filter g (cond a (n ∷ filter h (numbers_from (suc n) xs))
        (filter h (numbers_from (suc n) xs)))))) (sym eh)
        (subst (λ a. IsTrue (list_any f (cond a (n ∷ filter g (filter h (numbers_from (suc n) xs)))
        (filter g (filter h (numbers_from (suc n) xs)))))) (sym eg) found)
    further true true eh eg found =
        subst (λ a. IsTrue (list_any f (filter g (cond a (n ∷ filter h (numbers_from (suc n) xs))
        (filter h (numbers_from (suc n) xs)))))) (sym eh)
        (subst (λ a. IsTrue (list_any f (cond a (n ∷ filter g (filter h (numbers_from (suc n) xs)))
        (filter g (filter h (numbers_from (suc n) xs)))))) (sym eg)
        (or_right (f n) _ found))

-- ---- what a thread may write

-- the scheduled jobs of a thread, as a test
abbrev pub is_writer : ℕ → Job → Bool
is_writer number job = (rank job.class == rank class.Scheduled) && (job.thread == number)

has_map : (f : Job → Bool) (jobs : List Job) (k : ℕ) → k < length jobs → has (map f jobs) k ≡ f (job_at jobs k)
has_map f [] k there = absurd (omega arith)
has_map f (job ∷ jobs) zero there = refl
has_map f (job ∷ jobs) (suc k) there = has_map f jobs k (omega arith)

length_map : (f : Job → Bool) (jobs : List Job) → length (map f jobs) ≡ length jobs
length_map f [] = refl
length_map f (job ∷ jobs) = ap suc (length_map f jobs)

bool_same : (a b : Bool) → (IsTrue a → IsTrue b) → (IsTrue b → IsTrue a) → a ≡ b
bool_same true b go back = sym (go refl)
bool_same false true go back = back refl
bool_same false false go back = refl

-- the set of what the scheduled jobs of a thread may write
pub thread_set : (cells : ℕ) (p : Plan) (accesses : List Access) (thread : Thread) (jobs set : List Bool)
    → AreAccesses cells p accesses → jobs ≡ map (is_writer thread.number) p.jobs
    → ((c : ℕ) → IsTrue (has set c) ↔ IsWrittenBy accesses jobs c) → (c : ℕ) → has set c ≡ may_write_on p thread c
thread_set cells p accesses thread jobs set are is told c = bool_same (has set c) (may_write_on p thread c)
    (λ h. let w = (told c).0 h in by_job w.0 (let there = has_there jobs w.0 w.1 in
    omega (arith, there, ap length is, length_map (is_writer thread.number) p.jobs)) w.1 w.2)
    (λ h. by_number (any_of (λ k. writes_cell p k c) (is_of_class p.jobs class.Scheduled)
    (λ k. thread_of p.jobs k == thread.number) 0 p.jobs h))
  where
    by_job : (k : ℕ) → k < length p.jobs → IsTrue (has jobs k) → IsTrue (is_in (writes_of accesses k) c)
        → IsTrue (may_write_on p thread c)
    by_job k there chosen w =
        let test : IsTrue (is_writer thread.number (job_at p.jobs k)) =
        sym (ap (λ s. has s k) is ∙ has_map (is_writer thread.number) p.jobs k there) ∙ chosen in
        of_any (λ k. writes_cell p k c) (is_of_class p.jobs class.Scheduled)
        (λ k. thread_of p.jobs k == thread.number) 0 p.jobs (record {
          k = k;
          from = omega arith;
          below = omega arith;
          first = second_holds (rank (job_at p.jobs k).class == rank class.Scheduled) _ test;
          second = first_holds (rank (job_at p.jobs k).class == rank class.Scheduled) _ test;
          third = to_write cells p accesses are k c there w;
        })

    by_number : Found (λ k. writes_cell p k c) (is_of_class p.jobs class.Scheduled)
        (λ k. thread_of p.jobs k == thread.number) 0 (length p.jobs) → IsTrue (has set c)
    by_number w =
        let below = w.below in
        let there : w.k < length p.jobs = omega arith in
        (told c).1 (
          w.k,
          ap (λ s. has s w.k) is ∙ has_map (is_writer thread.number) p.jobs w.k there
              ∙ both (rank (job_at p.jobs w.k).class == rank class.Scheduled)
              (thread_of p.jobs w.k == thread.number) w.second w.first,
          of_write cells p accesses are w.k c there w.third,
        )

-- no job may write a cell that is not there
pub none_past : (cells : ℕ) (p : Plan) (accesses : List Access) (thread : Thread) (c : ℕ) → AreAccesses cells p accesses
    → cells ≤ c → IsTrue (may_write_on p thread c) → ⊥
none_past cells p accesses thread c are past h =
    let w = any_of (λ k. writes_cell p k c) (is_of_class p.jobs class.Scheduled)
    (λ k. thread_of p.jobs k == thread.number) 0 p.jobs h in
    let below = w.below in
    let there : w.k < length p.jobs = omega arith in
    let within = inside 0 cells (writes_of accesses w.k) c (are.writes w.k there).sorted
    (of_write cells p accesses are w.k c there w.third) in
    let low = within.below in
    absurd (omega arith)

-- ---- two threads

-- two answers to whether a thread may write a cell
abbrev pub IsOnce : Thread → Thread → Bool → Bool → Type 0
IsOnce one other a b = one.number ≢ other.number → IsTrue (is_beside one.process || is_beside other.process)
    → IsTrue (a && b) → ⊥

pub once_of : (p : Plan) (one other : Thread) (cell : ℕ) (a b : Bool) → a ≡ may_write_on p one cell
    → b ≡ may_write_on p other cell
    → IsOnce one other a b → IsWrittenOnce p one other cell
once_of p one other cell a b ea eb h =
    subst (λ q. IsOnce one other q (may_write_on p other cell)) ea (subst (λ q. IsOnce one other a q) eb h)

pub of_once : (p : Plan) (one other : Thread) (cell : ℕ) (a b : Bool) → a ≡ may_write_on p one cell
    → b ≡ may_write_on p other cell
    → IsWrittenOnce p one other cell → IsOnce one other a b
of_once p one other cell a b ea eb h =
    subst (λ q. IsOnce one other q b) (sym ea) (subst (λ q. IsOnce one other (may_write_on p one cell) q) (sym eb) h)

-- a thread that may not write the cell
pub nothing_written : (p : Plan) (one other : Thread) (cell : ℕ) → false ≡ may_write_on p one cell
    → IsWrittenOnce p one other cell
nothing_written p one other cell none differ beside written =
    let h = none ∙ first_holds (may_write_on p one cell) (may_write_on p other cell) written in cc

swap_or : (a b : Bool) → IsTrue (a || b) → IsTrue (b || a)
swap_or a true h = refl
swap_or true false h = refl
swap_or false false h = h

pub once_swapped : (p : Plan) (one other : Thread) (cell : ℕ) → IsWrittenOnce p one other cell
    → IsWrittenOnce p other one cell
once_swapped p one other cell h differ beside written =
    h (λ e. differ (sym e)) (swap_or (is_beside other.process) (is_beside one.process) beside)
    (both (may_write_on p one cell) (may_write_on p other cell) (second_holds (may_write_on p other cell) _ written)
    (first_holds (may_write_on p other cell) _ written))

-- one thread alone breaks no rule
pub once_alone : (p : Plan) (one other : Thread) (cell : ℕ) → one.number ≡ other.number → IsWrittenOnce p one other cell
once_alone p one other cell same differ = absurd (differ same)

-- ---- the first two threads

head_below : (n : ℕ) (ns : List ℕ) (j : ℕ) → IsTrue (rises (n ∷ ns)) → j < length ns → n < get_or ns j 0
head_below n [] j rising there = absurd (omega arith)
head_below n (m ∷ ms) zero rising there = let h = first_holds (nat_lt n m) (rises (m ∷ ms)) rising in
    grind (arith, nat_tests, h)
head_below n (m ∷ ms) (suc j) rising there =
    let h = first_holds (nat_lt n m) (rises (m ∷ ms)) rising in
    let first : n < m = grind (arith, nat_tests, h) in
    let rest = head_below m ms j (second_holds (nat_lt n m) (rises (m ∷ ms)) rising) (omega arith) in
    omega arith

rise_at : (ns : List ℕ) (i j : ℕ) → IsTrue (rises ns) → i < j → j < length ns → get_or ns i 0 < get_or ns j 0
rise_at [] i j rising less there = absurd (omega arith)
rise_at (n ∷ ns) i zero rising less there = absurd (omega arith)
rise_at (n ∷ ns) zero (suc j) rising less there = head_below n ns j rising (omega arith)
rise_at (n ∷ []) (suc i) (suc j) rising less there = absurd (omega arith)
rise_at (n ∷ m ∷ ms) (suc i) (suc j) rising less there =
    rise_at (m ∷ ms) i j (second_holds (nat_lt n m) (rises (m ∷ ms)) rising) (omega arith) (omega arith)

numbers_length : (threads : List Thread) → length (thread_numbers threads) ≡ length threads
numbers_length [] = refl
numbers_length (t ∷ ts) = ap suc (numbers_length ts)

number_at : (threads : List Thread) (i : ℕ) (d : Thread) → i < length threads
    → get_or (thread_numbers threads) i 0 ≡ (get_or threads i d).number
number_at [] i d there = absurd (omega arith)
number_at (t ∷ ts) zero d there = refl
number_at (t ∷ ts) (suc i) d there = number_at ts i d (omega arith)

-- of the first two threads that break the rule at a cell the first has the smaller number
pub first_in_order : (p : Plan) (cell : ℕ) (one other : Thread) → IsTrue (rises (thread_numbers p.threads))
    → AreFirstWriters p cell one other
    → one.number < other.number
first_in_order p cell one other rising first =
    let i = first.first_thread.0 in
    let j = first.first_other.0 in
    let i_there : i < length p.threads = slice_get_within p.threads i one first.first_thread.1.there in
    let j_there : j < length p.threads = slice_get_within p.threads j other first.first_other.1.there in
    let one_at : get_or p.threads i one ≡ one = get_or_from_slice_get p.threads i one one first.first_thread.1.there in
    let other_at : get_or p.threads j one ≡ other =
    get_or_from_slice_get p.threads j other one first.first_other.1.there in
    elim (cases_lt i j) [
      | inl less ↦
          let long = numbers_length p.threads in
          let risen = rise_at (thread_numbers p.threads) i j rising less (omega arith) in
          let low = number_at p.threads i one i_there in
          let high = number_at p.threads j one j_there in
          let one_number = ap (λ (t : Thread). t.number) one_at in
          let other_number = ap (λ (t : Thread). t.number) other_at in
          omega (arith, risen, low, high, one_number, other_number)
      | inr more ↦ elim (cases_eq i j) [
        | inl same ↦
            let here : one ≡ other = sym one_at ∙ ap (λ k. get_or p.threads k one) same ∙ other_at in
            absurd (first.first_other.1.lacks (once_alone p one other cell (ap (λ (t : Thread). t.number) here)))
        | inr differ ↦
            let before = first.first_thread.1.before j one (omega arith) in
            let pair = before i one i_there in
            let once : IsWrittenOnce p other one cell = subst (λ (t : Thread). IsWrittenOnce p t one cell) other_at
            (subst (λ (t : Thread). IsWrittenOnce p (get_or p.threads j one) t cell) one_at pair) in
            absurd (first.first_other.1.lacks (once_swapped p other one cell once))
      ]
    ]

-- the first cell, with its first two threads
pub shared_at : (p : Plan) (cell : ℕ) (one other : Thread) → IsTrue (rises (thread_numbers p.threads))
    → AreFirstWriters p cell one other
    → ((c : ℕ) → c < cell → HasOneWriter p c) → IsSharedWriter p cell one other
shared_at p cell one other rising first before = record {
  cells_before = before;
  first_thread = first.first_thread;
  first_other = first.first_other;
  in_order = first_in_order p cell one other rising first;
}

-- no cell that is not there has two writers
pub one_writer_past : (cells : ℕ) (p : Plan) (accesses : List Access) → AreAccesses cells p accesses
    → ((c : ℕ) → c < cells → HasOneWriter p c) → HaveOneWriter p
one_writer_past cells p accesses are below c = elim (cases_lt c cells) [
  | inl less ↦ below c less
  | inr more ↦ λ k one k_there j other j_there differ beside written.
      absurd (none_past cells p accesses (get_or p.threads k one) c are more
      (first_holds (may_write_on p (get_or p.threads k one) c) (may_write_on p (get_or p.threads j other) c) written))
]

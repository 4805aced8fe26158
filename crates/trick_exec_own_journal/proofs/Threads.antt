-- Threads beside the tics, by their numbers.
use Rattle.std.proofs.Common.{◌≡◌, ◌∙◌, ◌≢◌, ℕ, ◌<◌, ◌≤◌, ◌==◌, List, [], ◌∷◌, ◌++◌, Bool, true, false, ◌&&◌, ap, arith, refl, sym, nat_lt, Option, Some, None}
use Rattle.std.proofs.Math.Bool.{Bool-set}
use Rattle.std.proofs.Math.Logic.{∥∥₁_elim}
use Rattle.std.proofs.lemmas.Bool.{and_from, and_parts, ltb-true}
use Rattle.std.proofs.lemmas.Bool.Decides.{nat_tests}
use Rattle.std.proofs.lemmas.List.Elements.{All-head, All-tail}
use Rattle.std.specs.Prelude.{All, IsTrue, cond, filter, nat_le}
use Rattle.trick_model.specs.Acceptance.{IsAccepted, IsNamedRight}
use Rattle.trick_model.specs.Beside.{find_thread, one_later}
use Rattle.trick_model.specs.Plan.{Plan, is_async, is_beside, process_in, threads_beside}
use Rattle.trick_model.specs.PlanOf.{plan_of}
use Rattle.trick_model.specs.Valid.{IsMainRight, rises, thread_numbers}
use Rattle.trick_model.specs.declared.plan.Plan.{Plan as PlanValue}
use Rattle.trick_model.specs.declared.thread.Process.TheVariants as process
use Rattle.trick_model.specs.declared.thread.Process.{Process}
use Rattle.trick_model.specs.declared.thread.Thread.{Thread}

-- Threads stand by rising number, from above the first number to the last one at most.
abbrev pub stand_between : ℕ → List Thread → ℕ → Bool
stand_between low [] high = nat_le low high
stand_between low (thread ∷ threads) high = nat_lt low thread.number && stand_between thread.number threads high

-- ---- a thread more

-- What is known of threads but the last one, which has this number.
pub record AllButLast (low : ℕ) (threads : List Thread) (number high : ℕ) : Type 0 where
  pub mid : ℕ
  pub before : stand_between low threads mid ≡ true
  pub less : mid < number
  pub most : number ≤ high

pub all_but_last : (low : ℕ) (threads : List Thread) (thread : Thread) (high : ℕ) → stand_between low (threads ++ thread ∷ []) high ≡ true
    → AllButLast low threads thread.number high
all_but_last low [] thread high all =
    let parts = and_parts (nat_lt low thread.number) (nat_le thread.number high) all in
    record { mid = low; before = itself low; less = ltb-true low thread.number parts.0; most = most_of thread.number high parts.1 }
  where
    itself : (n : ℕ) → nat_le n n ≡ true
    itself n = grind (arith, nat_tests)

    most_of : (a b : ℕ) → nat_le a b ≡ true → a ≤ b
    most_of a b e = grind (arith, nat_tests, e)
all_but_last low (first ∷ threads) thread high all =
    let parts = and_parts (nat_lt low first.number) (stand_between first.number (threads ++ thread ∷ []) high) all in
    let more = all_but_last first.number threads thread high parts.1 in
    record {
      mid = more.mid;
      before = and_from (nat_lt low first.number) (stand_between first.number threads more.mid) parts.0 more.before;
      less = more.less;
      most = more.most;
    }

-- ---- the threads of a plan

stand_lower : (low lower : ℕ) (threads : List Thread) (high : ℕ) → lower ≤ low → stand_between low threads high ≡ true
    → stand_between lower threads high ≡ true
stand_lower low lower [] high less all = still low lower high less all
  where
    still : (low lower high : ℕ) → lower ≤ low → nat_le low high ≡ true → nat_le lower high ≡ true
    still low lower high less all = grind (arith, nat_tests, less, all)
stand_lower low lower (thread ∷ threads) high less all =
    let parts = and_parts (nat_lt low thread.number) (stand_between thread.number threads high) all in
    and_from (nat_lt lower thread.number) (stand_between thread.number threads high) (still low lower thread.number less parts.0) parts.1
  where
    still : (low lower number : ℕ) → lower ≤ low → nat_lt low number ≡ true → nat_lt lower number ≡ true
    still low lower number less all = grind (arith, nat_tests, less, all)

abbrev beside : Thread → Bool
beside thread = is_beside thread.process

abbrev NotAbove : Thread → Type 0
NotAbove thread = thread.number ≤ 15

lower_of : (a b : ℕ) → nat_lt a b ≡ true → a ≤ b
lower_of a b e = grind (arith, nat_tests, e)

-- of threads above a number, those beside the tics
beside_above : (low : ℕ) (threads : List Thread) → low ≤ 15 → rises (low ∷ thread_numbers threads) ≡ true → All NotAbove threads
    → stand_between low (filter beside threads) 15 ≡ true
beside_above low [] most rise limit = not_above low most
  where
    not_above : (n : ℕ) → n ≤ 15 → nat_le n 15 ≡ true
    not_above n most = grind (arith, nat_tests, most)
beside_above low (thread ∷ threads) most rise limit =
    let parts = and_parts (nat_lt low thread.number) (rises (thread_numbers (thread ∷ threads))) rise in
    by (beside thread) parts.0
    (beside_above thread.number threads (All-head NotAbove thread threads limit) parts.1 (All-tail NotAbove thread threads limit))
  where
    by : (b : Bool) → nat_lt low thread.number ≡ true → stand_between thread.number (filter beside threads) 15 ≡ true
        → stand_between low (cond b (thread ∷ filter beside threads) (filter beside threads)) 15 ≡ true
    by true less more = and_from (nat_lt low thread.number) (stand_between thread.number (filter beside threads) 15) less more
    by false less more = stand_lower thread.number low (filter beside threads) 15 (lower_of low thread.number less) more

-- a thread beside the tics is not thread 0
not_main : (p : Plan) (thread : Thread) → IsMainRight thread → IsNamedRight p thread → beside thread ≡ true → thread.number ≢ 0
not_main p thread main named is first = by_named thread.named refl
  where
    scheduled : (kind : Process) → kind ≡ process.Scheduled → is_beside kind ≡ true → ⊥
    scheduled process.Scheduled e is = cc is
    scheduled process.Async e is = cc e
    scheduled process.MustFinish e is = cc e

    never : (b : Bool) → b ≡ false → IsTrue b → ⊥
    never true e holds = cc e
    never false e holds = cc holds

    by_named : (b : Bool) → thread.named ≡ b → ⊥
    by_named true e = (named e).0 first
    by_named false e = scheduled thread.process (main first (never thread.named e)) is

beside_all : (p : Plan) (threads : List Thread) → rises (thread_numbers threads) ≡ true → All NotAbove threads → All IsMainRight threads
    → All (IsNamedRight p) threads → stand_between 0 (filter beside threads) 15 ≡ true
beside_all p [] rise limit main named = refl
beside_all p (thread ∷ threads) rise limit main named =
    by (beside thread) refl
    (beside_above thread.number threads (All-head NotAbove thread threads limit) rise (All-tail NotAbove thread threads limit))
  where
    some : (n : ℕ) → n ≢ 0 → nat_lt 0 n ≡ true
    some n other = grind (arith, nat_tests, other)

    none : (n : ℕ) → 0 ≤ n
    none n = omega arith

    by : (b : Bool) → beside thread ≡ b → stand_between thread.number (filter beside threads) 15 ≡ true
        → stand_between 0 (cond b (thread ∷ filter beside threads) (filter beside threads)) 15 ≡ true
    by true is more =
        and_from (nat_lt 0 thread.number) (stand_between thread.number (filter beside threads) 15)
        (some thread.number (not_main p thread (All-head IsMainRight thread threads main) (All-head (IsNamedRight p) thread threads named) is)) more
    by false is more = stand_lower thread.number 0 (filter beside threads) 15 (none thread.number) more

-- of an accepted plan they stand from 1 to 15
pub threads_stand : (plan : PlanValue) → ∥ IsAccepted (plan_of plan) ∥₁ → stand_between 0 (threads_beside (plan_of plan)) 15 ≡ true
threads_stand plan accepted =
    ∥∥₁_elim accepted (hlevel Bool-set)
    (λ (a : IsAccepted (plan_of plan)). beside_all (plan_of plan) plan.threads plan.threads_rise plan.thread_limit plan.main_right a.named)

-- ---- the process type of a number

-- an asynchronous thread was found
abbrev pub found_async : Option (ℕ × Thread) → Bool
found_async found = elim found [ None ↦ false | Some found ↦ is_async (found.1).process ]

later_async : (found : Option (ℕ × Thread)) → found_async (one_later found) ≡ found_async found
later_async None = refl
later_async (Some found) = refl

-- what is found among these threads, of which the first is or is not beside the tics
find_first : (number : ℕ) (thread : Thread) (threads : List Thread) (b : Bool) → (thread.number == number) ≡ false
    → found_async (find_thread number (cond b (thread ∷ filter beside threads) (filter beside threads)))
    ≡ found_async (find_thread number (filter beside threads))
find_first number thread threads true other =
    ap (λ (c : Bool). let found : Option (ℕ × Thread) = elim c [ true ↦ Some (0, thread) | false ↦ one_later (find_thread number (filter beside threads)) ] in found_async found) other
    ∙ later_async (find_thread number (filter beside threads))
find_first number thread threads false other = refl

-- threads of larger numbers are others
none_above : (low number : ℕ) (threads : List Thread) → number ≤ low → rises (low ∷ thread_numbers threads) ≡ true
    → found_async (find_thread number (filter beside threads)) ≡ false
none_above low number [] less rise = refl
none_above low number (thread ∷ threads) less rise =
    let parts = and_parts (nat_lt low thread.number) (rises (thread_numbers (thread ∷ threads))) rise in
    find_first number thread threads (beside thread) (apart low thread.number number less parts.0)
    ∙ none_above thread.number number threads (up low thread.number number less parts.0) parts.1
  where
    apart : (low a n : ℕ) → n ≤ low → nat_lt low a ≡ true → (a == n) ≡ false
    apart low a n less e = grind (arith, nat_tests, less, e)

    up : (low a n : ℕ) → n ≤ low → nat_lt low a ≡ true → n ≤ a
    up low a n less e = grind (arith, nat_tests, less, e)

rises_on : (n : ℕ) (threads : List Thread) → rises (n ∷ thread_numbers threads) ≡ true → rises (thread_numbers threads) ≡ true
rises_on n [] rise = refl
rises_on n (thread ∷ threads) rise = (and_parts (nat_lt n thread.number) (rises (thread_numbers (thread ∷ threads))) rise).1

pub async_of_found : (number : ℕ) (threads : List Thread) → rises (thread_numbers threads) ≡ true
    → found_async (find_thread number (filter beside threads)) ≡ true → is_async (process_in threads number) ≡ true
async_of_found number [] rise found = cc found
async_of_found number (thread ∷ threads) rise found =
    by_number (thread.number == number) refl
    (λ (rest : found_async (find_thread number (filter beside threads)) ≡ true). async_of_found number threads (rises_on thread.number threads rise) rest)
  where
    same : (a b : ℕ) → (a == b) ≡ true → b ≤ a
    same a b e = grind (arith, nat_tests, e)

    never : (b : Bool) → b ≡ false → b ≡ true → ⊥
    never true e f = cc e
    never false e f = cc f

    -- the thread itself
    by_beside : (b : Bool) → (thread.number == number) ≡ true
        → found_async (find_thread number (cond b (thread ∷ filter beside threads) (filter beside threads))) ≡ true → is_async thread.process ≡ true
    by_beside true is now =
        sym (ap (λ (c : Bool). let f : Option (ℕ × Thread) = elim c [ true ↦ Some (0, thread) | false ↦ one_later (find_thread number (filter beside threads)) ] in found_async f) is) ∙ now
    by_beside false is now =
        absurd (never (found_async (find_thread number (filter beside threads)))
        (none_above thread.number number threads (same thread.number number is) rise) now)

    by_number : (b : Bool) → (thread.number == number) ≡ b
        → (found_async (find_thread number (filter beside threads)) ≡ true → is_async (process_in threads number) ≡ true)
        → (let kind : Process = elim b [ true ↦ thread.process | false ↦ process_in threads number ] in is_async kind ≡ true)
    by_number true is rest = by_beside (beside thread) is found
    by_number false is rest = rest (sym (find_first number thread threads (beside thread) is) ∙ found)

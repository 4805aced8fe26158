-- The threads beside the tics have numbers of their own.
use Rattle.std.proofs.Common.{◌≡◌, ◌∙◌, ℕ, zero, suc, ◌<◌, ◌==◌, ◌&&◌, Bool, true, false, IsTrue, List, [], ◌∷◌, All, Option, Some, None, ap, arith, length, refl, sym, nat_lt}
use Rattle.std.specs.List.{AllPairs, slice_index_or}
use Rattle.std.proofs.lemmas.Bool.{eq-eqb}
use Rattle.std.proofs.lemmas.Bool.Decides.{nat_tests}
use Rattle.std.proofs.lemmas.List.Elements.{All-filter, filter_passes}
use Rattle.std.proofs.lemmas.List.Kept.{AllPairs-cons, AllPairs-filter}
use Rattle.trick_base.proofs.Numbers.{other_than_greater}
use Rattle.trick_model.specs.Beside.{find_thread, one_later}
use Rattle.trick_model.specs.Plan.{is_beside, threads_beside}
use Rattle.trick_model.specs.PlanOf.{plan_of}
use Rattle.trick_model.specs.Valid.{IsCycle, rises, thread_numbers}
use Rattle.trick_model.specs.declared.plan.Plan.{Plan as PlanValue}
use Rattle.trick_model.specs.declared.thread.Thread.{Thread}

-- ---- rising numbers

IsBelow : Thread → Thread → Type 0
IsBelow one other = one.number < other.number

both : (a b : Bool) → IsTrue (a && b) → IsTrue a × IsTrue b
both true b h = (refl, h)
both false b h = cc h

below_all : (one : Thread) (threads : List Thread) → IsTrue (rises (thread_numbers (one ∷ threads))) → All (IsBelow one) threads
unfolding IsBelow
below_all one [] up k d there = absurd (omega (arith, there))
below_all one (other ∷ threads) up zero d there =
    let first = (both (nat_lt one.number other.number) _ up).0 in grind (arith, nat_tests, first)
below_all one (other ∷ threads) up (suc k) d there =
    let parts = both (nat_lt one.number other.number) _ up in
    let first : one.number < other.number = let h = parts.0 in grind (arith, nat_tests, h) in
    let behind : other.number < (slice_index_or threads k d).number = below_all other threads parts.1 k d (omega (arith, there)) in
    omega (arith, first, behind)

pairs : (threads : List Thread) → IsTrue (rises (thread_numbers threads)) → AllPairs IsBelow threads
pairs [] up = λ i j d less there. absurd (omega (arith, there))
pairs (one ∷ threads) up =
    AllPairs-cons IsBelow one threads (below_all one threads up) (pairs threads (rest one threads up))
  where
    rest : (one : Thread) (threads : List Thread) → IsTrue (rises (thread_numbers (one ∷ threads))) → IsTrue (rises (thread_numbers threads))
    rest one [] up = refl
    rest one (other ∷ threads) up = (both (nat_lt one.number other.number) _ up).1

-- ---- a thread is found by its number

-- Each thread is found at its place.
pub AreFound : List Thread → Type 0
AreFound threads =
    (place : ℕ) (d : Thread) → place < length threads
    → find_thread (slice_index_or threads place d).number threads ≡ Some (place, slice_index_or threads place d)

pick : (b : Bool) (x y : Option (ℕ × Thread)) → b ≡ true → x ≡ elim b [ true ↦ x | false ↦ y ]
pick true x y e = refl
pick false x y e = cc e

pass : (b : Bool) (x y : Option (ℕ × Thread)) → b ≡ false → y ≡ elim b [ true ↦ x | false ↦ y ]
pass true x y e = cc e
pass false x y e = refl

found : (threads : List Thread) → AllPairs IsBelow threads → AreFound threads
unfolding AreFound IsBelow
found [] up place d there = absurd (omega (arith, there))
found (one ∷ threads) up zero d there =
    sym (pick (one.number == one.number) (Some (0, one)) (one_later (find_thread one.number threads)) (eq-eqb one.number one.number refl))
found (one ∷ threads) up (suc place) d there =
    let thread = slice_index_or threads place d in
    let behind : place < length threads = omega (arith, there) in
    let less : one.number < thread.number = up 0 (suc place) d (omega arith) there in
    sym (pass (one.number == thread.number) (Some (0, one)) (one_later (find_thread thread.number threads)) (other_than_greater one.number thread.number less))
    ∙ ap one_later (found threads (λ i j e before within. up (suc i) (suc j) e (omega (arith, before)) (omega (arith, within))) place d behind)

pub beside_found : (plan : PlanValue) → AreFound (threads_beside (plan_of plan))
beside_found plan = found (threads_beside (plan_of plan))
    (AllPairs-filter IsBelow (λ (thread : Thread). is_beside thread.process) plan.threads (pairs plan.threads plan.threads_rise))

pub found_at : (threads : List Thread) → AreFound threads → (place : ℕ) (d : Thread) → place < length threads
    → find_thread (slice_index_or threads place d).number threads ≡ Some (place, slice_index_or threads place d)
unfolding AreFound
found_at threads all place d there = all place d there

-- no two places have one number
pub apart : (threads : List Thread) → AreFound threads → (one other : ℕ) (d e : Thread) → one < length threads → other < length threads
    → (slice_index_or threads one d).number ≡ (slice_index_or threads other e).number → one ≡ other
unfolding AreFound
apart threads all one other d e first second same =
    let x : ℕ × Thread = (one, slice_index_or threads one d) in
    let y : ℕ × Thread = (other, slice_index_or threads other e) in
    let is : Some x ≡ Some y = sym (all one d first) ∙ ap (λ (n : ℕ). find_thread n threads) same ∙ all other e second in
    ap (place_or 0) is
  where
    place_or : ℕ → Option (ℕ × Thread) → ℕ
    place_or none None = none
    place_or none (Some found) = found.0

-- ---- facts of each thread

pub beside_here : (plan : PlanValue) (place : ℕ) (d : Thread) → place < length (threads_beside (plan_of plan))
    → is_beside (slice_index_or (threads_beside (plan_of plan)) place d).process ≡ true
beside_here plan place d there = filter_passes (λ (thread : Thread). is_beside thread.process) plan.threads place d there

pub cycle_here : (plan : PlanValue) (place : ℕ) (d : Thread) → place < length (threads_beside (plan_of plan))
    → IsCycle (slice_index_or (threads_beside (plan_of plan)) place d).cycle
cycle_here plan place d there =
    All-filter (λ (thread : Thread). is_beside thread.process) (λ (thread : Thread). IsCycle thread.cycle) plan.threads plan.thread_cycles place d there

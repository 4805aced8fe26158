-- What a state holds is started, one thread after another.
use Rattle.std.proofs.Common.{◌≡◌, ◌≢◌, ◌∙◌, ℕ, ◌+◌, ◌<◌, ◌≤◌, ◌==◌, Bool, true, false, List, Option, None, ap, arith, length, refl, subst, sym}
use Rattle.std.proofs.lemmas.Bool.{eq-eqb, eqb-true}
use Rattle.std.specs.List.{slice_index_or}
use Rattle.trick_exec_posts.proofs.Threads.{AreFound, apart}
use Rattle.trick_exec_posts.specs.Flight.{flight, thread_in}
use Rattle.trick_model.specs.Plan.{Plan, threads_beside}
use Rattle.trick_model.specs.State.{nothing_taken}
use Rattle.trick_model.specs.declared.taken.Taken.{Taken}
use Rattle.trick_model.specs.declared.thread.Thread.{Thread}
use Rattle.trick_post_work.specs.Work.{Started, no_thread}

-- So many threads are started, and of the others nothing is in flight.
pub record AreStarted (p : Plan) (in_flight : ℕ → Option Started) (tic : ℕ) (taken : List Taken) (count : ℕ) : Type 0 where
  pub started : (place : ℕ) → place < count → place < length (threads_beside p)
      → in_flight (thread_in p place).number ≡ flight (thread_in p place) tic (slice_index_or taken place nothing_taken)
  pub free : (place : ℕ) → count ≤ place → place < length (threads_beside p) → in_flight (thread_in p place).number ≡ None

apart_of : (a b : ℕ) → (a == b) ≡ false → a ≢ b
apart_of a b e = λ same. cc (sym e ∙ eq-eqb a b same)

below : (k place : ℕ) → place < k + 1 → place ≢ k → place < k
below k place less differ = grind (arith, less, differ)

above : (k place : ℕ) → k + 1 ≤ place → k ≤ place
above k place low = omega (arith, low)

above_apart : (k place : ℕ) → k + 1 ≤ place → place ≢ k
above_apart k place low = λ same. absurd (omega (arith, low, same))

-- one thread more is started
pub starts_more : (p : Plan) → AreFound (threads_beside p) → (old new : ℕ → Option Started) (tic k : ℕ) (taken : List Taken) (thread : Thread)
    → k < length (threads_beside p) → thread ≡ thread_in p k
    → new thread.number ≡ flight thread tic (slice_index_or taken k nothing_taken)
    → ((n : ℕ) → n ≢ thread.number → new n ≡ old n)
    → AreStarted p old tic taken k → AreStarted p new tic taken (k + 1)
starts_more p found old new tic k taken thread here is own others so = record {
  started = λ place less there. by place less there (place == k) refl;
  free = λ place low there. other place there (above_apart k place low) ∙ so.free place (above k place low) there;
}
  where
    other : (place : ℕ) → place < length (threads_beside p) → place ≢ k → new (thread_in p place).number ≡ old (thread_in p place).number
    other place there differ =
        others (thread_in p place).number
        (λ same. differ (apart (threads_beside p) found place k no_thread no_thread there here (same ∙ ap (λ (t : Thread). t.number) is)))

    by : (place : ℕ) → place < k + 1 → place < length (threads_beside p) → (b : Bool) → (place == k) ≡ b
        → new (thread_in p place).number ≡ flight (thread_in p place) tic (slice_index_or taken place nothing_taken)
    by place less there true e =
        let same : place ≡ k = eqb-true place k e in
        subst (λ (n : ℕ). new (thread_in p n).number ≡ flight (thread_in p n) tic (slice_index_or taken n nothing_taken)) (sym same)
        (subst (λ (t : Thread). new t.number ≡ flight t tic (slice_index_or taken k nothing_taken)) is own)
    by place less there false e =
        let differ : place ≢ k = apart_of place k e in other place there differ ∙ so.started place (below k place less differ) there

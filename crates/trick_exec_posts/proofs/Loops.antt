-- Threads that publish and take one after another.
use Rattle.std.proofs.Common.{◌≡◌, ◌≢◌, ◌∙◌, ℕ, ◌+◌, ◌<◌, ◌≤◌, ◌==◌, Bool, true, false, List, [], ◌++◌, ap, arith, length, refl, subst, sym}
use Rattle.std.proofs.lemmas.Bool.{eq-eqb, eqb-true}
use Rattle.trick_exec_posts.proofs.Steps.{either, publish_empties, publish_others, take_others}
use Rattle.trick_exec_posts.specs.Flight.{AsksNothing, HoldNothing, thread_in}
use Rattle.trick_model.specs.Beside.{ends_at, publish, take, where_ends}
use Rattle.trick_model.specs.Plan.{Plan, threads_beside}
use Rattle.trick_model.specs.State.{State, taken_at}
use Rattle.trick_model.specs.declared.taken.Taken.{Taken}
use Rattle.trick_model.specs.declared.thread.Thread.{Thread}
use Rattle.trick_post_work.specs.Polls.{Poll}
use Rattle.trick_post_work.specs.declared.posts.Posts.{Ghosts}

-- ---- posts of which nothing is asked

pub asks_none : {S : Type 0} (posts : Ghosts S) (s : S) → posts.asked s [] s → AsksNothing posts s s
asks_none posts s none = record { plan = refl; late = at_most (posts.lateness s); asked = none }
  where
    at_most : (n : ℕ) → n ≤ n
    at_most n = omega arith

pub asks_then : {S : Type 0} {posts : Ghosts S} {old mid new : S}
    → ((first second third : S) (early late : List Poll) → posts.asked first early second → posts.asked second late third → posts.asked first (early ++ late) third)
    → AsksNothing posts old mid → AsksNothing posts mid new → AsksNothing posts old new
asks_then {posts = posts} {old = old} {mid = mid} {new = new} join one other = record {
  plan = other.plan ∙ one.plan;
  late = up (posts.lateness old) (posts.lateness mid) (posts.lateness new) one.late other.late;
  asked = join old mid new [] [] one.asked other.asked;
}
  where
    up : (a b c : ℕ) → a ≤ b → b ≤ c → a ≤ c
    up a b c low high = omega (arith, low, high)

-- ---- which threads hold nothing

publishes_at : Plan → ℕ → ℕ → Thread → State → State
publishes_at p tic place thread s = publish p place thread tic s

below : (k place : ℕ) → place < k + 1 → (place == k) ≡ false → place < k
below k place less e = let differ = not_same place k e in before k place less differ
  where
    not_same : (a b : ℕ) → (a == b) ≡ false → a ≢ b
    not_same a b e = λ same. cc (sym e ∙ eq-eqb a b same)

    before : (k place : ℕ) → place < k + 1 → place ≢ k → place < k
    before k place less differ = grind (arith, less, differ)

apart_of : (a b : ℕ) → (a == b) ≡ false → a ≢ b
apart_of a b e = λ same. cc (sym e ∙ eq-eqb a b same)

pub hold_none : (p : Plan) (tic : ℕ) (s : State) → HoldNothing p tic 0 0 s
hold_none p tic s place low high ends = absurd (never place high)
  where
    never : (n : ℕ) → n < 0 → ⊥
    never n less = omega (arith, less)

-- one thread more has published
pub hold_more : (p : Plan) (tic k : ℕ) (now next : State) → next ≡ where_ends (λ place thread. publish p place thread tic) tic k (thread_in p k) now
    → k < length now.taken → HoldNothing p tic 0 k now → HoldNothing p tic 0 (k + 1) next
hold_more p tic k now next is there hold place low high ends = by (place == k) refl
  where
    thread : Thread
    thread = thread_in p k

    after : State
    after = publish p k thread tic now

    by : (b : Bool) → (place == k) ≡ b → (taken_at next place).held ≡ false
    by true e =
        let same : place ≡ k = eqb-true place k e in
        let here : ends_at tic thread ≡ true = subst (λ (n : ℕ). ends_at tic (thread_in p n) ≡ true) same ends in
        ap (λ (n : ℕ). (taken_at next n).held) same
        ∙ ap (λ (s : State). (taken_at s k).held) is
        ∙ either (λ (s : State). (taken_at s k).held ≡ false) (ends_at tic thread) after now
        (λ yes. publish_empties p k thread tic now there) (λ no. cc (sym here ∙ no))
    by false e =
        let differ : place ≢ k = apart_of place k e in
        ap (λ (s : State). (taken_at s place).held) is
        ∙ either (λ (s : State). (taken_at s place).held ≡ false) (ends_at tic thread) after now
        (λ yes. ap (λ (t : Taken). t.held) (publish_others p k place thread tic now differ) ∙ hold place low (below k place high e) ends)
        (λ no. hold place low (below k place high e) ends)

pub hold_all : (p : Plan) (tic k : ℕ) (s : State) → length (threads_beside p) ≤ k → HoldNothing p tic 0 k s
    → HoldNothing p tic 0 (length (threads_beside p)) s
hold_all p tic k s past hold place low high ends = hold place low (up place (length (threads_beside p)) k high past) ends
  where
    up : (a b c : ℕ) → a < b → b ≤ c → a < c
    up a b c less more = omega (arith, less, more)

-- one thread more has taken; those after it hold nothing still
pub hold_rest : (p : Plan) (tic k to : ℕ) (now next : State) → next ≡ where_ends (take p) tic k (thread_in p k) now
    → HoldNothing p tic k to now → HoldNothing p tic (k + 1) to next
hold_rest p tic k to now next is hold place low high ends =
    ap (λ (s : State). (taken_at s place).held) is
    ∙ either (λ (s : State). (taken_at s place).held ≡ false) (ends_at tic (thread_in p k)) (take p k (thread_in p k) now) now
    (λ yes. ap (λ (t : Taken). t.held) (take_others p k place (thread_in p k) now (differ k place low)) ∙ hold place (weaker k place low) high ends)
    (λ no. hold place (weaker k place low) high ends)
  where
    differ : (a b : ℕ) → a + 1 ≤ b → b ≢ a
    differ a b less = λ same. absurd (omega (arith, less, same))

    weaker : (a b : ℕ) → a + 1 ≤ b → a ≤ b
    weaker a b less = omega (arith, less)

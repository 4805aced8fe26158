-- The publications of all rounds in flight, one thread after another.
use Rattle.std.proofs.Common.{◌≡◌, ◌∙◌, ℕ, ◌+◌, ◌<◌, Bool, true, false, List, [], ◌∷◌, ◌++◌, Option, Some, None, ap, append-nil, append_assoc, drop, length, refl, sym}
use Rattle.std.proofs.lemmas.Bool.{and_from, and_left}
use Rattle.std.proofs.lemmas.List.{drop_more}
use Rattle.std.specs.Prelude.{◌&&◌}
use Rattle.trick_exec_posts.proofs.Threads.{AreFound, found_at}
use Rattle.trick_exec_posts.specs.Flight.{thread_in}
use Rattle.trick_exec_posts.specs.Rounds.{publication_of}
use Rattle.trick_model.specs.Beside.{has_round, is_in_flight}
use Rattle.trick_model.specs.Plan.{Plan, is_async, threads_beside}
use Rattle.trick_model.specs.Run.{all_published}
use Rattle.trick_model.specs.State.{State, taken_at}
use Rattle.trick_model.specs.declared.entry.Entry.{Entry}
use Rattle.trick_model.specs.declared.entry.Entry.TheVariants.{Publish}
use Rattle.trick_model.specs.declared.thread.Thread.{Thread}
use Rattle.trick_post_work.specs.Work.{no_thread}

-- ---- one thread

entry_where : Bool → ℕ → List Entry
entry_where b number = elim b [ true ↦ Publish number ∷ [] | false ↦ [] ]

is_none : (b : Bool) (number : ℕ) → b ≡ false → [] ≡ entry_where b number
unfolding entry_where
is_none true number e = cc e
is_none false number e = refl

is_one : (b : Bool) (number : ℕ) → b ≡ true → Publish number ∷ [] ≡ entry_where b number
unfolding entry_where
is_one true number e = refl
is_one false number e = cc e

not_both : (a b : Bool) → a ≡ true → b ≡ false → (a && b) ≡ false
not_both true b e f = f
not_both false b e f = cc e

-- the thread is not asynchronous
pub other_kind : (s : State) (place : ℕ) (thread : Thread) (entries : List Entry) → is_async thread.process ≡ false
    → entries ≡ entries ++ publication_of s place thread
unfolding entry_where
other_kind s place thread entries goes =
    sym (append-nil entries)
    ∙ ap (λ (es : List Entry). entries ++ es) (is_none (has_round s place thread) thread.number (and_left (is_async thread.process) (taken_at s place).held goes))

-- it has no round in flight
pub no_round : (s : State) (place : ℕ) (thread : Thread) (entries : List Entry) → is_async thread.process ≡ true → (taken_at s place).held ≡ false
    → entries ≡ entries ++ publication_of s place thread
unfolding entry_where
no_round s place thread entries goes none =
    sym (append-nil entries)
    ∙ ap (λ (es : List Entry). entries ++ es)
    (is_none (has_round s place thread) thread.number (not_both (is_async thread.process) (taken_at s place).held goes none))

pub one_round : (s : State) (place : ℕ) (thread : Thread) (entries : List Entry) → is_async thread.process ≡ true → (taken_at s place).held ≡ true
    → entries ++ Publish thread.number ∷ [] ≡ entries ++ publication_of s place thread
unfolding entry_where
one_round s place thread entries goes held =
    ap (λ (es : List Entry). entries ++ es)
    (is_one (has_round s place thread) thread.number (and_from (is_async thread.process) (taken_at s place).held goes held))

-- ---- threads one after another

by_found : State → Option (ℕ × Thread) → Bool
by_found s found = elim found [ None ↦ false | Some found ↦ has_round s found.0 found.1 ]

-- whether the thread of a place has a round in flight
in_flight_at : (p : Plan) → AreFound (threads_beside p) → (s : State) (place : ℕ) → place < length (threads_beside p)
    → is_in_flight p s (thread_in p place).number ≡ has_round s place (thread_in p place)
unfolding by_found
in_flight_at p found s place there = ap (by_found s) (found_at (threads_beside p) found place no_thread there)

choose : Bool → ℕ → List Entry → List Entry
choose b number more = elim b [ true ↦ Publish number ∷ more | false ↦ more ]

chosen : (b : Bool) (number : ℕ) (more : List Entry) → choose b number more ≡ entry_where b number ++ more
unfolding choose entry_where
chosen true number more = refl
chosen false number more = refl

published_first : (p : Plan) → AreFound (threads_beside p) → (s : State) (k : ℕ) → k < length (threads_beside p)
    → all_published p (drop k (threads_beside p)) s
    ≡ publication_of s k (thread_in p k) ++ all_published p (drop (k + 1) (threads_beside p)) s
unfolding choose entry_where
published_first p found s k there =
    let more = all_published p (drop (k + 1) (threads_beside p)) s in
    let thread = thread_in p k in
    ap (λ (ts : List Thread). all_published p ts s) (drop_more (threads_beside p) k no_thread there)
    ∙ ap (λ (b : Bool). choose b thread.number more) (in_flight_at p found s k there)
    ∙ chosen (has_round s k thread) thread.number more

-- one thread more
pub published_more : (p : Plan) → AreFound (threads_beside p) → (s : State) (k : ℕ) (old new whole : List Entry) → k < length (threads_beside p)
    → new ≡ old ++ publication_of s k (thread_in p k)
    → old ++ all_published p (drop k (threads_beside p)) s ≡ whole
    → new ++ all_published p (drop (k + 1) (threads_beside p)) s ≡ whole
published_more p found s k old new whole there is left =
    let more = all_published p (drop (k + 1) (threads_beside p)) s in
    ap (λ (es : List Entry). es ++ more) is
    ∙ append_assoc old (publication_of s k (thread_in p k)) more
    ∙ ap (λ (es : List Entry). old ++ es) (sym (published_first p found s k there)) ∙ left

-- What the round of one thread adds to a choice.
use Rattle.std.specs.Prelude.{◌≡◌, ◌≤◌, ℕ, Bool, true, false, nat_le, List, [], ◌∷◌, ◌++◌, filter, length}
use Rattle.trick_model.specs.Plan.{Plan}
use Rattle.trick_model.specs.State.{State}
use Rattle.trick_model.specs.Turn.{publishes}
use Rattle.trick_model.specs.declared.entry.Entry.{Entry}
use Rattle.trick_model.specs.declared.thread.Thread.{Thread}
use Rattle.trick_post_work.specs.Polls.{Poll}
use Rattle.trick_post_work.specs.declared.posts.Posted.{Posted}
use Rattle.trick_post_work.specs.declared.posts.Posted.TheVariants.{Ready, NotYet}
use Rattle.trick_post_work.specs.declared.posts.Posts.{Ghosts}
use Rattle.trick_exec_meaning.specs.Rounds.{Chooses, patience}

-- an entry, if it is a publication that counts
abbrev pub counted_of : Plan → State → Entry → List Entry
counted_of p s entry = filter (publishes p s) (entry ∷ [])

-- the answer of a poll, by whether the round is published
abbrev pub answer_of : Bool → Posted
answer_of true = Ready
answer_of false = NotYet

-- The polls by which it is decided whether a round is published that has waited so long: one, or none
-- where it has waited long enough.
abbrev pub polls_for : (thread waited turn : ℕ) → Bool → List Poll
polls_for thread waited turn published = elim (nat_le patience waited) [
  | true ↦ []
  | false ↦ record { thread = thread; turn = turn; answer = answer_of published } ∷ []
]

-- Of the thread of a place it was decided whether its round is published, after those before it.
pub record Adds {Q : Type 0} (posts : Ghosts Q) (s : State) (waits : List ℕ) (place : ℕ) (thread : Thread)
    (old new : Q) (before now : List Entry) : Type 0 where
  pub polls : List Poll
  pub asked : posts.asked old polls new
  pub chooses : (threads : List Thread) (earlier : List Poll) → length threads ≡ place
      → Chooses s waits threads before earlier → Chooses s waits (threads ++ thread ∷ []) now (earlier ++ polls)

-- Posts of one plan, with the same work in flight.
pub record AreAsIs {Q : Type 0} (posts : Ghosts Q) (old new : Q) : Type 0 where
  pub plan : posts.plan new ≡ posts.plan old
  pub in_flight : (n : ℕ) → posts.in_flight new n ≡ posts.in_flight old n
  pub late : posts.lateness old ≤ posts.lateness new

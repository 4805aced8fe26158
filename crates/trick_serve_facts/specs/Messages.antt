-- The messages to one session: which of them were put into its outbox.
use Rattle.std.specs.Prelude.{◌≡◌, ◌≢◌, ℕ, true, false, List, [], ◌++◌, Some}
use Rattle.trick_serve_hearing.specs.Sides.{Queues, Side}
use Rattle.trick_wire.specs.Ends.{HasWaiting}

-- The outbox of a session was full at one moment, and messages were left out.
pub record WasFull (s : Side) (dropped : List (List ℕ)) : Type 0 where
  pub queues : Queues
  pub seated : s.queues ≡ Some queues
  pub waiting : HasWaiting s.put queues.room
  pub some : dropped ≢ []

-- Of the messages to a session the first ones were put into its outbox, in order, each once. The others were left out:
-- there are some exactly where its outbox was full.
pub record HasMessages (s : Side) (messages : List (List ℕ)) : Type 0 where
  pub dropped : List (List ℕ)
  pub messages_are : messages ≡ s.put ++ dropped
  pub all : s.slow ≡ false → dropped ≡ []
  pub full : s.slow ≡ true → WasFull s dropped

-- What a client was sent, also in a run that stopped.
use Rattle.std.specs.Prelude.{◌≡◌, ℕ, ◌+◌, List, [], ◌++◌, Some}
use Rattle.trick_model.specs.Files.{messages_to, session_text, turns_said}
use Rattle.trick_model.specs.Plan.{Plan}
use Rattle.trick_model.specs.Run.{opened}
use Rattle.trick_model.specs.Session.{Message}
use Rattle.trick_model.specs.State.{State}
use Rattle.trick_model.specs.declared.entry.Entry.{Entry}
use Rattle.trick_serve_source.specs.Calls.{View, Went}
use Rattle.trick_serve_hearing.specs.Sides.{Queues, side}
use Rattle.trick_serve_facts.specs.Clients.{EndSays, LinkTale}
use Rattle.trick_exec_sources.specs.Turns.{Answer}
use Rattle.trick_wire.specs.HasWritten.{HasWritten, text_of}

-- These messages were handed over in a run, and of those to session n the first ones were kept for its client; what was
-- kept went to its link, as far as that took it.
pub record HasBeenSent (n : ℕ) (said : List Message) (tale : LinkTale) : Type 0 where
  pub kept : List (List ℕ)
  pub dropped : List (List ℕ)
  pub messages_are : messages_to n said ≡ kept ++ dropped
  pub sent : HasWritten tale.taken_before tale.taken_now tale.write_before tale.write_now tale.wrote kept

-- So it is with each client that has a seat, whatever its source of entries did after it had no seat.
abbrev pub ClientsAreSent : Type 0
ClientsAreSent =
    (old new : View) (answers : List Answer) (said : List Message) (k : ℕ) (queues : Queues) (tale : LinkTale)
    → old.seats ≡ [] → Went old new answers said → (side new.seats k).queues ≡ Some queues
    → EndSays tale (side new.seats k) → HasBeenSent (k + 1) said tale

-- Where the messages that were handed over are the first ones of a run, what a client's link took is a first part of the
-- text of its session in that run.
abbrev pub SentAreFronts : Type 0
SentAreFronts =
    (p : Plan) (s : State) (lists : List (List Entry)) (n : ℕ) (said rest : List Message) (tale : LinkTale)
    (was : HasBeenSent n said tale) → turns_said p (opened s) lists ≡ said ++ rest
    → (left : List ℕ) × (text_of (session_text p s lists n) ≡ was.sent.part ++ left)

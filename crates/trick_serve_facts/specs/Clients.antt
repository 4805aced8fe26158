-- What the session of one client came to.
use Rattle.std.specs.List.{list_any}
use Rattle.std.specs.Prelude.{◌≡◌, ◌≢◌, ◌⊎◌, ℕ, ◌+◌, true, List, [], ◌++◌, Option, Some, None, IsTrue}
use Rattle.trick_model.specs.Commands.{lines as lines_of}
use Rattle.trick_model.specs.Files.{session_text}
use Rattle.trick_model.specs.Plan.{Plan}
use Rattle.trick_model.specs.Run.{opened}
use Rattle.trick_model.specs.State.{State}
use Rattle.trick_model.specs.declared.entry.Cause.{Cause}
use Rattle.trick_model.specs.declared.entry.Cause.TheVariants as cause
use Rattle.trick_model.specs.declared.entry.Entry.{Entry}
use Rattle.trick_outside.specs.Causes.{Rose}
use Rattle.trick_serve_source.specs.Calls.{View}
use Rattle.trick_serve_hearing.specs.Life.{own}
use Rattle.trick_serve_hearing.specs.Sides.{Queues, Side, side}
use Rattle.trick_serve_facts.specs.HangUps.{HangsUpIn}
use Rattle.trick_serve_facts.specs.LastTurns.{AreOfLastTurn}
use Rattle.trick_serve_facts.specs.Life.{AskBy, is_write_fault, life}
use Rattle.trick_serve_facts.specs.Serves.{IsServedRun, all_entries}
use Rattle.trick_wire.specs.Ends.{HasWaiting}
use Rattle.trick_wire.specs.HasHeard.{HasHeard}
use Rattle.trick_wire.specs.HasWritten.{HasWritten}
use Rattle.trick_wire.specs.Puts.{IsTooLong}
use Rattle.trick_wire.specs.declared.heard.WriteStop.{WriteStop}

-- ---- the links of a client

-- What the two links of a client tell: the bytes that the one had to give, what the other had taken at first and has
-- taken at the end, how often each had failed at first and at the end, and why what was written stopped.
pub record LinkTale : Type 0 where
  pub told : Option (List ℕ)
  pub read_before : ℕ
  pub read_now : ℕ
  pub taken_before : Option (List ℕ)
  pub taken_now : Option (List ℕ)
  pub write_before : ℕ
  pub write_now : ℕ
  pub wrote : WriteStop

-- What is said of a session's ends, once it has ended: what was heard are first lines of the link's bytes, what was put
-- was written as far as the link took it, and a fault that its writer told was one of its link.
pub record EndSays (tale : LinkTale) (s : Side) : Type 0 where
  pub heard : HasHeard tale.told (Rose tale.read_before tale.read_now) s.heard
  pub sent : HasWritten tale.taken_before tale.taken_now tale.write_before tale.write_now tale.wrote s.put
  pub told : IsTrue (list_any is_write_fault s.told) → Rose tale.write_before tale.write_now

-- ---- its session

-- Which lines of a client's bytes were not said: none where it left by HungUp; and none but those after a line that is
-- too long where it left by LongLine.
abbrev pub IsUnsaid : Option Cause → List ℕ → List (List ℕ) → Type 0
IsUnsaid None bytes rest = Unit {0}
IsUnsaid (Some cause.Exit) bytes rest = Unit {0}
IsUnsaid (Some cause.HungUp) bytes rest = rest ≡ []
IsUnsaid (Some cause.LinkFault) bytes rest = Unit {0}
IsUnsaid (Some cause.LongLine) bytes rest = (rest ≡ []) × IsTooLong bytes
IsUnsaid (Some cause.Slow) bytes rest = Unit {0}
IsUnsaid (Some cause.NoThread) bytes rest = Unit {0}
IsUnsaid (Some cause.OutOfMemory) bytes rest = Unit {0}

-- A client with these queues was served as session n: its entries are its join, its lines and its leave; its lines are
-- the first lines of its bytes; and it was sent a first part of its session text, which is, turn after turn, the replies
-- to its lines and then a sample of the state at the end of the turn where one is due. What was kept for it is all of
-- that text, unless its outbox was full once; what was left out then is of one turn, after which nothing was said to
-- it. All that was kept was written, unless its link failed or had no memory. It left by NoThread only where a thread
-- was refused to it.
pub record HasServed (p : Plan) (s : State) (lists : List (List Entry)) (n : ℕ) (queues : Queues) (tale : LinkTale)
    : Type 0 where
  pub lines : List (List ℕ)
  pub leave : Option Cause
  pub entries_are : own n (all_entries lists) ≡ life n lines leave
  pub asks : AskBy leave lines
  pub heard : (bytes : List ℕ) → tale.told ≡ Some bytes
      → (rest : List (List ℕ)) × (lines_of bytes ≡ lines ++ rest) × IsUnsaid leave bytes rest
  pub kept : List (List ℕ)
  pub dropped : List (List ℕ)
  pub text_is : session_text p s lists n ≡ kept ++ dropped
  pub sent : HasWritten tale.taken_before tale.taken_now tale.write_before tale.write_now tale.wrote kept
  pub link_fault : leave ≡ Some cause.LinkFault
      → Rose tale.read_before tale.read_now ⊎ Rose tale.write_before tale.write_now
  pub slow : leave ≡ Some cause.Slow → dropped ≢ []
  pub full : dropped ≢ [] → HasWaiting kept queues.room
  pub last_turn : dropped ≢ [] → AreOfLastTurn p s lists n dropped
  pub no_thread : leave ≡ Some cause.NoThread → queues.refused ≡ true
  pub hung_up : leave ≡ Some cause.HungUp → HangsUpIn p (opened s) lists n

-- In a run that was served each client that has a seat was served.
abbrev pub ClientsAreServed : Type 0
ClientsAreServed =
    (p : Plan) (s : State) (lists : List (List Entry)) (old new : View) (k : ℕ) (queues : Queues) (tale : LinkTale)
    → IsServedRun p s lists old new → (side new.seats k).queues ≡ Some queues → EndSays tale (side new.seats k)
    → HasServed p s lists (k + 1) queues tale

-- A session without a seat has no entry and no message.
pub record IsAbsent (p : Plan) (s : State) (lists : List (List Entry)) (n : ℕ) : Type 0 where
  pub entries : own n (all_entries lists) ≡ []
  pub text : session_text p s lists n ≡ []

-- So it is with each session that has none.
abbrev pub OthersAreAbsent : Type 0
OthersAreAbsent =
    (p : Plan) (s : State) (lists : List (List Entry)) (old new : View) (k : ℕ)
    → IsServedRun p s lists old new → (side new.seats k).queues ≡ None → IsAbsent p s lists (k + 1)

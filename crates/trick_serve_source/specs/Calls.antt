-- What the source of entries did, call after call.
use Rattle.std.specs.List.{All}
use Rattle.std.specs.Prelude.{◌≡◌, ◌≢◌, ℕ, ◌+◌, ◌-◌, Bool, true, false, List, [], ◌∷◌, ◌++◌, Option, Some, None, IsTrue}
use Rattle.trick_model.specs.Session.{Message}
use Rattle.trick_model.specs.Turn.{is_frozen}
use Rattle.trick_model.specs.declared.entry.Entry.{Entry}
use Rattle.trick_model.specs.declared.session.Session.{Session}
use Rattle.trick_serve_hearing.specs.Life.{AllLive, Lives}
use Rattle.trick_serve_hearing.specs.Messages.{IsHanded}
use Rattle.trick_serve_hearing.specs.Rules.{AreQuick, Keeps}
use Rattle.trick_serve_hearing.specs.Ended.{has_end}
use Rattle.trick_serve_hearing.specs.Sides.{side}
use Rattle.trick_serve_hearing.specs.declared.seat.Seat.{Seat}
use Rattle.trick_exec_sources.specs.Turns.{Answer, Sessions, in_next}

-- The source of entries at one moment: its seats, its sessions, whether no client comes any more, whether there was no
-- memory once, and whether the door had answered, before its first client, that none had come.
pub record View : Type 0 where
  pub seats : List Seat
  pub sessions : Sessions
  pub over : Bool
  pub broke : Bool
  pub silent : Bool

-- What was said once of the first answer of the door stays.
abbrev pub StaysSilent : View → View → Type 0
StaysSilent old new = old.silent ≡ true → new.silent ≡ true

-- ---- one call

-- Nothing came that is an entry. Where no client comes any more none does later.
pub record IsQuiet (there : List Session) (old new : View) : Type 0 where
  pub lives : AllLive there old.seats new.seats []
  pub sessions : new.sessions ≡ old.sessions
  pub whole : new.broke ≡ old.broke
  pub over : old.over ≡ true → new.over ≡ true
  pub silent : StaysSilent old new

-- A list is given, which in Freeze is not empty. Where no client had come by then, the door had answered so. Of the
-- messages to the sessions that have not left after it none was left out.
pub record IsGiven (answer : Answer) (list : List Entry) (old new : View) : Type 0 where
  pub lives : AllLive answer.sessions old.seats new.seats list
  pub rules : Keeps (in_next old.sessions) list new.sessions
  pub frozen : IsTrue (is_frozen answer.mode) → list ≢ []
  pub whole : new.broke ≡ old.broke
  pub silent : StaysSilent old new
  pub answered : new.seats ≡ [] → list ≡ [] → new.silent ≡ true
  pub quick : AreQuick new.seats new.sessions.live

-- No line comes any more: no client comes, and of each session that has not left the end was heard.
pub record IsOver (answer : Answer) (old new : View) : Type 0 where
  pub frozen : IsTrue (is_frozen answer.mode)
  pub quiet : IsQuiet answer.sessions old new
  pub over : new.over ≡ true
  pub ended : All (λ n. IsTrue (has_end (side new.seats (n - 1)).heard)) new.sessions.live

-- There was no memory: of what happened then nothing is given, and no list is given from then on.
pub record IsBroken (there : List Session) (old new : View) : Type 0 where
  pub lost : (k : ℕ) → (own : List Entry) × Lives (k + 1) there (side old.seats k) (side new.seats k) own
  pub broke : new.broke ≡ true
  pub silent : StaysSilent old new

-- A message is handed to its session, and no other session changes.
pub record HandsOver (message : Message) (old new : View) : Type 0 where
  pub own : (k : ℕ) → message.0 ≡ k + 1 → IsHanded message.1 (side old.seats k) (side new.seats k)
  pub others : (k : ℕ) → message.0 ≢ k + 1 → side new.seats k ≡ side old.seats k
  pub sessions : new.sessions ≡ old.sessions
  pub over : new.over ≡ old.over
  pub broke : new.broke ≡ old.broke
  pub silent : new.silent ≡ old.silent

-- What a call can be: a look at which nothing came, an answer, a want of memory, or a message.
pub data Call : Type 0 where
  Looks : List Session → Call
  Answers : Answer → Call
  Breaks : List Session → Call
  Hands : Message → Call

-- an answer by its list
abbrev pub IsAnswered : Option (List Entry) → Answer → View → View → Type 0
IsAnswered (Some list) answer old new = IsGiven answer list old new × (old.broke ≡ false)
IsAnswered None answer old new = IsOver answer old new

-- what a call does
abbrev pub Does : Call → View → View → Type 0
Does (Looks there) old new = IsQuiet there old new
Does (Answers answer) old new = IsAnswered answer.list answer old new
Does (Breaks there) old new = IsBroken there old new
Does (Hands message) old new = HandsOver message old new

-- the answer of a call
abbrev pub answer_of : Call → List Answer
answer_of (Looks there) = []
answer_of (Answers answer) = answer ∷ []
answer_of (Breaks there) = []
answer_of (Hands message) = []

-- the message of a call
abbrev pub message_of : Call → List Message
message_of (Looks there) = []
message_of (Answers answer) = []
message_of (Breaks there) = []
message_of (Hands message) = message ∷ []

-- ---- calls, one after another

abbrev pub answers_of : List Call → List Answer
answers_of [] = []
answers_of (call ∷ calls) = answer_of call ++ answers_of calls

abbrev pub messages_of : List Call → List Message
messages_of [] = []
messages_of (call ∷ calls) = message_of call ++ messages_of calls

-- these calls, one after another
abbrev pub DoAll : List Call → View → View → Type 0
DoAll [] old new = new ≡ old
DoAll (call ∷ calls) old new = (mid : View) × Does call old mid × DoAll calls mid new

-- From the first moment to the second just these answers were given, and these messages handed over.
pub record Went (old new : View) (answers : List Answer) (messages : List Message) : Type 0 where
  pub calls : List Call
  pub did : DoAll calls old new
  pub answers_are : answers_of calls ≡ answers
  pub messages_are : messages_of calls ≡ messages

-- So it went, and the queues to and from the door are still the same.
pub record WentOn {Q : Type 0} (old new : View) (before now : Q) (answers : List Answer) (messages : List Message)
    : Type 0 where
  pub went : Went old new answers messages
  pub same : now ≡ before

-- A turn's entries as they are heard, and messages, as values of the code hold them.
use Rattle.std.specs.Prelude.{ℤ, List, [], ◌∷◌, map, Option, Some, None}
use Rattle.trick_exec_entries.specs.declared.hearing.Hearing.{Hearing as HearingValue}
use Rattle.trick_exec_entries.specs.declared.hearing.Message.{Message as MessageValue}
use Rattle.trick_model.specs.Session.{Message}
use Rattle.trick_model.specs.Turn.{Hearing}
use Rattle.trick_exec_tic.specs.Current.{asking_of}

-- the state in its turn with the sessions; `numbers` are those of its memory
abbrev pub hearing_of : {M : Type 0} → (M → List ℤ) → HearingValue M → Hearing
hearing_of numbers hearing = record { asking = asking_of numbers hearing.current; sessions = hearing.sessions.items }

-- the message that a value of the code holds
abbrev pub message_of : MessageValue → Message
message_of message = (message.session, message.bytes.items)

-- messages in their order
abbrev pub said_of : List MessageValue → List Message
said_of messages = map message_of messages

-- one message, or none
abbrev pub messages_in : Option MessageValue → List Message
messages_in None = []
messages_in (Some message) = message_of message ∷ []

-- What a reply of the code says, and when a sample is sent.
use Rattle.std.specs.Prelude.{ℕ, true, false, List, [], ◌∷◌, Option, Some, None}
use Rattle.trick_model.specs.Session.{Answer, is_sampled, sample}
use Rattle.trick_model.specs.State.{State}
use Rattle.trick_model.specs.declared.session.Session.{Session}
use Rattle.trick_session.specs.declared.reply.Reply.{Reply}

-- The message of a reply. No byte is no message.
abbrev pub messages : List ℕ → List (List ℕ)
messages [] = []
messages (b ∷ bs) = (b ∷ bs) ∷ []

-- the answer that a session and a reply are
abbrev pub answer_in : Session → Reply → Answer
answer_in session reply = record {
  session = session;
  reply = messages reply.bytes.items;
  deed = reply.act;
  resume = reply.run;
}

-- The sample line of a session, where one is due since a tic.
abbrev pub sample_since : ℕ → State → Session → Option (List ℕ)
sample_since from s session =
    elim (is_sampled from s.tic session) [ true ↦ Some (sample s.memory session) | false ↦ None ]

-- Entries, and the replies to them, one after another.
use Rattle.std.proofs.Common.{◌≡◌, ◌∙◌, ℕ, ◌+◌, List, [], ◌∷◌, ◌++◌, ap, append_assoc, sym}
use Rattle.std.specs.Prelude.{map}
use Rattle.trick_model.specs.Events.{Asking}
use Rattle.trick_model.specs.Plan.{Plan}
use Rattle.trick_model.specs.Session.{Answer, Message, answered}
use Rattle.trick_model.specs.Turn.{Hearing, changed, do_between, hear, heard, replies, reply, resumed, session_of}
use Rattle.trick_model.specs.declared.entry.Entry.TheVariants.{Said}
use Rattle.trick_model.specs.declared.entry.Entry.{Entry}
use Rattle.trick_model.specs.declared.session.Session.{Session}
use Rattle.trick_session.specs.Answers.{answer_in, messages}
use Rattle.trick_session.specs.declared.reply.Reply.{Reply}

module _ (p : Plan) (entry : Entry) (left rest : List Entry) (old now : Hearing)
    (left_is : left ≡ entry ∷ rest) (now_is : now ≡ hear p entry old) where
  pub heard_more : heard p rest now ≡ heard p left old
  heard_more = ap (heard p rest) now_is ∙ sym (ap (λ (es : List Entry). heard p es old) left_is)

  pub said_more : (so new more : List Message) → new ≡ so ++ more → more ≡ reply p entry old → new ++ replies p rest now ≡ so ++ replies p left old
  said_more so new more new_is more_is =
      ap (λ (l : List Message). l ++ replies p rest now) new_is
      ∙ append_assoc so more (replies p rest now)
      ∙ ap (λ (h : Hearing). so ++ (more ++ replies p rest h)) now_is
      ∙ ap (λ (l : List Message). so ++ (l ++ replies p rest (hear p entry old))) more_is
      ∙ sym (ap (λ (es : List Entry). so ++ replies p es old) left_is)

-- ---- a line

module _ (p : Plan) (number : ℕ) (line : List ℕ) (h : Hearing) (session : Session) (said : Reply) where
  pub said_heard : (asking : Asking) (sessions : List Session)
      → answer_in session said ≡ answered p (p.command line) (session_of number h.sessions)
      → sessions ≡ changed (λ (old : Session). session) number h.sessions
      → asking ≡ resumed p said.run (do_between p said.act h.asking)
      → record { asking = asking; sessions = sessions } ≡ hear p (Said number line) h
  said_heard asking sessions is change asks =
      let one = asks ∙ ap (λ (a : Answer). resumed p a.resume (do_between p a.deed h.asking)) is in
      let two = change ∙ ap (λ (a : Answer). changed (λ (old : Session). a.session) number h.sessions) is in
      λ i. record { asking = one i; sessions = two i }

  pub said_reply : (messages_are : List Message)
      → answer_in session said ≡ answered p (p.command line) (session_of number h.sessions)
      → messages_are ≡ map (λ (bytes : List ℕ). (number, bytes)) (messages said.bytes.items)
      → messages_are ≡ reply p (Said number line) h
  said_reply messages_are is are = are ∙ ap (λ (a : Answer). map (λ (bytes : List ℕ). (number, bytes)) a.reply) is

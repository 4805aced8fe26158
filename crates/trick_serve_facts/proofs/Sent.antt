-- What a client was sent, also in a run that stopped.
use Rattle.std.proofs.Common.{◌≡◌, ◌∙◌, inl, inr, ⊎_elim, ℕ, ◌+◌, true, false, List, [], ◌∷◌, ◌++◌, Option, Some, None, ap, append_assoc, append-nil, subst, sym}
use Rattle.std.proofs.lemmas.Bool.Decides.{eqb_tells}
use Rattle.trick_model.specs.Files.{messages_to}
use Rattle.trick_model.specs.Session.{Message}
use Rattle.trick_model.specs.declared.entry.Entry.{Entry}
use Rattle.trick_model.specs.declared.session.Session.{Session}
use Rattle.trick_serve_source.specs.Calls.{Answers, Breaks, Call, DoAll, Does, Hands, IsAnswered, Looks, View, Went, message_of, messages_of}
use Rattle.trick_serve_hearing.specs.Life.{Happening, Happens, Lives, after}
use Rattle.trick_serve_hearing.specs.Sides.{Side, side}
use Rattle.trick_serve_hearing.specs.declared.seat.Seat.{Seat}
use Rattle.trick_serve_facts.proofs.Keeping.{messages_join, one_to}
use Rattle.trick_serve_facts.proofs.Messages.{messages_handed, messages_happen, messages_none, same_messages}
use Rattle.trick_serve_facts.specs.Messages.{HasMessages}
use Rattle.trick_serve_facts.specs.Sent.{ClientsAreSent, SentAreFronts}
use Rattle.trick_exec_sources.specs.Turns.{Answer}
use Rattle.trick_wire.proofs.Writing.{text_of-append}
use Rattle.trick_wire.specs.HasWritten.{text_of}

-- ---- one call

all_happen : (hs : List Happening) (a b : Side) (messages : List (List ℕ)) → Happens hs a b → HasMessages a messages → HasMessages b messages
all_happen [] a b messages did was = subst (λ (s : Side). HasMessages s messages) (sym did) was
all_happen (h ∷ hs) a b messages did was = all_happen hs (after h a) b messages did.1 (messages_happen h a messages did.0 was)

-- what happens to a session changes nothing of its messages
lives_on : (n : ℕ) (there : List Session) (a b : Side) (mine : List Entry) (messages : List (List ℕ)) → Lives n there a b mine
    → HasMessages a messages → HasMessages b messages
lives_on n there a b mine messages (inl up) was =
    same_messages a b messages (ap (λ (s : Side). s.queues) up.is) (ap (λ (s : Side). s.put) up.is) (ap (λ (s : Side). s.slow) up.is) was
lives_on n there a b mine messages (inr goes) was = all_happen goes.happened a b messages goes.happens was

answered_on : (k : ℕ) (list : Option (List Entry)) (answer : Answer) (old new : View) (messages : List (List ℕ)) → IsAnswered list answer old new
    → HasMessages (side old.seats k) messages → HasMessages (side new.seats k) messages
answered_on k None answer old new messages did was =
    lives_on (k + 1) answer.sessions (side old.seats k) (side new.seats k) [] messages (did.quiet.lives.each k) was
answered_on k (Some list) answer old new messages did was =
    lives_on (k + 1) answer.sessions (side old.seats k) (side new.seats k) _ messages (did.0.lives.each k) was

nothing_more : (s : Side) (messages : List (List ℕ)) → HasMessages s messages → HasMessages s (messages ++ [])
nothing_more s messages was = subst (λ (l : List (List ℕ)). HasMessages s l) (sym (append-nil messages)) was

handed_on : (k : ℕ) (message : Message) (old new : View) (messages : List (List ℕ)) → Does (Hands message) old new
    → HasMessages (side old.seats k) messages → HasMessages (side new.seats k) (messages ++ messages_to (k + 1) (message ∷ []))
handed_on k message old new messages did was = ⊎_elim
    (λ mine.
    subst (λ (l : List (List ℕ)). HasMessages (side new.seats k) (messages ++ l)) (sym (one_to (k + 1) message true mine.0))
    (messages_handed message.1 (side old.seats k) (side new.seats k) messages (did.own k mine.1) was))
    (λ other.
    subst (λ (l : List (List ℕ)). HasMessages (side new.seats k) (messages ++ l)) (sym (one_to (k + 1) message false other.0))
    (subst (λ (s : Side). HasMessages s (messages ++ [])) (sym (did.others k other.1)) (nothing_more (side old.seats k) messages was)))
    (eqb_tells message.0 (k + 1))

call_on : (k : ℕ) (call : Call) (old new : View) (messages : List (List ℕ)) → Does call old new → HasMessages (side old.seats k) messages
    → HasMessages (side new.seats k) (messages ++ messages_to (k + 1) (message_of call))
call_on k (Looks there) old new messages did was =
    nothing_more (side new.seats k) messages (lives_on (k + 1) there (side old.seats k) (side new.seats k) [] messages (did.lives.each k) was)
call_on k (Answers answer) old new messages did was =
    nothing_more (side new.seats k) messages (answered_on k answer.list answer old new messages did was)
call_on k (Breaks there) old new messages did was =
    let lost = did.lost k in
    nothing_more (side new.seats k) messages (lives_on (k + 1) there (side old.seats k) (side new.seats k) lost.0 messages lost.1 was)
call_on k (Hands message) old new messages did was = handed_on k message old new messages did was

-- ---- calls, one after another

calls_on : (k : ℕ) (calls : List Call) (old new : View) (messages : List (List ℕ)) → DoAll calls old new → HasMessages (side old.seats k) messages
    → HasMessages (side new.seats k) (messages ++ messages_to (k + 1) (messages_of calls))
calls_on k [] old new messages did was =
    subst (λ (v : View). HasMessages (side v.seats k) (messages ++ [])) (sym did) (nothing_more (side old.seats k) messages was)
calls_on k (call ∷ calls) old new messages did was =
    let n = k + 1 in
    let one = call_on k call old did.0 messages did.1 was in
    let rest = calls_on k calls did.0 new (messages ++ messages_to n (message_of call)) did.2 one in
    subst (λ (l : List (List ℕ)). HasMessages (side new.seats k) l)
    (append_assoc messages (messages_to n (message_of call)) (messages_to n (messages_of calls))
    ∙ ap (λ (l : List (List ℕ)). messages ++ l) (sym (messages_join n (message_of call) (messages_of calls))))
    rest

-- From a source without a seat on, the messages that were handed over are those of each session.
went_on : (k : ℕ) (old new : View) (answers : List Answer) (said : List Message) → old.seats ≡ [] → Went old new answers said
    → HasMessages (side new.seats k) (messages_to (k + 1) said)
went_on k old new answers said none went =
    subst (λ (l : List Message). HasMessages (side new.seats k) (messages_to (k + 1) l)) went.messages_are
    (calls_on k went.calls old new [] went.did
    (subst (λ (l : List Seat). HasMessages (side l k) []) (sym none) messages_none))

-- ---- the laws

pub clients_sent : ClientsAreSent
clients_sent old new answers said k queues tale none went seated says =
    let so = went_on k old new answers said none went in
    record { kept = (side new.seats k).put; dropped = so.dropped; messages_are = so.messages_are; sent = says.sent }

pub sent_fronts : SentAreFronts
sent_fronts p s lists n said rest tale was is =
    let wrote = was.sent in
    let more = text_of was.dropped ++ text_of (messages_to n rest) in (
      wrote.rest ++ more,
      ap (λ (l : List Message). text_of (messages_to n l)) is
          ∙ ap text_of (messages_join n said rest)
          ∙ text_of-append (messages_to n said) (messages_to n rest)
          ∙ ap (λ (l : List (List ℕ)). text_of l ++ text_of (messages_to n rest)) was.messages_are
          ∙ ap (λ (l : List ℕ). l ++ text_of (messages_to n rest)) (text_of-append was.kept was.dropped)
          ∙ append_assoc (text_of was.kept) (text_of was.dropped) (text_of (messages_to n rest))
          ∙ ap (λ (l : List ℕ). l ++ more) wrote.text_is
          ∙ append_assoc wrote.part wrote.rest more,
    )

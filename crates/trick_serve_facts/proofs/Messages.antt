-- The messages to one session, all along a run.
use Rattle.std.proofs.Common.{◌≡◌, ◌≢◌, ◌∙◌, inl, inr, ℕ, Bool, true, false, List, [], ◌∷◌, ◌++◌, ap, append_assoc, append-nil, refl, subst, sym}
use Rattle.std.proofs.lemmas.Bool.{false≢true}
use Rattle.trick_model.specs.declared.entry.Entry.{Entry}
use Rattle.trick_model.specs.declared.session.Session.{Session}
use Rattle.trick_serve_hearing.specs.Life.{Can, CanSit, Happening, Hears, IsSeated, IsSlow, IsTold, Misses, after}
use Rattle.trick_serve_hearing.specs.Messages.{IsHanded}
use Rattle.trick_serve_hearing.specs.Sides.{Side, nobody}
use Rattle.trick_serve_facts.proofs.Keeping.{IsKept}
use Rattle.trick_serve_facts.specs.Messages.{HasMessages}
use Rattle.trick_wire.specs.Ends.{HasWaiting}

-- what is put, and whether it is slow, stay as they are
pub same_messages : (a b : Side) (messages : List (List ℕ)) → b.queues ≡ a.queues → b.put ≡ a.put → b.slow ≡ a.slow → HasMessages a messages
    → HasMessages b messages
same_messages a b messages queues put_is slow_is was = record {
  dropped = was.dropped;
  messages_are = was.messages_are ∙ ap (λ (l : List (List ℕ)). l ++ was.dropped) (sym put_is);
  all = λ quick. was.all (sym slow_is ∙ quick);
  full = λ slow.
      let so = was.full (sym slow_is ∙ slow) in
      record {
        queues = so.queues;
        seated = queues ∙ so.seated;
        waiting = subst (λ (l : List (List ℕ)). HasWaiting l so.queues.room) (sym put_is) so.waiting;
        some = so.some;
      };
}

no_messages : (messages : List (List ℕ)) (s : Side) → s.put ≡ [] → s.slow ≡ false → messages ≡ [] → HasMessages s messages
no_messages messages s put_is quick none = record {
  dropped = [];
  messages_are = none ∙ ap (λ (l : List (List ℕ)). l ++ []) (sym put_is);
  all = λ still. refl;
  full = λ slow. absurd (false≢true (sym quick ∙ slow));
}

sits : (s : Side) (refused : Bool) (a : Side) (messages : List (List ℕ)) → CanSit s refused a → HasMessages a messages → HasMessages s messages
sits s refused a messages can was =
    let put_none : a.put ≡ [] = ap (λ (t : Side). t.put) can.first in
    let dropped_none : was.dropped ≡ [] = was.all (ap (λ (t : Side). t.slow) can.first) in
    no_messages messages s can.fresh.2 (ap (λ (t : Side). t.slow) can.seated)
    (was.messages_are ∙ (λ i. put_none i ++ dropped_none i))

pub messages_happen : (h : Happening) (a : Side) (messages : List (List ℕ)) → Can h a → HasMessages a messages → HasMessages (after h a) messages
messages_happen (IsSeated s refused) a messages can was = sits s refused a messages can was
messages_happen (Hears item) a messages can was = same_messages a (after (Hears item) a) messages refl refl refl was
messages_happen (Misses item) a messages can was = same_messages a (after (Misses item) a) messages refl refl refl was
messages_happen (IsTold why) a messages can was = same_messages a (after (IsTold why) a) messages refl refl refl was
messages_happen IsSlow a messages can was = same_messages a (after IsSlow a) messages refl refl refl was

not_none : (items : List (List ℕ)) (item : List ℕ) → items ++ item ∷ [] ≢ []
not_none [] item is = cc
not_none (first ∷ items) item is = cc

pub messages_handed : (bytes : List ℕ) (a b : Side) (messages : List (List ℕ)) → IsHanded bytes a b → HasMessages a messages
    → HasMessages b (messages ++ bytes ∷ [])
messages_handed bytes a b messages (inl put) was =
    let none : was.dropped ≡ [] = was.all put.before in
    let put_is : b.put ≡ a.put ++ bytes ∷ [] = ap (λ (s : Side). s.put) put.is in
    let quick : b.slow ≡ false = ap (λ (s : Side). s.slow) put.is ∙ put.before in
    record {
      dropped = [];
      messages_are =
          ap (λ (l : List (List ℕ)). l ++ bytes ∷ []) (was.messages_are ∙ ap (λ (l : List (List ℕ)). a.put ++ l) none ∙ append-nil a.put)
          ∙ sym put_is ∙ sym (append-nil b.put);
      all = λ still. refl;
      full = λ slow. absurd (false≢true (sym quick ∙ slow));
    }
messages_handed bytes a b messages (inr (inl out)) was =
    let none : was.dropped ≡ [] = was.all out.before in
    let put_is : b.put ≡ a.put = ap (λ (s : Side). s.put) out.is in
    let slow_is : b.slow ≡ true = ap (λ (s : Side). s.slow) out.is in
    record {
      dropped = bytes ∷ [];
      messages_are =
          ap (λ (l : List (List ℕ)). l ++ bytes ∷ []) (was.messages_are ∙ ap (λ (l : List (List ℕ)). a.put ++ l) none ∙ append-nil a.put ∙ sym put_is);
      all = λ quick. absurd (false≢true (sym quick ∙ slow_is));
      full = λ slow. record {
        queues = out.queues;
        seated = ap (λ (s : Side). s.queues) out.is ∙ out.seated;
        waiting = subst (λ (l : List (List ℕ)). HasWaiting l out.queues.room) (sym put_is) out.full;
        some = λ is. not_none [] bytes is;
      };
    }
messages_handed bytes a b messages (inr (inr past)) was =
    let so = was.full past.before in
    subst (λ (s : Side). HasMessages s (messages ++ bytes ∷ [])) (sym past.is) (record {
      dropped = was.dropped ++ bytes ∷ [];
      messages_are = ap (λ (l : List (List ℕ)). l ++ bytes ∷ []) was.messages_are ∙ append_assoc a.put was.dropped (bytes ∷ []);
      all = λ quick. absurd (false≢true (sym quick ∙ past.before));
      full = λ slow. record {
        queues = so.queues;
        seated = so.seated;
        waiting = so.waiting;
        some = not_none was.dropped bytes;
      };
    })

-- The messages to a session are so all along.
pub messages_kept : (n : ℕ) (Shown : List Session → List Entry → Type 0) → IsKept n Shown (λ s mine messages. HasMessages s messages)
messages_kept n Shown = record {
  happens = λ h a mine messages can so. messages_happen h a messages can so;
  hangs_up = λ there list a b mine messages shown up so.
      same_messages a b messages (ap (λ (s : Side). s.queues) up.is) (ap (λ (s : Side). s.put) up.is) (ap (λ (s : Side). s.slow) up.is) so;
  handed = λ bytes a b mine messages q seated did so. messages_handed bytes a b messages did so;
}

-- before anything happened
pub messages_none : HasMessages nobody []
messages_none = no_messages [] nobody refl refl refl

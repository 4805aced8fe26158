-- What the session of one client came to.
use Rattle.std.proofs.Common.{◌≡◌, ◌≢◌, ◌∙◌, ⊎_elim, ℕ, ◌+◌, List, [], Option, Some, None, ap, subst, sym}
use Rattle.std.proofs.lemmas.Bool.{cases_Bool}
use Rattle.trick_model.specs.Files.{messages_to, turns_said}
use Rattle.trick_model.specs.Plan.{Plan}
use Rattle.trick_model.specs.Run.{opened}
use Rattle.trick_model.specs.State.{State}
use Rattle.trick_model.specs.declared.entry.Cause.{Cause}
use Rattle.trick_model.specs.declared.entry.Entry.{Entry}
use Rattle.trick_serve_source.specs.Calls.{View}
use Rattle.trick_serve_hearing.specs.Life.{own}
use Rattle.trick_serve_hearing.specs.Sides.{Queues, Side, side}
use Rattle.trick_serve_facts.proofs.Clients.{fault_is, heard_is, hung_up_at_end, lives_at_end, messages_at_end}
use Rattle.trick_serve_facts.proofs.HangUps.{HasHungUp, hung_up_by}
use Rattle.trick_serve_facts.proofs.LastTurns.{dropped_last}
use Rattle.trick_serve_facts.specs.Clients.{ClientsAreServed, EndSays, HasServed, LinkTale}
use Rattle.trick_serve_facts.specs.LastTurns.{AreOfLastTurn}
use Rattle.trick_serve_facts.specs.Life.{HasLived, HasReason, WasRefused}
use Rattle.trick_serve_facts.specs.Messages.{HasMessages}
use Rattle.trick_serve_facts.specs.Serves.{IsServedRun, all_entries}
use Rattle.trick_wire.specs.Ends.{HasWaiting}

some_same : (p q : Queues) → Some p ≡ Some q → p ≡ q
some_same p q is = cc

some_none : (q : Queues) → Some q ≡ None → ⊥
some_none q is = cc

served_by : (p : Plan) (s : State) (lists : List (List Entry)) (n : ℕ) (here : Side) (queues : Queues) (tale : LinkTale)
    → here.queues ≡ Some queues → EndSays tale here → HasLived n here (own n (all_entries lists))
    → (messages : HasMessages here (messages_to n (turns_said p (opened s) lists)))
    → (messages.dropped ≢ [] → AreOfLastTurn p s lists n messages.dropped)
    → HasHungUp p (opened s) n lists here (own n (all_entries lists)) (messages_to n (turns_said p (opened s) lists))
    → HasServed p s lists n queues tale
served_by p s lists n here queues tale seated says lived messages last hung =
    record {
      lines = lived.lines;
      leave = lived.leave;
      entries_are = lived.entries_are;
      asks = lived.asks;
      heard = heard_is n here (own n (all_entries lists)) tale lived says;
      kept = here.put;
      dropped = messages.dropped;
      text_is = messages.messages_are;
      sent = says.sent;
      link_fault = fault_is lived.leave here tale says lived.reason;
      slow = λ is. (messages.full (subst (λ (o : Option Cause). HasReason o here) is lived.reason)).some;
      last_turn = last;
      full = λ some. ⊎_elim
          (λ slow.
          let full = messages.full slow in
          subst (λ (q : Queues). HasWaiting here.put q.room) (some_same full.queues queues (sym full.seated ∙ seated)) full.waiting)
          (λ quick. absurd (some (messages.all quick)))
          (cases_Bool here.slow);
      no_thread = λ is.
          let was : WasRefused here = subst (λ (o : Option Cause). HasReason o here) is lived.reason in
          ap (λ (q : Queues). q.refused) (sym (some_same was.queues queues (sym was.seated ∙ seated))) ∙ was.refused;
      hung_up = hung_up_by p (opened s) n lists here (own n (all_entries lists)) (messages_to n (turns_said p (opened s) lists)) lived.lines
          lived.leave hung lived.entries_are;
    }

-- what was left out is of one turn
last_of_all : (p : Plan) (s : State) (lists : List (List Entry)) (old new : View) (k : ℕ) → IsServedRun p s lists old new
    → (messages : HasMessages (side new.seats k) (messages_to (k + 1) (turns_said p (opened s) lists)))
    → messages.dropped ≢ [] → AreOfLastTurn p s lists (k + 1) messages.dropped
last_of_all p s lists old new k run messages some = ⊎_elim
    (λ slow. dropped_last p s lists old new k messages.dropped run messages.messages_are slow)
    (λ quick. absurd (some (messages.all quick)))
    (cases_Bool (side new.seats k).slow)

pub clients_served : ClientsAreServed
clients_served p s lists old new k queues tale run seated says = ⊎_elim
    (λ none. absurd (some_none queues (sym seated ∙ ap (λ (t : Side). t.queues) none.0)))
    (λ lived.
    let messages = messages_at_end p s lists old new k run in
    served_by p s lists (k + 1) (side new.seats k) queues tale seated says lived messages (last_of_all p s lists old new k run messages)
    (hung_up_at_end p s lists old new k run))
    (lives_at_end p s lists old new k run)

-- The clients of a whole run that were tended were served, as its door has them.
use Rattle.std.proofs.Common.{◌≡◌, ◌∙◌, ◌⊎◌, inl, inr, ⊎_elim, ℕ, ◌+◌, ◌<◌, ◌≤◌, true, false, List, None, Some, arith, length, refl, subst, sym}
use Rattle.trick_serve_headline.proofs.Doors.{open_over}
use Rattle.trick_serve_headline.proofs.Lives.{lines_told}
use Rattle.trick_serve_headline.proofs.Refused.{refused_fewer, rose_less}
use Rattle.trick_serve_headline.proofs.Tended.{IsClient, asks_of, same_tale, seat_says, sent_late, visits_of}
use Rattle.trick_serve_headline.specs.Clients.{EndsOver, IsClientServed, ServesClients, has_waited, tale_between}
use Rattle.trick_serve_headline.specs.Tended.{ServesTended}
use Rattle.trick_model.specs.Commands.{lines as lines_of}
use Rattle.trick_model.specs.Plan.{Plan}
use Rattle.trick_model.specs.Run.{after_turns, opened}
use Rattle.trick_model.specs.State.{State}
use Rattle.trick_model.specs.declared.entry.Cause.{Cause}
use Rattle.trick_model.specs.declared.entry.Cause.TheVariants as cause
use Rattle.trick_model.specs.declared.entry.Entry.{Entry}
use Rattle.trick_exec_meaning.specs.Answers.{IsSuccession}
use Rattle.trick_exec_meaning.specs.Ran.{last_answer}
use Rattle.trick_serve_source.specs.Calls.{View}
use Rattle.trick_serve_hearing.specs.Clients.{client_queues}
use Rattle.trick_serve_hearing.specs.Sides.{side}
use Rattle.trick_serve_clients.specs.Tended.{HasNoMore, HasTended, IsTendedSeat}
use Rattle.trick_serve_clients.specs.declared.closing.Closed.{Closed}
use Rattle.trick_serve_seats.specs.Taking.{Hosts}
use Rattle.trick_serve_seats.specs.Told.{refused_of}
use Rattle.trick_serve_door.specs.declared.ending.SessionEnd.{SessionEnd}
use Rattle.trick_serve_facts.specs.Clients.{HasServed}
use Rattle.trick_serve_facts.specs.IsServed.{RunsAreServed}
use Rattle.trick_serve_facts.specs.Joins.{FirstClientsJoin}
use Rattle.trick_serve_facts.specs.NoThreads.{FewNoThreads, no_thread_leaves}
use Rattle.trick_serve_facts.specs.Serves.{IsServedRun}
use Rattle.trick_serve_facts.specs.Tales.{tale_of}
use Rattle.trick_serve_facts.specs.Waits.{ClientsAreHeardOut, WaitingIsOver}
use Rattle.trick_serve_facts.specs.Wants.{LeavesAreTold, WantsAreSaid}
use Rattle.trick_wire.specs.declared.heard.WriteStop.TheVariants as stop

-- What is known of all runs that are served.
pub record Laws : Type 0 where
  pub served : RunsAreServed
  pub heard_out : ClientsAreHeardOut
  pub over : WaitingIsOver
  pub leaves : LeavesAreTold
  pub wants : WantsAreSaid
  pub few : FewNoThreads
  pub first : FirstClientsJoin

none_some : (why : Cause) → None ≡ Some why → ⊥
none_some why is = cc

module _ {D I O S : Type 0} (laws : Laws) (h : Hosts D I O S) (door : D) (spawner : S) (p : Plan) (s : State) (lists : List (List Entry)) (old new : View) (closed : Closed D S)
    (run : IsServedRun p s lists old new) (last : run.last ≡ last_answer (after_turns p (opened s) lists)) (right : IsSuccession false lists)
    (tended : HasTended h door spawner new closed) (told : closed.lacked ≡ false) where
  -- ---- one client

  module _ (k : ℕ) (seat : IsTendedSeat h.input h.output tended.arrivals tended.sessions k (side new.seats k)) where
    served : HasServed p s lists (k + 1) (client_queues seat.client.arrival) (tale_of h.input h.output seat.client.arrival seat.client.ended)
    served =
        (laws.served p s lists old new run right).clients k (client_queues seat.client.arrival)
        (tale_of h.input h.output seat.client.arrival seat.client.ended) seat.queues (seat_says h door spawner new closed tended k seat)

    -- a client whose writer had no memory left for that
    left_for_memory : seat.client.ended.wrote ≡ stop.OutOfMemory → served.leave ≡ Some cause.OutOfMemory
    left_for_memory wrote =
        let lack = tended.memory told k seat.client.ended seat.client.goes wrote in
        let so = laws.wants p s lists old new k (client_queues seat.client.arrival) run seat.queues lack in
        laws.leaves (k + 1) served.lines so.0 served.leave (Some cause.OutOfMemory) (sym served.entries_are ∙ so.1)

    -- one that stayed until no line came any more said all its lines
    said_all : has_waited p s lists ≡ true → served.leave ≡ None → (bytes : List ℕ) → h.input.holds seat.client.arrival.input.value ≡ Some bytes
        → lines_of bytes ≡ served.lines
    said_all waited stays bytes tells = ⊎_elim
        (λ left. absurd (none_some left.1
        (sym stays ∙ laws.leaves (k + 1) served.lines left.0 served.leave (Some left.1) (sym served.entries_are ∙ left.2))))
        (λ all. lines_told (k + 1) (lines_of bytes) served.lines None served.leave (sym (all bytes tells) ∙ served.entries_are))
        (laws.heard_out p s lists old new k (client_queues seat.client.arrival) (tale_of h.input h.output seat.client.arrival seat.client.ended) run last waited
        seat.queues (seat_says h door spawner new closed tended k seat))

    client_served : IsClientServed p s lists (has_waited p s lists) (k + 1) (tale_of h.input h.output seat.client.arrival seat.client.ended)
    client_served = record {
      queues = client_queues seat.client.arrival;
      room = seat.client.end.is_past.room;
      served = served;
      memory = λ wrote. left_for_memory wrote;
      ended = λ waited stays bytes tells. said_all waited stays bytes tells;
    }

  seated : (k : ℕ) (links : I × O) (back : SessionEnd I O) → IsClient h door spawner new closed tended k links back → k < length new.seats
      → IsClientServed p s lists (has_waited p s lists) (k + 1) (tale_between h.input h.output links back)
  seated k links back is less =
      let seat = tended.seated k less in
      subst (IsClientServed p s lists (has_waited p s lists) (k + 1))
      (same_tale h door spawner new closed tended k links back (side new.seats k) seat.client is) (client_served k seat)

  -- ---- all of them

  -- as many left for want of a thread as were refused one, or fewer
  few_refused : no_thread_leaves lists ≤ refused_of tended.arrivals
  few_refused =
      let few = laws.few p s lists old new run right in
      let fewer = refused_fewer new.seats tended.arrivals
      (λ k less. let seat = tended.seated k less in record { arrival = seat.client.arrival; comes = seat.client.comes; queues = seat.queues }) in
      omega (arith, few, fewer)

  -- no client came any more
  gives_no_more : HasNoMore tended.last (length tended.arrivals)
      → EndsOver (asks_of h door spawner new closed tended) ⊎ (4294967295 ≤ length tended.sessions)
  gives_no_more (inl is) = inl (open_over tended.visits tended.last tended.asks (subst EndsOver (sym is) refl))
  gives_no_more (inr (inl is)) = inl (open_over tended.visits tended.last tended.asks (subst EndsOver (sym is) refl))
  gives_no_more (inr (inr is)) = inr (omega (arith, is, tended.count))

  pub serves_all : ServesClients h p s lists door closed.door spawner closed.spawner
  serves_all =
      let all = laws.served p s lists old new run right in
      let is_over = λ (waited : has_waited p s lists ≡ true). laws.over p s lists old new run last waited in record {
        visits = visits_of h door spawner new closed tended;
        joined = length new.seats;
        joins = all.joins;
        given = omega (arith, tended.some, tended.count);
        served = λ k links back given goes less. seated k links back (record { given = given; goes = goes }) less;
        late = λ k links back given goes past. sent_late h door spawner new closed tended k links back (record { given = given; goes = goes }) past;
        others = all.others;
        frozen = all.frozen;
        no_thread = rose_less (h.refusals spawner) (no_thread_leaves lists) (refused_of tended.arrivals) (h.refusals closed.spawner) few_refused tended.no_thread;
        first = λ has. laws.first p s lists old new run right (tended.silent has run.whole);
        all = λ waited. (tended.over (is_over waited)).0 ∙ sym tended.count;
        over = λ waited. gives_no_more (tended.over (is_over waited)).1;
      }

pub serves_tended : {D I O S : Type 0} → Laws → (h : Hosts D I O S) → ServesTended h
serves_tended laws h door spawner p s lists old new closed run last right tended told =
    serves_all laws h door spawner p s lists old new closed run last right tended told

-- The clients of a run that were tended, as its door has them: their links, and what they were sent.
use Rattle.std.proofs.Common.{◌≡◌, ◌∙◌, ⊎_elim, ℕ, ◌+◌, ◌<◌, ◌≤◌, List, [], ◌++◌, Some, ap, arith, length, refl, subst, sym}
use Rattle.std.proofs.lemmas.Bool.{cases_lt}
use Rattle.std.proofs.lemmas.List.Elements.{All-append, All-weaker}
use Rattle.std.proofs.lemmas.Option.{same_Some, slice_get_within}
use Rattle.std.specs.List.{slice_get}
use Rattle.trick_serve_headline.proofs.Doors.{all_given, last_asks, links_count, links_get, open_ask}
use Rattle.trick_serve_headline.proofs.Sent.{sent_more}
use Rattle.trick_serve_headline.specs.Clients.{IsAsk, IsSentOf, Visits, WereSent, tale_between}
use Rattle.trick_model.specs.Files.{messages_to}
use Rattle.trick_model.specs.Session.{Message}
use Rattle.trick_outside.specs.Visits.{Visit, clients}
use Rattle.trick_serve_source.specs.Calls.{View, Went}
use Rattle.trick_serve_hearing.specs.Clients.{client_queues}
use Rattle.trick_serve_hearing.specs.Sides.{Side, nobody, side}
use Rattle.trick_serve_clients.specs.Tended.{HasTended, IsTended, IsTendedSeat}
use Rattle.trick_serve_clients.specs.declared.closing.Closed.{Closed}
use Rattle.trick_serve_seats.specs.Taking.{Hosts}
use Rattle.trick_serve_seats.specs.Told.{IsOpen, links_of}
use Rattle.trick_serve_door.specs.declared.ending.SessionEnd.{SessionEnd}
use Rattle.trick_serve_facts.proofs.Tales.{end_says}
use Rattle.trick_serve_facts.specs.Clients.{EndSays}
use Rattle.trick_serve_facts.specs.Sent.{ClientsAreSent, HasBeenSent}
use Rattle.trick_serve_facts.specs.Tales.{tale_of}
use Rattle.trick_exec_sources.specs.Turns.{Answer}
use Rattle.trick_wire.specs.HasWritten.{HasWritten}

module _ {D I O S : Type 0} (h : Hosts D I O S) (door : D) (spawner : S) (v : View) (closed : Closed D S) (tended : HasTended h door spawner v closed) where
  -- ---- the door

  abbrev pub asks_of : List (Visit I O)
  asks_of = tended.visits ++ tended.last

  -- the clients that the door gave are those that arrived
  pub gave : clients asks_of ≡ links_of tended.arrivals
  gave = all_given tended.visits tended.last tended.ended ∙ sym tended.joins

  abbrev pub visits_of : Visits h door closed.door
  visits_of = record {
    asks = asks_of;
    ended = tended.sessions;
    visited = tended.visited;
    asked =
        All-append IsAsk tended.visits tended.last (All-weaker IsOpen IsAsk open_ask tended.visits tended.asks)
        (last_asks tended.last tended.ended);
    each = tended.count ∙ sym (links_count tended.arrivals) ∙ ap length (sym gave);
  }

  -- ---- one client

  -- The links of the client at this place, as the door gave them, and its end.
  pub record IsClient (k : ℕ) (links : I × O) (back : SessionEnd I O) : Type 0 where
    pub given : slice_get (clients asks_of) k ≡ Some links
    pub goes : slice_get tended.sessions k ≡ Some back

  -- what its links tell is what they tell by its arrival
  pub same_tale : (k : ℕ) (links : I × O) (back : SessionEnd I O) (s : Side) (client : IsTended h.input h.output tended.arrivals tended.sessions k s) → IsClient k links back
      → tale_of h.input h.output client.arrival client.ended ≡ tale_between h.input h.output links back
  same_tale k links back s client is =
      let there : Some (client.arrival.input.value, client.arrival.output.value) ≡ Some links =
      sym (links_get tended.arrivals k client.arrival client.comes) ∙ ap (λ (l : List (I × O)). slice_get l k) (sym gave) ∙ is.given in
      ap (λ (l : I × O). tale_between h.input h.output l client.ended) (same_Some _ _ there)
      ∙ ap (λ (e : SessionEnd I O). tale_between h.input h.output links e) (same_Some _ _ (sym client.goes ∙ is.goes))

  -- what is said of the end of the client of a seat
  pub seat_says : (k : ℕ) (seat : IsTendedSeat h.input h.output tended.arrivals tended.sessions k (side v.seats k))
      → EndSays (tale_of h.input h.output seat.client.arrival seat.client.ended) (side v.seats k)
  seat_says k seat =
      let client = seat.client in
      end_says h.input h.output client.arrival client.past client.ended (side v.seats k) client.end

  -- a client that came too late to join was sent nothing
  pub sent_late : (k : ℕ) (links : I × O) (back : SessionEnd I O) → IsClient k links back → length v.seats ≤ k
      → IsSentOf [] (tale_between h.input h.output links back)
  sent_late k links back is past =
      let within : k < length tended.arrivals = omega (arith, slice_get_within tended.sessions k back is.goes, tended.count) in
      let late = tended.late k past within in
      let sent : HasWritten (h.output.holds late.arrival.output.value) (h.output.holds late.ended.output)
      (h.output.failures late.arrival.output.value) (h.output.failures late.ended.output) late.ended.wrote [] = late.end.sent in
      subst (IsSentOf []) (same_tale k links back nobody late is)
      (record { part = sent.part; rest = sent.rest; text_is = sent.text_is; took = sent.took })

  -- ---- what was handed over in a run, to its end or not

  module _ (law : ClientsAreSent) (old : View) (answers : List Answer) (said : List Message) (none : old.seats ≡ []) (went : Went old v answers said) where
    sent_seated : (k : ℕ) (links : I × O) (back : SessionEnd I O) → IsClient k links back → k < length v.seats
        → IsSentOf (messages_to (k + 1) said) (tale_between h.input h.output links back)
    sent_seated k links back is less =
        let seat = tended.seated k less in
        let client = seat.client in
        let tale = tale_of h.input h.output client.arrival client.ended in
        let was : HasBeenSent (k + 1) said tale = law old v answers said k (client_queues client.arrival) tale none went seat.queues (seat_says k seat) in
        let sent = was.sent in
        subst (IsSentOf (messages_to (k + 1) said)) (same_tale k links back (side v.seats k) client is)
        (sent_more was.kept was.dropped (messages_to (k + 1) said) tale was.messages_are
        (record { part = sent.part; rest = sent.rest; text_is = sent.text_is; took = sent.took }))

    sent_each : (k : ℕ) (links : I × O) (back : SessionEnd I O) → IsClient k links back
        → IsSentOf (messages_to (k + 1) said) (tale_between h.input h.output links back)
    sent_each k links back is = ⊎_elim
        (λ less. sent_seated k links back is less)
        (λ past. sent_more [] (messages_to (k + 1) said) (messages_to (k + 1) said) (tale_between h.input h.output links back) refl
        (sent_late k links back is past))
        (cases_lt k (length v.seats))

    pub sent_all : WereSent h (λ n. messages_to n said) door closed.door
    sent_all = record {
      visits = visits_of;
      sent = λ k links back given goes. sent_each k links back (record { given = given; goes = goes });
    }

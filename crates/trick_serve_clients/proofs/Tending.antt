-- What became of the clients of a run.
use Rattle.std.proofs.Common.{◌≡◌, ◌∙◌, ⊎_elim, ℕ, zero, suc, ◌+◌, ◌<◌, ◌≤◌, false, List, [], ◌∷◌, ◌++◌, Some, None, ap, arith, length, length-append, map, refl, subst, sym}
use Rattle.std.proofs.lemmas.Bool.{cases_lt}
use Rattle.std.proofs.lemmas.List.Elements.{All-head, All-tail}
use Rattle.std.proofs.lemmas.List.{length-map}
use Rattle.std.specs.Arc.{arc_value}
use Rattle.std.specs.List.{slice_get}
use Rattle.trick_outside.specs.declared.link_in.LinkIn.{Ghosts as InGhosts}
use Rattle.trick_outside.specs.declared.link_out.LinkOut.{Ghosts as OutGhosts}
use Rattle.trick_serve_hearing.specs.Clients.{client_queues, seat_queues}
use Rattle.trick_serve_hearing.specs.Sides.{Queues, Side, nobody, queues_of, side, side_of}
use Rattle.trick_serve_hearing.specs.declared.seat.Seat.{Seat}
use Rattle.trick_serve_clients.proofs.Endings.{NoneLacks}
use Rattle.trick_serve_clients.specs.Ending.{AreEnded}
use Rattle.trick_serve_clients.specs.Ends.{AreItsEnds, ends_of, seat_ends}
use Rattle.trick_serve_clients.specs.Tended.{IsTended, IsTendedSeat}
use Rattle.trick_serve_seats.specs.Pairs.{AllFit}
use Rattle.trick_serve_seats.specs.Seats.{IsPast}
use Rattle.trick_serve_seats.specs.declared.arrival.Arrival.{Arrival}
use Rattle.trick_serve_door.specs.declared.ending.SessionEnd.{SessionEnd}
use Rattle.trick_serve_door.specs.declared.ending.Ends.{Ends}
use Rattle.trick_serve_seats.specs.declared.past.Past.{Past}
use Rattle.trick_wire.specs.Ends.{put_by, taken_by}
use Rattle.trick_wire.specs.HasHeard.{HasHeard}
use Rattle.trick_wire.specs.HasWritten.{HasWritten, IsCauseOf}
use Rattle.trick_wire.specs.declared.heard.Heard.{Heard}
use Rattle.trick_wire.specs.declared.heard.WriteStop.TheVariants as stop
use Rattle.trick_wire.specs.declared.heard.WriteStop.{WriteStop}
use Rattle.trick_outside.specs.Causes.{Rose}

-- ---- whose ends they are

-- these ends are those of a client's queues
record AreOf {I O : Type 0} (ends : Ends) (arrival : Arrival I O) : Type 0 where
  inbox : arc_value ends.inbox.shared ≡ arc_value arrival.inbox.shared
  outbox : arc_value ends.outbox.shared ≡ arc_value arrival.outbox.shared
  causes : arc_value ends.causes.shared ≡ arc_value arrival.causes.shared

seat_of : {I O : Type 0} (seat : Seat) (arrival : Arrival I O) → queues_of seat ≡ client_queues arrival → AreOf (seat_ends seat) arrival
seat_of seat arrival same = record {
  inbox = ap (λ (q : Queues). q.inbox) same;
  outbox = ap (λ (q : Queues). q.outbox) same;
  causes = ap (λ (q : Queues). q.causes) same;
}

its_ends : {I O : Type 0} (input : InGhosts I) (output : OutGhosts O) (ends : Ends) (arrival : Arrival I O) (past : Past I O) → AreOf ends arrival → IsPast input output arrival past
    → AreItsEnds ends past
its_ends input output ends arrival past are gone = record {
  inbox = gone.reader.inbox ∙ sym are.inbox;
  outbox = are.outbox ∙ gone.writer.outbox;
  causes = gone.writer.causes ∙ sym are.causes;
}

first_queues : (x y : Queues) (xs ys : List Queues) → x ∷ xs ≡ y ∷ ys → x ≡ y
first_queues x y xs ys is = cc

other_queues : (x y : Queues) (xs ys : List Queues) → x ∷ xs ≡ y ∷ ys → xs ≡ ys
other_queues x y xs ys is = cc

no_queues : (x : Queues) (xs : List Queues) → x ∷ xs ≡ [] → ⊥
no_queues x xs is = cc

some_ends : (x y : Ends) → Some x ≡ Some y → x ≡ y
some_ends x y is = cc

none_some : (x : Ends) → None ≡ Some x → ⊥
none_some x is = cc

module _ {I O : Type 0} (input : InGhosts I) (output : OutGhosts O) where
  late_have : (kept : List (Arrival I O)) (pasts : List (Past I O)) → AllFit (IsPast input output) kept pasts → AllFit AreItsEnds (map ends_of kept) pasts
  late_have [] [] fit = tt
  late_have [] (past ∷ pasts) fit = absurd fit
  late_have (arrival ∷ kept) [] fit = absurd fit
  late_have (arrival ∷ kept) (past ∷ pasts) fit =
      (its_ends input output (ends_of arrival) arrival past (record { inbox = refl; outbox = refl; causes = refl }) fit.0, late_have kept pasts fit.1)

  -- the ends of the seats, and those of clients that came late
  pub all_have : (seats : List Seat) (first kept : List (Arrival I O)) (pasts : List (Past I O)) → seat_queues seats ≡ map client_queues first
      → AllFit (IsPast input output) (first ++ kept) pasts → AllFit AreItsEnds (map seat_ends seats ++ map ends_of kept) pasts
  all_have [] [] kept pasts same fit = late_have kept pasts fit
  all_have [] (arrival ∷ first) kept pasts same fit = absurd (no_queues (client_queues arrival) (map client_queues first) (sym same))
  all_have (seat ∷ seats) [] kept pasts same fit = absurd (no_queues (queues_of seat) (seat_queues seats) same)
  all_have (seat ∷ seats) (arrival ∷ first) kept [] same fit = absurd fit
  all_have (seat ∷ seats) (arrival ∷ first) kept (past ∷ pasts) same fit = (
    its_ends input output (seat_ends seat) arrival past (seat_of seat arrival (first_queues (queues_of seat) (client_queues arrival) (seat_queues seats) (map client_queues first) same)) fit.0,
    all_have seats first kept pasts (other_queues (queues_of seat) (client_queues arrival) (seat_queues seats) (map client_queues first) same) fit.1,
  )

  -- ---- the client at one place

  -- the client whose ends have this place, where its side has what went through them
  tended_at : (all : List Ends) (arrivals : List (Arrival I O)) (pasts : List (Past I O)) (sessions : List (SessionEnd I O)) (k : ℕ) (ends : Ends) (s : Side) → AllFit (IsPast input output) arrivals pasts
      → AreEnded input output all pasts sessions → slice_get all k ≡ Some ends → taken_by ends.inbox ≡ s.heard → put_by ends.outbox ≡ s.put → taken_by ends.causes ≡ s.told
      → IsTended input output arrivals sessions k s
  tended_at [] arrivals pasts sessions k ends s fit ended there heard put told = absurd (none_some ends there)
  tended_at (one ∷ all) arrivals [] sessions k ends s fit ended there heard put told = absurd ended
  tended_at (one ∷ all) arrivals (past ∷ pasts) [] k ends s fit ended there heard put told = absurd ended
  tended_at (one ∷ all) [] (past ∷ pasts) (session ∷ sessions) k ends s fit ended there heard put told = absurd fit
  tended_at (one ∷ all) (arrival ∷ arrivals) (past ∷ pasts) (session ∷ sessions) zero ends s fit ended there heard put told =
      let same : one ≡ ends = some_ends one ends there in record {
        arrival = arrival;
        past = past;
        ended = session;
        comes = refl;
        goes = refl;
        end = record {
          is_past = fit.0;
          heard = subst (λ (l : List Heard). HasHeard (input.holds arrival.input.value) (Rose (input.failures arrival.input.value) (input.failures session.input)) l) (ap (λ (e : Ends). taken_by e.inbox) same ∙ heard) (ended.0.heard arrival fit.0);
          sent = subst (λ (l : List (List ℕ)). HasWritten (output.holds arrival.output.value) (output.holds session.output) (output.failures arrival.output.value) (output.failures session.output) session.wrote l) (ap (λ (e : Ends). put_by e.outbox) same ∙ put) (ended.0.sent arrival fit.0);
          cause = subst (λ (l : List WriteStop). IsCauseOf l past.writer.stop) (ap (λ (e : Ends). taken_by e.causes) same ∙ told) (ended.0.cause arrival fit.0);
          later = ended.0.later;
        };
      }
  tended_at (one ∷ all) (arrival ∷ arrivals) (past ∷ pasts) (session ∷ sessions) (suc k) ends s fit ended there heard put told =
      let rest = tended_at all arrivals pasts sessions k ends s fit.1 ended.1 there heard put told in
      record { arrival = rest.arrival; past = rest.past; ended = rest.ended; comes = rest.comes; goes = rest.goes; end = rest.end }

  -- the seat at one place, and its client
  record SeatPlace (seats : List Seat) (late : List Ends) (arrivals : List (Arrival I O)) (k : ℕ) : Type 0 where
    seat : Seat
    arrival : Arrival I O
    there : slice_get (map seat_ends seats ++ late) k ≡ Some (seat_ends seat)
    side_is : side seats k ≡ side_of seat
    comes : slice_get arrivals k ≡ Some arrival
    queues : queues_of seat ≡ client_queues arrival

  seat_place : (seats : List Seat) (late : List Ends) (first others : List (Arrival I O)) (k : ℕ) → seat_queues seats ≡ map client_queues first → k < length seats
      → SeatPlace seats late (first ++ others) k
  seat_place [] late first others k same there = absurd (omega arith)
  seat_place (seat ∷ seats) late [] others k same there = absurd (no_queues (queues_of seat) (seat_queues seats) same)
  seat_place (seat ∷ seats) late (arrival ∷ first) others zero same there = record {
    seat = seat;
    arrival = arrival;
    there = refl;
    side_is = refl;
    comes = refl;
    queues = first_queues (queues_of seat) (client_queues arrival) (seat_queues seats) (map client_queues first) same;
  }
  seat_place (seat ∷ seats) late (arrival ∷ first) others (suc k) same there =
      let rest = seat_place seats late first others k (other_queues (queues_of seat) (client_queues arrival) (seat_queues seats) (map client_queues first) same) (omega arith) in
      record { seat = rest.seat; arrival = rest.arrival; there = rest.there; side_is = rest.side_is; comes = rest.comes; queues = rest.queues }

  some_client : (x y : Arrival I O) → Some x ≡ Some y → x ≡ y
  some_client x y is = cc

  -- The client of each seat.
  pub seat_tended : (seats : List Seat) (late : List Ends) (first others : List (Arrival I O)) (pasts : List (Past I O)) (sessions : List (SessionEnd I O)) → seat_queues seats ≡ map client_queues first
      → AllFit (IsPast input output) (first ++ others) pasts → AreEnded input output (map seat_ends seats ++ late) pasts sessions
      → (k : ℕ) → k < length seats → IsTendedSeat input output (first ++ others) sessions k (side seats k)
  seat_tended seats late first others pasts sessions same fit ended k there =
      let place = seat_place seats late first others k same there in
      let is = place.side_is in
      let client = tended_at (map seat_ends seats ++ late) (first ++ others) pasts sessions k (seat_ends place.seat) (side seats k) fit ended place.there
      (sym (ap (λ (s : Side). s.heard) is)) (sym (ap (λ (s : Side). s.put) is)) (sym (ap (λ (s : Side). s.told) is)) in record {
        client = client;
        queues = ap (λ (s : Side). s.queues) is ∙ ap Some (place.queues ∙ ap client_queues (some_client place.arrival client.arrival (sym place.comes ∙ client.comes)));
      }

  -- the client at one place, whose ends were kept
  record LatePlace (front : List Ends) (kept : List (Arrival I O)) (k : ℕ) : Type 0 where
    arrival : Arrival I O
    there : slice_get (front ++ map ends_of kept) k ≡ Some (ends_of arrival)

  late_place : (front : List Ends) (kept : List (Arrival I O)) (k : ℕ) → length front ≤ k → k < length front + length kept → LatePlace front kept k
  late_place [] [] k past there = absurd (omega arith)
  late_place [] (arrival ∷ kept) zero past there = record { arrival = arrival; there = refl }
  late_place [] (arrival ∷ kept) (suc k) past there = let rest = late_place [] kept k (omega arith) (omega arith) in record { arrival = rest.arrival; there = rest.there }
  late_place (ends ∷ front) kept zero past there = absurd (omega arith)
  late_place (ends ∷ front) kept (suc k) past there = let rest = late_place front kept k (omega arith) (omega arith) in record { arrival = rest.arrival; there = rest.there }

  -- The client at each place above those of the seats, where the ends of all were kept.
  pub late_tended : (seats : List Seat) (first kept : List (Arrival I O)) (pasts : List (Past I O)) (sessions : List (SessionEnd I O)) → seat_queues seats ≡ map client_queues first
      → AllFit (IsPast input output) (first ++ kept) pasts → AreEnded input output (map seat_ends seats ++ map ends_of kept) pasts sessions
      → (k : ℕ) → length seats ≤ k → k < length (first ++ kept) → IsTended input output (first ++ kept) sessions k nobody
  late_tended seats first kept pasts sessions same fit ended k past there =
      let many = length-append first kept in
      let seated = sym (length-map seats queues_of) ∙ ap length same ∙ length-map first client_queues in
      let front = length-map seats seat_ends in
      let place = late_place (map seat_ends seats) kept k (omega arith) (omega arith) in
      tended_at (map seat_ends seats ++ map ends_of kept) (first ++ kept) pasts sessions k (ends_of place.arrival) nobody fit ended place.there
      place.arrival.no_line place.arrival.no_message place.arrival.no_cause

  -- as many sessions as clients
  pub sessions_count : (all : List Ends) (arrivals : List (Arrival I O)) (pasts : List (Past I O)) (sessions : List (SessionEnd I O)) → AllFit (IsPast input output) arrivals pasts
      → AreEnded input output all pasts sessions → length sessions ≡ length arrivals
  sessions_count [] [] [] [] fit ended = refl
  sessions_count (ends ∷ all) [] [] sessions fit ended = absurd ended
  sessions_count [] [] [] (session ∷ sessions) fit ended = absurd ended
  sessions_count all (arrival ∷ arrivals) [] sessions fit ended = absurd fit
  sessions_count all [] (past ∷ pasts) sessions fit ended = absurd fit
  sessions_count [] (arrival ∷ arrivals) (past ∷ pasts) sessions fit ended = absurd ended
  sessions_count (ends ∷ all) (arrival ∷ arrivals) (past ∷ pasts) [] fit ended = absurd ended
  sessions_count (ends ∷ all) (arrival ∷ arrivals) (past ∷ pasts) (session ∷ sessions) fit ended = ap suc (sessions_count all arrivals pasts sessions fit.1 ended.1)

  -- ---- where there was no memory for the messages to a client

  some_session : (x y : SessionEnd I O) → Some x ≡ Some y → x ≡ y
  some_session x y is = cc

  none_session : (x : SessionEnd I O) → None ≡ Some x → ⊥
  none_session x is = cc

  -- the ends of a session, of whose causes this was taken
  record ToldAt (all : List Ends) (k : ℕ) : Type 0 where
    ends : Ends
    there : slice_get all k ≡ Some ends
    told : taken_by ends.causes ≡ stop.OutOfMemory ∷ []

  told_at : (all : List Ends) (arrivals : List (Arrival I O)) (pasts : List (Past I O)) (sessions : List (SessionEnd I O)) (k : ℕ) (session : SessionEnd I O) → AllFit (IsPast input output) arrivals pasts
      → AreEnded input output all pasts sessions → NoneLacks sessions → slice_get sessions k ≡ Some session → session.wrote ≡ stop.OutOfMemory → ToldAt all k
  told_at all arrivals pasts [] k session fit ended none there wrote = absurd (none_session session there)
  told_at [] arrivals [] (one ∷ sessions) k session fit ended none there wrote = absurd ended
  told_at [] arrivals (past ∷ pasts) (one ∷ sessions) k session fit ended none there wrote = absurd ended
  told_at (ends ∷ all) arrivals [] (one ∷ sessions) k session fit ended none there wrote = absurd ended
  told_at (ends ∷ all) [] (past ∷ pasts) (one ∷ sessions) k session fit ended none there wrote = absurd fit
  told_at (ends ∷ all) (arrival ∷ arrivals) (past ∷ pasts) (one ∷ sessions) zero session fit ended none there wrote =
      let same = some_session one session there in record {
        ends = ends;
        there = refl;
        told = ended.0.told (All-head (λ (s : SessionEnd I O). s.lacked ≡ false) one sessions none) (ap (λ (s : SessionEnd I O). s.wrote) same ∙ wrote) arrival fit.0;
      }
  told_at (ends ∷ all) (arrival ∷ arrivals) (past ∷ pasts) (one ∷ sessions) (suc k) session fit ended none there wrote =
      let rest = told_at all arrivals pasts sessions k session fit.1 ended.1 (All-tail (λ (s : SessionEnd I O). s.lacked ≡ false) one sessions none) there wrote in
      record { ends = rest.ends; there = rest.there; told = rest.told }

  no_stop : (x : WriteStop) → [] ≡ x ∷ [] → ⊥
  no_stop x is = cc

  session_within : (sessions : List (SessionEnd I O)) (k : ℕ) (session : SessionEnd I O) → slice_get sessions k ≡ Some session → k < length sessions
  session_within [] k session is = absurd (none_session session is)
  session_within (one ∷ sessions) zero session is = omega arith
  session_within (one ∷ sessions) (suc k) session is = let rest = session_within sessions k session is in omega (arith, rest)

  -- Where it is not so of any session that it was not told, it was told to the seat of each.
  pub told_seat : (seats : List Seat) (first kept : List (Arrival I O)) (pasts : List (Past I O)) (sessions : List (SessionEnd I O)) → seat_queues seats ≡ map client_queues first
      → AllFit (IsPast input output) (first ++ kept) pasts → AreEnded input output (map seat_ends seats ++ map ends_of kept) pasts sessions → NoneLacks sessions
      → (k : ℕ) (session : SessionEnd I O) → slice_get sessions k ≡ Some session → session.wrote ≡ stop.OutOfMemory → (side seats k).told ≡ stop.OutOfMemory ∷ []
  told_seat seats first kept pasts sessions same fit ended none k session there wrote =
      let at = told_at (map seat_ends seats ++ map ends_of kept) (first ++ kept) pasts sessions k session fit ended none there wrote in
      let within = session_within sessions k session there in
      let count = sessions_count (map seat_ends seats ++ map ends_of kept) (first ++ kept) pasts sessions fit ended in
      let many = length-append first kept in
      let seated = sym (length-map seats queues_of) ∙ ap length same ∙ length-map first client_queues in
      let front = length-map seats seat_ends in
      ⊎_elim
      (λ before.
      let place = seat_place seats (map ends_of kept) first kept k same before in
      let mine = some_ends (seat_ends place.seat) at.ends (sym place.there ∙ at.there) in
      ap (λ (s : Side). s.told) place.side_is ∙ ap (λ (e : Ends). taken_by e.causes) mine ∙ at.told)
      (λ past.
      let place = late_place (map seat_ends seats) kept k (omega arith) (omega arith) in
      let mine = some_ends (ends_of place.arrival) at.ends (sym place.there ∙ at.there) in
      absurd (no_stop stop.OutOfMemory (sym place.arrival.no_cause ∙ ap (λ (e : Ends). taken_by e.causes) mine ∙ at.told)))
      (cases_lt k (length seats))

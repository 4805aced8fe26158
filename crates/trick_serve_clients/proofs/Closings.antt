-- What is known once all threads of the clients are taken in.
use Rattle.std.proofs.Common.{◌≡◌, ◌∙◌, ◌⊎◌, inl, inr, ⊎_elim, ℕ, ◌+◌, ◌<◌, ◌≤◌, Bool, true, false, List, [], ◌∷◌, ◌++◌, ap, append-nil, arith, length, length-append, map, refl, subst, sym, Vec, Global}
use Rattle.std.proofs.lemmas.Bool.{false≢true}
use Rattle.std.proofs.lemmas.List.{length-map}
use Rattle.std.specs.Arc.{arc_value}
use Rattle.trick_outside.specs.Visits.{Visit}
use Rattle.trick_outside.specs.Visits as visit
use Rattle.trick_serve_source.specs.Calls.{View}
use Rattle.trick_serve_hearing.specs.Clients.{AreOfClients, IsLast, IsSilent, client_queues, clients_of, has_lack, has_over}
use Rattle.trick_serve_source.specs.Rolls.{view_of}
use Rattle.trick_serve_hearing.specs.Sides.{nobody, queues_of, side}
use Rattle.trick_serve_hearing.specs.declared.seat.Seat.{Seat}
use Rattle.trick_serve_source.specs.declared.served.Finished.{Finished}
use Rattle.trick_serve_source.specs.declared.served.Served.{Served}
use Rattle.trick_serve_clients.proofs.Lateness.{no_others}
use Rattle.trick_serve_clients.proofs.Telling.{NoneClosed, all_taken, clients_join, none_told, over_all, over_told, silent_not, told, told_arrivals}
use Rattle.trick_serve_clients.proofs.Tending.{all_have, late_tended, seat_tended, sessions_count, told_seat}
use Rattle.trick_serve_clients.specs.Ending.{AreEnded, EndsAll}
use Rattle.trick_serve_clients.specs.Ends.{AreItsEnds, ends_of, seat_ends}
use Rattle.trick_serve_clients.specs.Late.{HasComeLate}
use Rattle.trick_serve_clients.specs.Opened.{HasBegun}
use Rattle.trick_serve_clients.specs.Over.{AreOver}
use Rattle.trick_serve_clients.specs.Tended.{HasNoMore, HasTended, IsLastAnswer, IsTended, IsTendedSeat}
use Rattle.trick_serve_clients.specs.declared.closing.Closed.{Closed as ClosedValue}
use Rattle.trick_serve_seats.specs.Accepted.{HasAccepted}
use Rattle.trick_serve_seats.specs.Departures.{left_of}
use Rattle.trick_serve_seats.specs.Pairs.{AllFit}
use Rattle.trick_serve_door.specs.Returns.{backs_of}
use Rattle.trick_serve_seats.specs.Seats.{IsPast}
use Rattle.trick_serve_seats.specs.Taking.{Hosts, IsEnd, Start, start_of}
use Rattle.trick_serve_seats.specs.Told.{told_clients, told_end, told_first}
use Rattle.trick_serve_seats.specs.declared.arrival.Arrival.{Arrival}
use Rattle.trick_serve_seats.specs.declared.arrival.Comes.{Comes}
use Rattle.trick_serve_seats.specs.declared.arrival.Comes.TheVariants.{Closed, Over, OutOfMemory}
use Rattle.trick_serve_seats.specs.declared.asks.End.{End}
use Rattle.trick_serve_seats.specs.declared.asks.End.TheVariants as end
use Rattle.trick_serve_seats.specs.declared.departure.Departure.TheVariants.{Run, Session}
use Rattle.trick_serve_seats.specs.declared.departure.Departure.{Departure}
use Rattle.trick_serve_door.specs.declared.ending.Ends.{Ends}
use Rattle.trick_serve_door.specs.declared.taking.Accepting.{Accepting}
use Rattle.trick_serve_door.specs.declared.taking.Taken.{Taken}
use Rattle.trick_serve_door.specs.Running.{MatchRunning}
use Rattle.trick_serve_door.specs.declared.running.RunningAcceptor.TheVariants.{Here, There}
use Rattle.trick_serve_door.specs.declared.running.RunningAcceptor.{RunningAcceptor}
use Rattle.trick_wire.specs.Ends.{AreEnds, IsSamePutter, IsSameTaker, put_by, taken_by}
use Rattle.trick_wire.specs.declared.queue.Putter.{Putter}
use Rattle.trick_wire.specs.declared.queue.Taker.{Taker}

-- why no client came any more, as it was told
abbrev EndTold : {I O : Type 0} → List (Visit I O) → ℕ → List (Comes I O) → Type 0
EndTold last count told =
    ((told ≡ Over ∷ []) × ((last ≡ visit.Ended ∷ []) ⊎ ((last ≡ visit.Failed ∷ []) ⊎ ((last ≡ []) × (4294967295 ≤ count)))))
    ⊎ (((told ≡ OutOfMemory ∷ []) × ((last ≡ []) ⊎ (last ≡ visit.OutOfMemory ∷ []))) ⊎ ((told ≡ []) × (last ≡ [])))

end_closed : {I O : Type 0} (last : List (Visit I O)) (count : ℕ) (told : List (Comes I O)) → EndTold last count told → NoneClosed told
end_closed {I} {O} last count told (inl one) = subst (λ (l : List (Comes I O)). NoneClosed l) (sym one.0) tt
end_closed {I} {O} last count told (inr (inl two)) = subst (λ (l : List (Comes I O)). NoneClosed l) (sym two.0) tt
end_closed {I} {O} last count told (inr (inr three)) = subst (λ (l : List (Comes I O)). NoneClosed l) (sym three.0) tt

end_nobody : {I O : Type 0} (last : List (Visit I O)) (count : ℕ) (told : List (Comes I O)) → EndTold last count told → clients_of told ≡ []
end_nobody last count told (inl one) = ap clients_of one.0
end_nobody last count told (inr (inl two)) = ap clients_of two.0
end_nobody last count told (inr (inr three)) = ap clients_of three.0

-- what was told where no client comes any more
end_over : {I O : Type 0} (last : List (Visit I O)) (count : ℕ) (told : List (Comes I O)) → EndTold last count told → has_over told ≡ true → count ≤ 4294967295
    → (told ≡ Over ∷ []) × HasNoMore last count
end_over last count told (inl one) heard most =
    (one.0, ⊎_elim (λ ended. inl ended) (λ two. inr (⊎_elim (λ failed. inl failed) (λ full. inr (let more = full.1 in omega arith)) two)) one.1)
end_over last count told (inr (inl two)) heard most = absurd (false≢true (sym (ap has_over two.0) ∙ heard))
end_over last count told (inr (inr three)) heard most = absurd (false≢true (sym (ap has_over three.0) ∙ heard))

end_last : {I O : Type 0} (last : List (Visit I O)) (count : ℕ) (told : List (Comes I O)) → EndTold last count told → IsLastAnswer last
end_last last count told (inl one) = ⊎_elim (λ ended. inr (inl ended)) (λ two. ⊎_elim (λ failed. inr (inr (inl failed))) (λ full. inl full.0) two) one.1
end_last last count told (inr (inl two)) = ⊎_elim (λ none. inl none) (λ memory. inr (inr (inr memory))) two.1
end_last last count told (inr (inr three)) = inl three.1

end_told : {I O : Type 0} (why : End) (last : List (Visit I O)) (count : ℕ) → IsEnd why last count → EndTold {I = I} {O = O} last count (told_end why)
end_told end.Over last count ended = inl (refl, ended)
end_told end.OutOfMemory last count ended = inr (inl (refl, ended))
end_told end.Closed last count ended = inr (inr (refl, ended))

-- What an acceptor comes to that began.
pub accepted : {D I O S R H : Type 0} (h : Hosts D I O S) {begun : Accepting D S R I O} {acceptor : RunningAcceptor H (Taken D S I O)} {work_of : H → Accepting D S R I O} (result : Taken D S I O)
    → (b : HasBegun h begun acceptor work_of)
    → MatchRunning acceptor
    (λ thread. HasAccepted h (start_of (work_of thread).door (work_of thread).spawner (work_of thread).coming (work_of thread).gone) result.door result.spawner result.coming result.gone result.sessions.items)
    (λ taken. result ≡ taken)
    → HasAccepted h (start_of begun.door b.admitted begun.coming begun.gone) result.door result.spawner result.coming result.gone result.sessions.items
accepted {D} {I} {O} {S} {R} {H} h {begun} {acceptor} {work_of} result b came = by acceptor b.running came
  where
    by : (a : RunningAcceptor H (Taken D S I O))
        → MatchRunning a (λ thread. work_of thread ≡ record begun { spawner = b.admitted })
        (λ taken. HasAccepted h (start_of begun.door b.admitted begun.coming begun.gone) taken.door taken.spawner taken.coming taken.gone taken.sessions.items)
        → MatchRunning a
        (λ thread. HasAccepted h (start_of (work_of thread).door (work_of thread).spawner (work_of thread).coming (work_of thread).gone) result.door result.spawner result.coming result.gone result.sessions.items)
        (λ taken. result ≡ taken)
        → HasAccepted h (start_of begun.door b.admitted begun.coming begun.gone) result.door result.spawner result.coming result.gone result.sessions.items
    by (There thread) is came =
        subst (λ (w : Accepting D S R I O). HasAccepted h (start_of w.door w.spawner w.coming w.gone) result.door result.spawner result.coming result.gone result.sessions.items) is came
    by (Here taken) done is =
        subst (λ (t : Taken D S I O). HasAccepted h (start_of begun.door b.admitted begun.coming begun.gone) t.door t.spawner t.coming t.gone t.sessions.items) (sym is) done

-- the two ends of one queue, after it was used
pub ends_meet : {T : Type 0} (told begun : Putter T) (served taken now : Taker T) → IsSamePutter begun told → AreEnds begun served → taken ≡ served → IsSameTaker taken now → AreEnds told now
ends_meet {T} told begun served taken now same ends is also = ap arc_value same ∙ ends ∙ ap (λ (t : Taker T). arc_value t.shared) (sym is) ∙ ap arc_value (sym also)

-- the other way: this end puts into the queue of a source of entries, and that one takes
pub ends_back : {T : Type 0} (served now : Putter T) (begun taken : Taker T) → AreEnds served begun → IsSamePutter served now → IsSameTaker begun taken → AreEnds now taken
ends_back served now begun taken ends same also = ap arc_value same ∙ ends ∙ sym (ap arc_value also)

-- What is known once both are over: what the source of entries handed out, the ends of the clients that came late, of which the last was taken by the same end, and what the acceptor gave back.
pub are_over : {D I O S R : Type 0} (h : Hosts D I O S) (start : Start D I O S) (served : Served I O R) (finished : Finished I O) (coming : Taker (Comes I O)) (late : List Ends) (taken : Taken D S I O)
    → HasAccepted h start taken.door taken.spawner taken.coming taken.gone taken.sessions.items → put_by start.coming ≡ [] → taken_by start.gone ≡ [] → HasComeLate (taken_by finished.coming) (taken_by coming) late
    → IsSameTaker finished.coming coming → finished.seats ≡ served.roll.seats → AreOfClients (taken_by finished.coming) finished.seats.items
    → (served.over ≡ true → IsLast (taken_by finished.coming) finished.seats.items) → (served.silent ≡ true → IsSilent (taken_by finished.coming)) → (served.broke ≡ false → has_lack (taken_by finished.coming) ≡ false)
    → left_of (put_by finished.gone) ≤ length finished.seats.items → finished.coming ≡ served.coming → IsSamePutter served.gone finished.gone → AreEnds start.coming served.coming → AreEnds served.gone start.gone
    → AreOver h start (view_of served) (record finished { coming = coming }) late taken
are_over {D} {I} {O} {S} {R} h start served finished coming late taken a untold unheard came same seats clients last silent memory left is gone way back =
    let items = ap (λ (s : Vec Seat Global). s.items) seats in record {
      accepted = a;
      untold = untold;
      unheard = unheard;
      before = taken_by finished.coming;
      came = came;
      seen = record {
        clients = subst (λ (l : List Seat). AreOfClients (taken_by finished.coming) l) items clients;
        last = λ over. subst (λ (l : List Seat). IsLast (taken_by finished.coming) l) items (last over);
        silent = silent;
        memory = memory;
      };
      seats = items;
      left = subst (λ (l : List Seat). left_of (put_by finished.gone) ≤ length l) items left;
      way = ends_meet taken.coming start.coming served.coming finished.coming coming a.coming_is way is same;
      back = ends_back served.gone finished.gone start.gone taken.gone back gone a.gone_is;
    }

left_join : (early late : List Departure) → left_of (early ++ late) ≡ left_of early + left_of late
left_join [] late = omega arith
left_join (Session number ∷ early) late = let e = left_join early late in omega arith
left_join (Run ∷ early) late = left_join early late

-- Of more refused starts than so many one may say so since an earlier moment too.
pub tended_later : {D I O S : Type 0} (h : Hosts D I O S) (door : D) (first spawner : S) (v : View) (closed : ClosedValue D S) → h.refusals first ≤ h.refusals spawner → HasTended h door spawner v closed
    → HasTended h door first v closed
tended_later h door first spawner v closed later t = record {
  visits = t.visits;
  last = t.last;
  arrivals = t.arrivals;
  sessions = t.sessions;
  visited = t.visited;
  asks = t.asks;
  ended = t.ended;
  joins = t.joins;
  count = t.count;
  numbers = t.numbers;
  some = t.some;
  seated = t.seated;
  late = t.late;
  no_thread = (let rose = t.no_thread in omega arith);
  first = t.first;
  silent = t.silent;
  over = t.over;
  memory = t.memory;
}

module _ {D I O S : Type 0} (h : Hosts D I O S) (start : Start D I O S) (v : View) (finished : Finished I O) (late : List Ends) (taken : Taken D S I O) (o : AreOver h start v finished late taken)
    (items : List (Comes I O)) (put : put_by taken.coming ≡ taken_by finished.coming ++ items) (departures : List Departure) (left : put_by finished.gone ≡ taken_by taken.gone ++ departures) where
  -- why no client came any more, as it was told
  end_is : EndTold {I = I} {O = O} o.accepted.last (length o.accepted.arrivals) (told_end o.accepted.why)
  end_is = end_told o.accepted.why o.accepted.last (length o.accepted.arrivals) o.accepted.ended

  -- all that the acceptor told was taken
  all_told : o.before ++ o.came.some ≡ told o.accepted.visits o.accepted.arrivals (told_end o.accepted.why)
  all_told =
      let a = o.accepted in
      all_taken (told a.visits a.arrivals (told_end a.why)) (o.before ++ o.came.some) items (none_told a.visits a.arrivals (told_end a.why) (end_closed a.last (length a.arrivals) (told_end a.why) end_is))
      (ap (λ (l : List (Comes I O)). ((l ++ (told_first a.visits ++ told_clients a.arrivals)) ++ told_end a.why) ++ Closed ∷ []) (sym o.untold) ∙ sym a.told ∙ put ∙ ap (λ (l : List (Comes I O)). l ++ items) o.came.taken)

  -- the clients that were seated, and those that came late
  arrivals_are : clients_of o.before ++ (o.came.kept.kept ++ o.came.kept.others) ≡ o.accepted.arrivals
  arrivals_are =
      let a = o.accepted in
      ap (λ (l : List (Arrival I O)). clients_of o.before ++ l) (sym o.came.kept.clients)
      ∙ sym (clients_join o.before o.came.some)
      ∙ ap clients_of all_told
      ∙ told_arrivals a.visits a.arrivals (told_end a.why) (end_nobody a.last (length a.arrivals) (told_end a.why) end_is)

  seats_count : length v.seats ≡ length (clients_of o.before)
  seats_count = sym (length-map v.seats queues_of) ∙ ap length o.seen.clients ∙ length-map (clients_of o.before) client_queues

  -- at most 64 clients came late, so the ends of all of them were kept
  all_kept : o.came.kept.others ≡ []
  all_kept =
      let k = o.came.kept in
      let many = seats_count in
      let all = ap length arrivals_are in
      let sum = length-append (clients_of o.before) (k.kept ++ k.others) in
      let both = length-append k.kept k.others in
      let room = o.accepted.room in
      let none = ap left_of o.unheard in
      let gone = ap left_of left ∙ left_join (taken_by taken.gone) departures in
      let few = o.left in
      no_others k.others (length k.kept) k.full (omega arith)

  arrivals_all : clients_of o.before ++ o.came.kept.kept ≡ o.accepted.arrivals
  arrivals_all =
      let k = o.came.kept in
      ap (λ (l : List (Arrival I O)). clients_of o.before ++ l) (sym (ap (λ (l : List (Arrival I O)). k.kept ++ l) all_kept ∙ append-nil k.kept)) ∙ arrivals_are

  parts_fit : AllFit (IsPast h.input h.output) (clients_of o.before ++ o.came.kept.kept) taken.sessions.items
  parts_fit = subst (λ (l : List (Arrival I O)). AllFit (IsPast h.input h.output) l taken.sessions.items) (sym arrivals_all) o.accepted.past

  -- The ends are those of the threads.
  pub have_ends : AllFit AreItsEnds (map seat_ends finished.seats.items ++ late) taken.sessions.items
  have_ends =
      subst (λ (l : List Ends). AllFit AreItsEnds l taken.sessions.items)
      (λ i. map seat_ends (sym o.seats i) ++ sym o.came.kept.items i)
      (all_have h.input h.output v.seats (clients_of o.before) o.came.kept.kept taken.sessions.items o.seen.clients parts_fit)

  seats_some : length v.seats ≤ length o.accepted.arrivals
  seats_some = let many = seats_count in let all = ap length arrivals_are in let sum = length-append (clients_of o.before) (o.came.kept.kept ++ o.came.kept.others) in omega arith

  over_by : (heard : Bool) → has_over o.before ≡ heard → IsLast o.before v.seats → (length v.seats ≡ length o.accepted.arrivals) × HasNoMore o.accepted.last (length o.accepted.arrivals)
  over_by true is last =
      let a = o.accepted in
      let all = all_told in
      let so = over_told a.visits a.arrivals (told_end a.why) o.before o.came.some all is in
      let why = end_over a.last (length a.arrivals) (told_end a.why) end_is so a.numbers in
      let nobody = over_all a.visits a.arrivals (told_end a.why) o.before o.came.some all why.0 is in
      let arrivals = ap (λ (l : List (Comes I O)). clients_of o.before ++ clients_of l) (sym nobody) ∙ ap (λ (l : List (Arrival I O)). clients_of o.before ++ l) o.came.kept.clients ∙ arrivals_are in (
        seats_count ∙ ap length (sym (append-nil (clients_of o.before)) ∙ arrivals),
        why.1,
      )
  over_by false is last = let most = o.accepted.numbers in let full = last is in let some = seats_some in (omega arith, inr (inr (omega arith)))

  -- whatever is not true is false
  not_so : (b : Bool) → (b ≡ true → ⊥) → b ≡ false
  not_so true never = absurd (never refl)
  not_so false never = refl

  silent_by : h.has_client start.door → v.broke ≡ false → v.silent ≡ false
  silent_by has whole =
      let a = o.accepted in
      not_so v.silent
      (λ silent. silent_not a.visits a.last a.arrivals a.why o.before o.came.some all_told a.joins a.asks a.ended (a.first has) (o.seen.memory whole) (o.seen.silent silent))

  -- The clients of a run, where their sessions were ended.
  pub has_tended : (door : D) (lacked : Bool) → EndsAll h.visited h.input h.output taken.door door (map seat_ends finished.seats.items ++ late) taken.sessions.items lacked
      → ((one two three : D) (early more : List (Visit I O)) → h.visited one early two → h.visited two more three → h.visited one (early ++ more) three)
      → HasTended h start.door start.spawner v (record { door = door; spawner = taken.spawner; lacked = lacked })
  has_tended door lacked ends join =
      let a = o.accepted in
      let before = clients_of o.before in
      let kept = o.came.kept.kept in
      let all = arrivals_all in
      let same = o.seen.clients in
      let fit = parts_fit in
      let ended : AreEnded h.input h.output (map seat_ends v.seats ++ map ends_of kept) taken.sessions.items ends.sessions =
      subst (λ (l : List Ends). AreEnded h.input h.output l taken.sessions.items ends.sessions) (λ i. map seat_ends (o.seats i) ++ o.came.kept.items i) ends.ended in record {
        visits = a.visits;
        last = a.last;
        arrivals = a.arrivals;
        sessions = ends.sessions;
        visited = join start.door taken.door door (a.visits ++ a.last) (backs_of 1 ends.sessions) a.visited ends.back;
        asks = a.asks;
        ended = end_last a.last (length a.arrivals) (told_end a.why) end_is;
        joins = a.joins;
        count = sessions_count h.input h.output (map seat_ends v.seats ++ map ends_of kept) a.arrivals taken.sessions.items ends.sessions a.past ended;
        numbers = a.numbers;
        some = seats_some;
        seated = λ k there. subst (λ (l : List (Arrival I O)). IsTendedSeat h.input h.output l ends.sessions k (side v.seats k)) all
            (seat_tended h.input h.output v.seats (map ends_of kept) before kept taken.sessions.items ends.sessions same fit ended k there);
        late = λ k past there.
            subst (λ (l : List (Arrival I O)). IsTended h.input h.output l ends.sessions k nobody) all
            (late_tended h.input h.output v.seats before kept taken.sessions.items ends.sessions same fit ended k past (subst (λ (l : List (Arrival I O)). k < length l) (sym all) there));
        no_thread = a.no_thread;
        first = a.first;
        silent = silent_by;
        over = λ known. over_by (has_over o.before) refl (o.seen.last known);
        memory = λ none k session there wrote.
            told_seat h.input h.output v.seats before kept taken.sessions.items ends.sessions same fit ended (ends.memory none) k session there wrote;
      }

-- How far an acceptor is after one call more of its door.
use Rattle.std.proofs.Common.{◌≡◌, ◌∙◌, ℕ, suc, inr, ◌+◌, ◌≤◌, true, false, Bool, List, [], ◌∷◌, ◌++◌, ap, append_assoc, append-nil, arith, length, length-append, refl, subst, sym}
use Rattle.std.proofs.lemmas.List.Elements.{All-nil, All-push}
use Rattle.trick_outside.specs.Causes.{RoseBy}
use Rattle.trick_outside.specs.VisitLaws.{clients_join}
use Rattle.trick_outside.specs.Visits.{Gave, NotYet, Visit, clients}
use Rattle.trick_serve_seats.proofs.Pairs.{fit_more}
use Rattle.trick_serve_seats.proofs.Telling.{begun_more, clients_more, first_gave, first_later, gives_more, links_more, not_none, refused_more, rose_more}
use Rattle.trick_serve_seats.specs.Accepted.{HasAccepted}
use Rattle.trick_serve_seats.specs.Departures.{is_over, left_of}
use Rattle.trick_serve_seats.specs.Pairs.{AllFit}
use Rattle.trick_serve_seats.specs.Seats.{IsPast}
use Rattle.trick_serve_seats.specs.Taking.{HasAnswered, HasBegun, HasClosed, HasTaken, HasEnded, HasPlaced, HasRoom, HasToldEnd, HasToldNobody, Hosts, IsEnd, IsTaking, IsUnused, Start}
use Rattle.trick_serve_seats.specs.Told.{GivesFirst, IsOpen, links_of, refused_of, told_clients, told_end, told_first}
use Rattle.trick_serve_seats.specs.declared.arrival.Arrival.{Arrival}
use Rattle.trick_serve_seats.specs.declared.arrival.Comes.{Comes}
use Rattle.trick_serve_seats.specs.declared.arrival.Comes.TheVariants.{Client, Closed, Nobody}
use Rattle.trick_serve_seats.specs.declared.asks.Acceptor.{Acceptor}
use Rattle.trick_serve_seats.specs.declared.asks.Answer.TheVariants as answer
use Rattle.trick_serve_seats.specs.declared.asks.End.{End}
use Rattle.trick_serve_seats.specs.declared.asks.End.TheVariants as end
use Rattle.trick_serve_seats.specs.declared.past.Past.{Past}
use Rattle.trick_wire.specs.Ends.{put_by, taken_by}

module _ {I O : Type 0} where
  -- before the door was asked there was no client
  no_clients : (visits : List (Visit I O)) (arrivals : List (Arrival I O)) → links_of arrivals ≡ clients visits → visits ≡ [] → arrivals ≡ []
  no_clients visits [] joins none = refl
  no_clients visits (arrival ∷ arrivals) joins none = let early = ap clients none in absurd (cc)

  -- what is told where it is the first answer, and where it is a later one
  told_nobody : (before now after : List (Comes I O)) (visits : List (Visit I O)) (arrivals : List (Arrival I O)) → visits ≡ [] → arrivals ≡ [] → now ≡ before ++ (told_first visits ++ told_clients arrivals)
      → after ≡ now ++ Nobody ∷ [] → after ≡ before ++ (told_first (visits ++ NotYet ∷ []) ++ told_clients arrivals)
  told_nobody before now after [] [] first none is put = put ∙ ap (λ (l : List (Comes I O)). l ++ Nobody ∷ []) (is ∙ append-nil before)
  told_nobody before now after (visit ∷ visits) arrivals first none is put = absurd (cc)
  told_nobody before now after [] (arrival ∷ arrivals) first none is put = absurd (cc)

  told_later : (before now after : List (Comes I O)) (visits : List (Visit I O)) (arrivals : List (Arrival I O)) → HasBegun visits → now ≡ before ++ (told_first visits ++ told_clients arrivals)
      → after ≡ now → after ≡ before ++ (told_first (visits ++ NotYet ∷ []) ++ told_clients arrivals)
  told_later before now after visits arrivals begun is put = put ∙ is ∙ ap (λ (l : List (Comes I O)). before ++ (l ++ told_clients arrivals)) (sym (first_later visits (NotYet ∷ []) begun))

  told_idle : (before now after : List (Comes I O)) (visits : List (Visit I O)) (arrivals : List (Arrival I O)) (asked : Bool) → (asked ≡ false → visits ≡ []) → (asked ≡ true → HasBegun visits)
      → links_of arrivals ≡ clients visits → now ≡ before ++ (told_first visits ++ told_clients arrivals) → (asked ≡ true → after ≡ now) → (asked ≡ false → after ≡ now ++ Nobody ∷ [])
      → after ≡ before ++ (told_first (visits ++ NotYet ∷ []) ++ told_clients arrivals)
  told_idle before now after visits arrivals true none some joins is known told = told_later before now after visits arrivals (some refl) is (known refl)
  told_idle before now after visits arrivals false none some joins is known told = told_nobody before now after visits arrivals (none refl) (no_clients visits arrivals joins (none refl)) is (told refl)

-- the length of lists that fit
pub fit_length : {A B : Type 0} (Fits : A → B → Type 0) (xs : List A) (ys : List B) → AllFit Fits xs ys → length xs ≡ length ys
fit_length Fits [] [] fit = refl
fit_length Fits [] (y ∷ ys) fit = absurd fit
fit_length Fits (x ∷ xs) [] fit = absurd fit
fit_length Fits (x ∷ xs) (y ∷ ys) fit = ap suc (fit_length Fits xs ys fit.1)

-- an answer that does not end the asking
visited_more : {D I O : Type 0} (visited : D → List (Visit I O) → D → Type 0) (first : D) (visits : List (Visit I O)) (visit : Visit I O) (door : D) → visited first (visits ++ visit ∷ []) door
    → visited first ((visits ++ visit ∷ []) ++ []) door
visited_more visited first visits visit door went = subst (λ (all : List (Visit _ _)). visited first all door) (sym (append-nil (visits ++ visit ∷ []))) went

module _ {D I O S R T : Type 0} (h : Hosts D I O S) (Fits : Arrival I O → T → Type 0) (start : Start D I O S) where
  -- the door was asked once more
  pub taking_asked : (old new : D) (a : Acceptor I O S R T) (visit : Visit I O)
      → ((first second third : D) (early late : List (Visit I O)) → h.visited first early second → h.visited second late third → h.visited first (early ++ late) third)
      → IsTaking h Fits start [] old a → h.visited old (visit ∷ []) new → (h.has_client old → GivesFirst (visit ∷ [])) → IsTaking h Fits start (visit ∷ []) new a
  taking_asked old new a visit join t asked gives = record {
    visits = t.visits;
    arrivals = t.arrivals;
    visited = join start.door old new t.visits (visit ∷ []) (subst (λ (visits : List (Visit I O)). h.visited start.door visits old) (append-nil t.visits) t.visited) asked;
    asks = t.asks;
    coming = t.coming;
    gone = t.gone;
    told = t.told;
    joins = t.joins;
    seated = t.seated;
    refused = t.refused;
    none = t.none;
    some = t.some;
    room = t.room;
    untouched = λ none. absurd (not_none t.visits visit none);
    first = λ has. gives_more t.visits visit (λ none. gives (subst h.has_client (sym (t.untouched (append-nil t.visits ∙ none))) has)) (subst GivesFirst (append-nil t.visits) (t.first has));
  }

  pub taking_taken : (door : D) (old new : Acceptor I O S R T) (input : I) (output : O) → IsTaking h Fits start (Gave input output ∷ []) door old → HasTaken Fits h.refusals (input, output) old new
      → IsTaking h Fits start [] door new
  taking_taken door old new input output t more = record {
    visits = t.visits ++ Gave input output ∷ [];
    arrivals = t.arrivals ++ more.arrival ∷ [];
    visited = visited_more h.visited start.door t.visits (Gave input output) door t.visited;
    asks = All-push IsOpen t.visits (Gave input output) t.asks tt;
    coming = more.coming ∙ t.coming;
    gone = ap (λ gone. gone.shared) more.gone ∙ t.gone;
    told = more.told ∙ ap (λ (l : List (Comes I O)). l ++ Client more.arrival ∷ []) t.told ∙ append_assoc (put_by start.coming) (told_first t.visits ++ told_clients t.arrivals) (Client more.arrival ∷ [])
        ∙ ap (λ (l : List (Comes I O)). (put_by start.coming) ++ l) (append_assoc (told_first t.visits) (told_clients t.arrivals) (Client more.arrival ∷ [])
        ∙ ap (λ (l : List (Comes I O)). told_first t.visits ++ l) (sym (clients_more t.arrivals more.arrival))
        ∙ ap (λ (l : List (Comes I O)). l ++ told_clients (t.arrivals ++ more.arrival ∷ [])) (sym (first_gave t.visits input output)));
    joins = links_more t.arrivals more.arrival ∙ (λ i. t.joins i ++ (more.links_are.0 i, more.links_are.1 i) ∷ []) ∙ sym (clients_join t.visits (Gave input output ∷ []));
    seated = subst (λ l. AllFit Fits (t.arrivals ++ more.arrival ∷ []) l) (sym more.seated)
        (fit_more Fits t.arrivals old.sessions.seated.items more.arrival more.session t.seated more.fits);
    refused = subst (λ n. RoseBy (h.refusals start.spawner) n (h.refusals new.spawner)) (sym (refused_more t.arrivals more.arrival))
        (rose_more (h.refusals start.spawner) (refused_of t.arrivals) (h.refusals old.spawner) (h.refusals new.spawner) more.arrival.refused t.refused more.cause);
    none = λ no. absurd (let yes = more.asked in cc);
    some = λ yes. begun_more t.visits (Gave input output);
    room = (let before = t.room in let one = more.place in let same = ap (λ gone. left_of (taken_by gone)) more.gone in let many = length-append t.arrivals (more.arrival ∷ []) in omega arith);
    untouched = λ none. absurd (not_none t.visits (Gave input output) (sym (append-nil (t.visits ++ Gave input output ∷ [])) ∙ none));
    first = λ has. subst GivesFirst (sym (append-nil (t.visits ++ Gave input output ∷ []))) (t.first has);
  }

  pub taking_idle : (door : D) (old new : Acceptor I O S R T) → IsTaking h Fits start (NotYet ∷ []) door old → HasToldNobody old new → IsTaking h Fits start [] door new
  taking_idle door old new t more = record {
    visits = t.visits ++ NotYet ∷ [];
    arrivals = t.arrivals;
    visited = visited_more h.visited start.door t.visits NotYet door t.visited;
    asks = All-push IsOpen t.visits NotYet t.asks tt;
    coming = more.coming ∙ t.coming;
    gone = ap (λ places. places.gone.shared) more.places ∙ t.gone;
    told = told_idle (put_by start.coming) (put_by old.teller.coming) (put_by new.teller.coming) t.visits t.arrivals old.has_asked t.none t.some t.joins t.told more.known more.told;
    joins = t.joins ∙ sym (append-nil (clients t.visits)) ∙ sym (clients_join t.visits (NotYet ∷ []));
    seated = subst (λ sessions. AllFit Fits t.arrivals sessions.seated.items) (sym more.sessions) t.seated;
    refused = subst (λ s. RoseBy (h.refusals start.spawner) (refused_of t.arrivals) (h.refusals s)) (sym more.spawner) t.refused;
    none = λ no. absurd (let yes = more.asked in cc);
    some = λ yes. begun_more t.visits NotYet;
    room = subst (λ places. length t.arrivals + places.free + left_of (taken_by start.gone) ≤ 64 + left_of (taken_by places.gone)) (sym more.places) t.room;
    untouched = λ none. absurd (not_none t.visits NotYet (sym (append-nil (t.visits ++ NotYet ∷ [])) ∙ none));
    first = λ has. subst GivesFirst (sym (append-nil (t.visits ++ NotYet ∷ []))) (t.first has);
  }

  -- room was made for one session more
  pub taking_room : (last : List (Visit I O)) (door : D) (old new : Acceptor I O S R T) → IsTaking h Fits start last door old → HasRoom old new → IsTaking h Fits start last door new
  taking_room last door old new t same = record {
    visits = t.visits;
    arrivals = t.arrivals;
    visited = t.visited;
    asks = t.asks;
    coming = ap (λ teller. teller.coming.shared) same.teller ∙ t.coming;
    gone = ap (λ places. places.gone.shared) same.places ∙ t.gone;
    told = ap (λ teller. put_by teller.coming) same.teller ∙ t.told;
    joins = t.joins;
    seated = subst (λ l. AllFit Fits t.arrivals l) (sym same.seated) t.seated;
    refused = subst (λ s. RoseBy (h.refusals start.spawner) (refused_of t.arrivals) (h.refusals s)) (sym same.spawner) t.refused;
    none = λ no. t.none (sym same.asked ∙ no);
    some = λ yes. t.some (sym same.asked ∙ yes);
    room = subst (λ places. length t.arrivals + places.free + left_of (taken_by start.gone) ≤ 64 + left_of (taken_by places.gone)) (sym same.places) t.room;
    untouched = t.untouched;
    first = t.first;
  }

  pub ended_here : (why : End) (last : List (Visit I O)) (door : D) (a : Acceptor I O S R T) → IsTaking h Fits start last door a → ((count : ℕ) → IsEnd why last count)
      → (why ≡ end.Closed → is_over (taken_by a.places.gone) ≡ true) → HasEnded h Fits start why door a
  ended_here why last door a t ended closed = record { last = last; taking = t; ended = ended (length t.arrivals); closed = closed }

  -- the last number was given
  pub ended_full : (door : D) (a : Acceptor I O S R T) → IsTaking h Fits start [] door a → 4294967295 ≤ length a.sessions.seated.items → HasEnded h Fits start end.Over door a
  ended_full door a t full = record {
    last = [];
    taking = t;
    ended = inr (inr (refl, (let same = fit_length Fits t.arrivals a.sessions.seated.items t.seated in omega arith)));
    closed = λ no. absurd (cc);
  }

  -- places became free
  pub taking_placed : (last : List (Visit I O)) (door : D) (old new : Acceptor I O S R T) → IsTaking h Fits start last door old → HasPlaced old new → IsTaking h Fits start last door new
  taking_placed last door old new t same = record {
    visits = t.visits;
    arrivals = t.arrivals;
    visited = t.visited;
    asks = t.asks;
    coming = ap (λ teller. teller.coming.shared) same.teller ∙ t.coming;
    gone = same.gone ∙ t.gone;
    told = ap (λ teller. put_by teller.coming) same.teller ∙ t.told;
    joins = t.joins;
    seated = subst (λ sessions. AllFit Fits t.arrivals sessions.seated.items) (sym same.sessions) t.seated;
    refused = subst (λ s. RoseBy (h.refusals start.spawner) (refused_of t.arrivals) (h.refusals s)) (sym same.spawner) t.refused;
    none = λ no. t.none (sym same.asked ∙ no);
    some = λ yes. t.some (sym same.asked ∙ yes);
    room = (let before = t.room in let left = same.left in omega arith);
    untouched = t.untouched;
    first = t.first;
  }

  -- at its start
  pub taking_begins : (a : Acceptor I O S R T) → h.visited start.door [] start.door → IsUnused start.spawner start.coming start.gone a → IsTaking h Fits start [] start.door a
  taking_begins a visited new = record {
    visits = [];
    arrivals = [];
    visited = visited;
    asks = All-nil IsOpen;
    coming = ap (λ coming. coming.shared) new.coming_is;
    gone = ap (λ gone. gone.shared) new.gone_is;
    told = ap put_by new.coming_is ∙ sym (append-nil (put_by start.coming));
    joins = refl;
    seated = subst (λ l. AllFit Fits [] l) (sym new.none) tt;
    refused = (let more = ap h.refusals new.spawner_is in omega arith);
    none = λ asked. refl;
    some = λ yes. absurd (let no = new.asked in cc);
    room = (let many = ap (λ gone. left_of (taken_by gone)) new.gone_is in let free = new.free in omega arith);
    untouched = λ none. refl;
    first = λ has. tt;
  }

  -- the door gave a client
  pub taking_client : (old new : D) (a : Acceptor I O S R T) (input : I) (output : O)
      → ((first second third : D) (early late : List (Visit I O)) → h.visited first early second → h.visited second late third → h.visited first (early ++ late) third)
      → IsTaking h Fits start [] old a → HasAnswered h.visited h.has_client old (answer.Client input output) new → IsTaking h Fits start (Gave input output ∷ []) new a
  taking_client old new a input output join t more = subst (λ visit. IsTaking h Fits start (visit ∷ []) new a) more.is (taking_asked old new a more.visit join t more.visited_is more.first)

  -- it gave none yet
  pub taking_waits : (old new : D) (a : Acceptor I O S R T)
      → ((first second third : D) (early late : List (Visit I O)) → h.visited first early second → h.visited second late third → h.visited first (early ++ late) third)
      → IsTaking h Fits start [] old a → HasAnswered h.visited h.has_client old answer.NotYet new → IsTaking h Fits start (NotYet ∷ []) new a
  taking_waits old new a join t more = subst (λ visit. IsTaking h Fits start (visit ∷ []) new a) more.is (taking_asked old new a more.visit join t more.visited_is more.first)

  -- it gives none any more
  pub ended_answered : (why : End) (old new : D) (a : Acceptor I O S R T)
      → ((first second third : D) (early late : List (Visit I O)) → h.visited first early second → h.visited second late third → h.visited first (early ++ late) third)
      → IsTaking h Fits start [] old a → HasAnswered h.visited h.has_client old (answer.End why) new → HasEnded h Fits start why new a
  ended_answered why old new a join t more = ended_here why (more.visit ∷ []) new a (taking_asked old new a more.visit join t more.visited_is more.first) more.is
      (λ closed. let none : more.visit ∷ [] ≡ [] = subst (λ why. IsEnd why (more.visit ∷ []) 0) closed (more.is 0) in absurd (cc))

  -- it asks no more, the caller was told why, and then that it is closed
  pub accepted : (why : End) (last : List (Visit I O)) (door : D) (before told after : Acceptor I O S R T) (sessions : List (Past I O)) → (t : IsTaking h Fits start last door before)
      → IsEnd why last (length t.arrivals) → HasToldEnd why before told → HasClosed told after → ((arrivals : List (Arrival I O)) → AllFit Fits arrivals after.sessions.seated.items
      → AllFit (IsPast h.input h.output) arrivals sessions) → HasAccepted h start door after.spawner after.teller.coming after.places.gone sessions
  accepted why last door before told after sessions t ended tells closes taken_in =
      let same : after.sessions ≡ before.sessions = closes.sessions ∙ tells.sessions in
      let fit : AllFit Fits t.arrivals after.sessions.seated.items = subst (λ sessions. AllFit Fits t.arrivals sessions.seated.items) (sym same) t.seated in record {
        visits = t.visits;
        last = last;
        arrivals = t.arrivals;
        why = why;
        visited = t.visited;
        asks = t.asks;
        ended = ended;
        coming_is = closes.coming ∙ tells.coming ∙ t.coming;
        gone_is = closes.gone ∙ ap (λ places. places.gone.shared) tells.places ∙ t.gone;
        told = closes.told ∙ ap (λ (l : List (Comes I O)). l ++ Closed ∷ []) (tells.told ∙ ap (λ (l : List (Comes I O)). l ++ told_end why) t.told);
        joins = t.joins;
        past = taken_in t.arrivals fit;
        no_thread = subst (λ s. RoseBy (h.refusals start.spawner) (refused_of t.arrivals) (h.refusals s)) (sym (closes.spawner ∙ tells.spawner)) t.refused;
        numbers = (let many = fit_length Fits t.arrivals after.sessions.seated.items fit in omega (arith, many, after.sessions.numbers, after.sessions.seated.ok.0));
        room = (let room = t.room in let left = closes.left in let free = ap (λ places. places.free) tells.places in let many = ap (λ places. left_of (taken_by places.gone)) tells.places in omega arith);
        over = closes.over;
        first = t.first;
      }

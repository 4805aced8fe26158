-- Which client a seat is of, as seats change.
use Rattle.std.proofs.Common.{◌≡◌, ◌≢◌, ◌∙◌, ⊎_elim, ℕ, ◌<◌, ◌≤◌, Bool, true, false, List, [], ◌∷◌, ◌++◌, Some, ap, append-nil, arith, length, map, refl, slice_index_or, slice_set, sym}
use Rattle.std.proofs.lemmas.Bool.{false≢true}
use Rattle.std.proofs.lemmas.List.{nil_from_length, get_or-map, length-map, map-append, map-set, set-get_or}
use Rattle.trick_model.specs.declared.entry.Entry.{Entry}
use Rattle.trick_model.specs.declared.session.Session.{Session}
use Rattle.trick_serve_hearing.proofs.Living.{some≢none}
use Rattle.trick_serve_hearing.specs.Clients.{AreOfClients, IsLast, IsSilent, KeepQueues, client_queues, clients_of, has_lack, has_over, is_silent, seat_queues}
use Rattle.trick_serve_hearing.specs.Gathering.{HasListed, HasLooked}
use Rattle.trick_serve_hearing.specs.Life.{Happening, Happens, Hears, IsSeated, IsSlow, IsTold, Misses, after}
use Rattle.trick_serve_hearing.specs.Messages.{IsHanded}
use Rattle.trick_serve_hearing.specs.Sides.{Queues, Side, queues_of, side_of}
use Rattle.trick_serve_hearing.specs.declared.seat.Seat.{Seat}
use Rattle.trick_serve_seats.specs.declared.arrival.Arrival.{Arrival}
use Rattle.trick_serve_seats.specs.declared.arrival.Comes.{Comes}
use Rattle.trick_serve_seats.specs.declared.arrival.Comes.TheVariants as comes

-- ---- one seat

some_same : (p q : Queues) → Some p ≡ Some q → p ≡ q
some_same p q is = cc

happens_keep : (hs : List Happening) (a b : Side) (q : Queues) → a.queues ≡ Some q → Happens hs a b → b.queues ≡ Some q
happens_keep [] a b q seated h = ap (λ (s : Side). s.queues) h ∙ seated
happens_keep (IsSeated s refused ∷ hs) a b q seated h = absurd (some≢none q (sym seated ∙ ap (λ (s : Side). s.queues) h.0.first))
happens_keep (Hears item ∷ hs) a b q seated h = happens_keep hs (after (Hears item) a) b q seated h.1
happens_keep (Misses item ∷ hs) a b q seated h = happens_keep hs (after (Misses item) a) b q seated h.1
happens_keep (IsTold why ∷ hs) a b q seated h = happens_keep hs (after (IsTold why) a) b q seated h.1
happens_keep (IsSlow ∷ hs) a b q seated h = happens_keep hs (after IsSlow a) b q seated h.1

pub listed_keeps : (n : ℕ) (old new : Seat) (before late : List Entry) (done : Bool) → HasListed n (side_of old) (side_of new) before late done
    → queues_of new ≡ queues_of old
listed_keeps n old new before late done did =
    some_same (queues_of new) (queues_of old) (happens_keep did.happened (side_of old) (side_of new) (queues_of old) refl did.happens)

pub looked_keeps : (n : ℕ) (there : List Session) (old new : Seat) (before late : List Entry) → HasLooked n there (side_of old) (side_of new) before late
    → queues_of new ≡ queues_of old
looked_keeps n there old new before late did = some_same (queues_of new) (queues_of old) (⊎_elim
    (λ up. ap (λ (s : Side). s.queues) up.0.is)
    (λ stays. ap (λ (s : Side). s.queues) stays.0)
    did.looked)

pub handed_keeps : (bytes : List ℕ) (old new : Seat) → IsHanded bytes (side_of old) (side_of new) → queues_of new ≡ queues_of old
handed_keeps bytes old new did = some_same (queues_of new) (queues_of old) (⊎_elim
    (λ put. ap (λ (s : Side). s.queues) put.is)
    (λ not'. ⊎_elim (λ out. ap (λ (s : Side). s.queues) out.is) (λ past. ap (λ (s : Side). s.queues) past.is) not')
    did)

-- ---- all seats

pub queues_set : (seats : List Seat) (i : ℕ) (d seat : Seat) → i < length seats → queues_of seat ≡ queues_of (slice_index_or seats i d)
    → KeepQueues seats (slice_set seats i seat)
queues_set seats i d seat there same =
    map-set queues_of seats i seat
    ∙ ap (λ (q : Queues). slice_set (seat_queues seats) i q) (same ∙ sym (get_or-map queues_of seats i d (queues_of d) there))
    ∙ set-get_or (seat_queues seats) i (queues_of d)

-- there are as many seats as queues of seats
pub same_many : (seats seats' : List Seat) → KeepQueues seats seats' → length seats' ≡ length seats
same_many seats seats' kept = sym (length-map seats' queues_of) ∙ ap length kept ∙ length-map seats queues_of

-- ---- what came

module _ {I O : Type 0} where
  pub clients_more : (came : List (Comes I O)) (item : Comes I O) → clients_of (came ++ item ∷ []) ≡ clients_of came ++ clients_of (item ∷ [])
  clients_more [] item = refl
  clients_more (comes.Client arrival ∷ came) item = ap (λ (l : List (Arrival I O)). arrival ∷ l) (clients_more came item)
  clients_more (comes.Nobody ∷ came) item = clients_more came item
  clients_more (comes.Over ∷ came) item = clients_more came item
  clients_more (comes.OutOfMemory ∷ came) item = clients_more came item
  clients_more (comes.Closed ∷ came) item = clients_more came item

  -- One thing more came, and its client, if it is one, got the next seat.
  pub clients_took : (came now : List (Comes I O)) (item : Comes I O) (seats seats' : List Seat) → now ≡ came ++ item ∷ []
      → seat_queues seats' ≡ seat_queues seats ++ map client_queues (clients_of (item ∷ [])) → AreOfClients came seats
      → AreOfClients now seats'
  clients_took came now item seats seats' is added so =
      added
      ∙ ap (λ (l : List Queues). l ++ map client_queues (clients_of (item ∷ []))) so
      ∙ sym (map-append client_queues (clients_of came) (clients_of (item ∷ [])))
      ∙ ap (λ (l : List (Arrival I O)). map client_queues l) (sym (clients_more came item))
      ∙ ap (λ (l : List (Comes I O)). map client_queues (clients_of l)) (sym is)

  -- Nothing came.
  pub clients_same : (came now : List (Comes I O)) (seats seats' : List Seat) → now ≡ came → KeepQueues seats seats'
      → AreOfClients came seats → AreOfClients now seats'
  clients_same came now seats seats' is kept so =
      kept ∙ so ∙ ap (λ (l : List (Comes I O)). map client_queues (clients_of l)) (sym is)

  -- One thing more came that is no client.
  pub clients_idle : (came now : List (Comes I O)) (item : Comes I O) (seats seats' : List Seat) → now ≡ came ++ item ∷ [] → clients_of (item ∷ []) ≡ []
      → seats' ≡ seats → AreOfClients came seats → AreOfClients now seats'
  clients_idle came now item seats seats' is none kept so =
      ap seat_queues kept ∙ so
      ∙ ap (λ (l : List (Arrival I O)). map client_queues l) (sym (append-nil (clients_of came)) ∙ ap (λ (l : List (Arrival I O)). clients_of came ++ l) (sym none) ∙ sym (clients_more came item))
      ∙ ap (λ (l : List (Comes I O)). map client_queues (clients_of l)) (sym is)

  -- ---- whether no client comes any more

  open_before : (came : List (Comes I O)) (item : Comes I O) → has_over (came ++ item ∷ []) ≡ false → has_over came ≡ false
  open_before [] item none = refl
  open_before (comes.Client arrival ∷ came) item none = open_before came item none
  open_before (comes.Nobody ∷ came) item none = open_before came item none
  open_before (comes.Over ∷ came) item none = none
  open_before (comes.OutOfMemory ∷ came) item none = open_before came item none
  open_before (comes.Closed ∷ came) item none = open_before came item none

  over_comes : (came : List (Comes I O)) → has_over (came ++ comes.Over ∷ []) ≡ true
  over_comes [] = refl
  over_comes (comes.Client arrival ∷ came) = over_comes came
  over_comes (comes.Nobody ∷ came) = over_comes came
  over_comes (comes.Over ∷ came) = refl
  over_comes (comes.OutOfMemory ∷ came) = over_comes came
  over_comes (comes.Closed ∷ came) = over_comes came

  -- It stays so while there are as many seats at least, and where one thing more came.
  pub last_same : (came now : List (Comes I O)) (seats seats' : List Seat) → now ≡ came → length seats ≤ length seats' → IsLast came seats → IsLast now seats'
  last_same came now seats seats' is many last = λ none. let full = last (sym (ap has_over is) ∙ none) in omega (arith, full, many)

  pub last_took : (came now : List (Comes I O)) (item : Comes I O) (seats seats' : List Seat) → now ≡ came ++ item ∷ [] → length seats ≤ length seats' → IsLast came seats → IsLast now seats'
  last_took came now item seats seats' is many last =
      λ none. let full = last (open_before came item (sym (ap has_over is) ∙ none)) in omega (arith, full, many)

  -- it came just now
  pub last_over : (came now : List (Comes I O)) (seats : List Seat) → now ≡ came ++ comes.Over ∷ [] → IsLast now seats
  last_over came now seats is = λ none. absurd (false≢true (sym none ∙ ap has_over is ∙ over_comes came))

  -- ---- what came first

  silent_more : (came : List (Comes I O)) (item : Comes I O) → IsSilent came → IsSilent (came ++ item ∷ [])
  silent_more [] item so = absurd (false≢true so)
  silent_more (comes.Client arrival ∷ came) item so = absurd (false≢true so)
  silent_more (comes.Nobody ∷ came) item so = refl
  silent_more (comes.Over ∷ came) item so = refl
  silent_more (comes.OutOfMemory ∷ came) item so = refl
  silent_more (comes.Closed ∷ came) item so = refl

  -- It is no client, and that stays where one thing more came, and where nothing came.
  pub silent_took : (came now : List (Comes I O)) (item : Comes I O) → now ≡ came ++ item ∷ [] → IsSilent came → IsSilent now
  silent_took came now item is so = ap is_silent is ∙ silent_more came item so

  pub silent_same : (came now : List (Comes I O)) → now ≡ came → IsSilent came → IsSilent now
  silent_same came now is so = ap is_silent is ∙ so

  first_none : (came : List (Comes I O)) (item : Comes I O) → length (clients_of (came ++ item ∷ [])) ≡ 0 → IsSilent (came ++ item ∷ [])
  first_none [] (comes.Client arrival) none = absurd (omega (arith, none))
  first_none [] comes.Nobody none = refl
  first_none [] comes.Over none = refl
  first_none [] comes.OutOfMemory none = refl
  first_none [] comes.Closed none = refl
  first_none (comes.Client arrival ∷ came) item none = absurd (omega (arith, none))
  first_none (comes.Nobody ∷ came) item none = refl
  first_none (comes.Over ∷ came) item none = refl
  first_none (comes.OutOfMemory ∷ came) item none = refl
  first_none (comes.Closed ∷ came) item none = refl

  -- One thing more came, and still no client has a seat.
  pub first_took : (came now : List (Comes I O)) (item : Comes I O) (seats : List Seat) → now ≡ came ++ item ∷ [] → AreOfClients now seats → seats ≡ []
      → IsSilent now
  first_took came now item seats is so empty =
      let many : length (clients_of now) ≡ 0 =
      sym (length-map (clients_of now) client_queues) ∙ ap length (sym so) ∙ length-map seats queues_of ∙ ap length empty in
      ap is_silent is
      ∙ (first_none came item (ap (λ (l : List (Comes I O)). length (clients_of l)) (sym is) ∙ many))

  -- ---- whether it came that there was no memory

  lack_more : (came : List (Comes I O)) (item : Comes I O) → has_lack (item ∷ []) ≡ false → has_lack came ≡ false → has_lack (came ++ item ∷ []) ≡ false
  lack_more [] item one none = one
  lack_more (comes.Client arrival ∷ came) item one none = lack_more came item one none
  lack_more (comes.Nobody ∷ came) item one none = lack_more came item one none
  lack_more (comes.Over ∷ came) item one none = lack_more came item one none
  lack_more (comes.OutOfMemory ∷ came) item one none = absurd (false≢true (sym none))
  lack_more (comes.Closed ∷ came) item one none = lack_more came item one none

  -- It did not, nor does what came now say so.
  pub lack_took : (came now : List (Comes I O)) (item : Comes I O) → now ≡ came ++ item ∷ [] → has_lack (item ∷ []) ≡ false → has_lack came ≡ false
      → has_lack now ≡ false
  lack_took came now item is one none = ap has_lack is ∙ lack_more came item one none

-- There are as many at least, and none now.
pub none_before : (seats seats' : List Seat) → length seats ≤ length seats' → seats' ≡ [] → seats ≡ []
none_before seats seats' more none = let many = ap length none in nil_from_length seats (omega (arith, more, many))

-- The last number was given, so there is a seat.
pub full_some : (seats : List Seat) → 4294967295 ≤ length seats → seats ≢ []
full_some seats full = λ none. let many = ap length none in absurd (omega (arith, full, many))

-- what holds where this is true and where it is not
pub either_way : {P : Type 0} (b : Bool) → (b ≡ true → P) → (b ≡ false → P) → P
either_way true first second = first refl
either_way false first second = second refl

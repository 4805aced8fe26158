-- What was told of the clients, and taken.
use Rattle.std.proofs.Common.{◌≡◌, ◌∙◌, ⊎_elim, true, false, List, [], ◌∷◌, ◌++◌, ap, append-nil, arith, length, refl, subst, sym}
use Rattle.std.proofs.lemmas.Bool.{false≢true}
use Rattle.std.proofs.lemmas.List.Elements.{All-head}
use Rattle.std.specs.Prelude.{All}
use Rattle.trick_outside.specs.Visits.{Back, Ended, Failed, Gave, NotYet, OutOfMemory, Visit, clients}
use Rattle.trick_serve_hearing.specs.Clients.{IsSilent, clients_of, has_lack, has_over}
use Rattle.trick_serve_seats.specs.Taking.{IsEnd}
use Rattle.trick_serve_seats.specs.Told.{GivesFirst, IsOpen, links_of, told_clients, told_end, told_first}
use Rattle.trick_serve_seats.specs.declared.arrival.Arrival.{Arrival}
use Rattle.trick_serve_seats.specs.declared.arrival.Comes.{Comes}
use Rattle.trick_serve_seats.specs.declared.arrival.Comes.TheVariants as comes
use Rattle.trick_serve_seats.specs.declared.asks.End.{End}
use Rattle.trick_serve_seats.specs.declared.asks.End.TheVariants as end

module _ {I O : Type 0} where
  -- None of this tells that the acceptor is closed.
  abbrev pub NoneClosed : List (Comes I O) → Type 0
  NoneClosed [] = Unit {0}
  NoneClosed (comes.Client arrival ∷ items) = NoneClosed items
  NoneClosed (comes.Nobody ∷ items) = NoneClosed items
  NoneClosed (comes.Over ∷ items) = NoneClosed items
  NoneClosed (comes.OutOfMemory ∷ items) = NoneClosed items
  NoneClosed (comes.Closed ∷ items) = ⊥

  none_join : (early late : List (Comes I O)) → NoneClosed early → NoneClosed late → NoneClosed (early ++ late)
  none_join [] late one two = two
  none_join (comes.Client arrival ∷ early) late one two = none_join early late one two
  none_join (comes.Nobody ∷ early) late one two = none_join early late one two
  none_join (comes.Over ∷ early) late one two = none_join early late one two
  none_join (comes.OutOfMemory ∷ early) late one two = none_join early late one two
  none_join (comes.Closed ∷ early) late one two = absurd one

  none_first : (visits : List (Visit I O)) → NoneClosed (told_first visits)
  none_first [] = tt
  none_first (Gave input output ∷ visits) = tt
  none_first (NotYet ∷ visits) = tt
  none_first (Ended ∷ visits) = tt
  none_first (Failed ∷ visits) = tt
  none_first (OutOfMemory ∷ visits) = tt
  none_first (Back number input output ∷ visits) = tt

  none_clients : (arrivals : List (Arrival I O)) → NoneClosed (told_clients arrivals)
  none_clients [] = tt
  none_clients (arrival ∷ arrivals) = none_clients arrivals

  -- all that is told before that
  abbrev pub told : List (Visit I O) → List (Arrival I O) → List (Comes I O) → List (Comes I O)
  told visits arrivals end = (told_first visits ++ told_clients arrivals) ++ end

  pub none_told : (visits : List (Visit I O)) (arrivals : List (Arrival I O)) (end : List (Comes I O)) → NoneClosed end → NoneClosed (told visits arrivals end)
  none_told visits arrivals end none =
      none_join (told_first visits ++ told_clients arrivals) end (none_join (told_first visits) (told_clients arrivals) (none_first visits) (none_clients arrivals)) none

  not_first : (item : Comes I O) (items rest : List (Comes I O)) → item ∷ items ≡ comes.Closed ∷ rest → NoneClosed (item ∷ items) → ⊥
  not_first item items rest is none = subst NoneClosed is none

  rest_none : (item : Comes I O) (items : List (Comes I O)) → NoneClosed (item ∷ items) → NoneClosed items
  rest_none (comes.Client arrival) items none = none
  rest_none comes.Nobody items none = none
  rest_none comes.Over items none = none
  rest_none comes.OutOfMemory items none = none
  rest_none comes.Closed items none = absurd none

  no_more : (items : List (Comes I O)) (late : List (Comes I O)) → [] ≡ (items ++ comes.Closed ∷ []) ++ late → ⊥
  no_more [] late is = cc
  no_more (item ∷ items) late is = cc

  same_head : (x y : Comes I O) (xs ys : List (Comes I O)) → x ∷ xs ≡ y ∷ ys → x ≡ y
  same_head x y xs ys is = cc

  same_tail : (x y : Comes I O) (xs ys : List (Comes I O)) → x ∷ xs ≡ y ∷ ys → xs ≡ ys
  same_tail x y xs ys is = cc

  -- Whoever has taken that the acceptor is closed has taken all.
  pub all_taken : (front items late : List (Comes I O)) → NoneClosed front → front ++ comes.Closed ∷ [] ≡ (items ++ comes.Closed ∷ []) ++ late → items ≡ front
  all_taken [] [] late none is = refl
  all_taken [] (item ∷ items) late none is = absurd (no_more items late (same_tail comes.Closed item [] _ is))
  all_taken (first ∷ front) [] late none is =
      absurd (subst NoneClosed (ap (λ (x : Comes I O). x ∷ front) (same_head first comes.Closed (front ++ comes.Closed ∷ []) late is)) none)
  all_taken (first ∷ front) (item ∷ items) late none is =
      let head = same_head first item (front ++ comes.Closed ∷ []) ((items ++ comes.Closed ∷ []) ++ late) is in
      let rest = all_taken front items late (rest_none first front none) (same_tail first item (front ++ comes.Closed ∷ []) ((items ++ comes.Closed ∷ []) ++ late) is) in
      (λ i. sym head i ∷ rest i)

  -- ---- the clients

  pub clients_join : (early late : List (Comes I O)) → clients_of (early ++ late) ≡ clients_of early ++ clients_of late
  clients_join [] late = refl
  clients_join (comes.Client arrival ∷ early) late = ap (λ (l : List (Arrival I O)). arrival ∷ l) (clients_join early late)
  clients_join (comes.Nobody ∷ early) late = clients_join early late
  clients_join (comes.Over ∷ early) late = clients_join early late
  clients_join (comes.OutOfMemory ∷ early) late = clients_join early late
  clients_join (comes.Closed ∷ early) late = clients_join early late

  first_clients : (visits : List (Visit I O)) → clients_of (told_first visits) ≡ []
  first_clients [] = refl
  first_clients (Gave input output ∷ visits) = refl
  first_clients (NotYet ∷ visits) = refl
  first_clients (Ended ∷ visits) = refl
  first_clients (Failed ∷ visits) = refl
  first_clients (OutOfMemory ∷ visits) = refl
  first_clients (Back number input output ∷ visits) = refl

  clients_clients : (arrivals : List (Arrival I O)) → clients_of (told_clients arrivals) ≡ arrivals
  clients_clients [] = refl
  clients_clients (arrival ∷ arrivals) = ap (λ (l : List (Arrival I O)). arrival ∷ l) (clients_clients arrivals)

  pub told_arrivals : (visits : List (Visit I O)) (arrivals : List (Arrival I O)) (end : List (Comes I O)) → clients_of end ≡ [] → clients_of (told visits arrivals end) ≡ arrivals
  told_arrivals visits arrivals end nobody =
      clients_join (told_first visits ++ told_clients arrivals) end
      ∙ (λ i. clients_join (told_first visits) (told_clients arrivals) i ++ nobody i)
      ∙ append-nil (clients_of (told_first visits) ++ clients_of (told_clients arrivals))
      ∙ (λ i. first_clients visits i ++ clients_clients arrivals i)

  -- ---- that no client comes any more

  over_join : (early late : List (Comes I O)) → has_over early ≡ false → has_over (early ++ late) ≡ has_over late
  over_join [] late none = refl
  over_join (comes.Client arrival ∷ early) late none = over_join early late none
  over_join (comes.Nobody ∷ early) late none = over_join early late none
  over_join (comes.Over ∷ early) late none = absurd (false≢true (sym none))
  over_join (comes.OutOfMemory ∷ early) late none = over_join early late none
  over_join (comes.Closed ∷ early) late none = over_join early late none

  over_stays : (early late : List (Comes I O)) → has_over early ≡ true → has_over (early ++ late) ≡ true
  over_stays [] late heard = absurd (false≢true heard)
  over_stays (comes.Client arrival ∷ early) late heard = over_stays early late heard
  over_stays (comes.Nobody ∷ early) late heard = over_stays early late heard
  over_stays (comes.Over ∷ early) late heard = refl
  over_stays (comes.OutOfMemory ∷ early) late heard = over_stays early late heard
  over_stays (comes.Closed ∷ early) late heard = over_stays early late heard

  first_over : (visits : List (Visit I O)) → has_over (told_first visits) ≡ false
  first_over [] = refl
  first_over (Gave input output ∷ visits) = refl
  first_over (NotYet ∷ visits) = refl
  first_over (Ended ∷ visits) = refl
  first_over (Failed ∷ visits) = refl
  first_over (OutOfMemory ∷ visits) = refl
  first_over (Back number input output ∷ visits) = refl

  clients_over : (arrivals : List (Arrival I O)) → has_over (told_clients arrivals) ≡ false
  clients_over [] = refl
  clients_over (arrival ∷ arrivals) = clients_over arrivals

  open_front : (visits : List (Visit I O)) (arrivals : List (Arrival I O)) → has_over (told_first visits ++ told_clients arrivals) ≡ false
  open_front visits arrivals = over_join (told_first visits) (told_clients arrivals) (first_over visits) ∙ clients_over arrivals

  -- Where it was taken that no client comes any more, that was told at the end.
  pub over_told : (visits : List (Visit I O)) (arrivals : List (Arrival I O)) (end early late : List (Comes I O)) → early ++ late ≡ told visits arrivals end → has_over early ≡ true
      → has_over end ≡ true
  over_told visits arrivals end early late is heard =
      sym (over_join (told_first visits ++ told_clients arrivals) end (open_front visits arrivals)) ∙ sym (ap has_over is) ∙ over_stays early late heard

  late_empty : (front early late : List (Comes I O)) → early ++ late ≡ front ++ comes.Over ∷ [] → has_over early ≡ true → has_over front ≡ false → late ≡ []
  late_empty front [] late is heard open' = absurd (false≢true heard)
  late_empty [] (first ∷ []) late is heard open' = same_tail first comes.Over late [] is
  late_empty [] (first ∷ next ∷ early) late is heard open' = absurd (let none = same_tail first comes.Over (next ∷ (early ++ late)) [] is in cc)
  late_empty (comes.Client arrival ∷ front) (first ∷ early) late is heard open' =
      late_empty front early late (same_tail first (comes.Client arrival) (early ++ late) (front ++ comes.Over ∷ []) is)
      (subst (λ (x : Comes I O). has_over (x ∷ early) ≡ true) (same_head first (comes.Client arrival) (early ++ late) (front ++ comes.Over ∷ []) is) heard) open'
  late_empty (comes.Nobody ∷ front) (first ∷ early) late is heard open' =
      late_empty front early late (same_tail first comes.Nobody (early ++ late) (front ++ comes.Over ∷ []) is)
      (subst (λ (x : Comes I O). has_over (x ∷ early) ≡ true) (same_head first comes.Nobody (early ++ late) (front ++ comes.Over ∷ []) is) heard) open'
  late_empty (comes.OutOfMemory ∷ front) (first ∷ early) late is heard open' =
      late_empty front early late (same_tail first comes.OutOfMemory (early ++ late) (front ++ comes.Over ∷ []) is)
      (subst (λ (x : Comes I O). has_over (x ∷ early) ≡ true) (same_head first comes.OutOfMemory (early ++ late) (front ++ comes.Over ∷ []) is) heard) open'
  late_empty (comes.Closed ∷ front) (first ∷ early) late is heard open' =
      late_empty front early late (same_tail first comes.Closed (early ++ late) (front ++ comes.Over ∷ []) is)
      (subst (λ (x : Comes I O). has_over (x ∷ early) ≡ true) (same_head first comes.Closed (early ++ late) (front ++ comes.Over ∷ []) is) heard) open'
  late_empty (comes.Over ∷ front) (first ∷ early) late is heard open' = absurd (false≢true (sym open'))

  -- No client came after it.
  pub over_all : (visits : List (Visit I O)) (arrivals : List (Arrival I O)) (end early late : List (Comes I O)) → early ++ late ≡ told visits arrivals end → end ≡ comes.Over ∷ []
      → has_over early ≡ true → late ≡ []
  over_all visits arrivals end early late is last heard =
      late_empty (told_first visits ++ told_clients arrivals) early late (is ∙ ap (λ (e : List (Comes I O)). told visits arrivals e) last) heard (open_front visits arrivals)

  -- ---- the first thing that was told

  no_item : (x : Comes I O) (xs : List (Comes I O)) → x ∷ xs ≡ [] → ⊥
  no_item x xs is = cc

  no_link : (x : I × O) (xs : List (I × O)) → x ∷ xs ≡ [] → ⊥
  no_link x xs is = cc

  -- what was taken first is no client, where the first thing that was told is one
  client_first : (before some rest : List (Comes I O)) (arrival : Arrival I O) → before ++ some ≡ comes.Client arrival ∷ rest → IsSilent before → ⊥
  client_first [] some rest arrival is silent = false≢true silent
  client_first (first ∷ before) some rest arrival is silent =
      false≢true (subst (λ (x : Comes I O). IsSilent (x ∷ before)) (same_head first (comes.Client arrival) (before ++ some) rest is) silent)

  none_first_taken : (before some : List (Comes I O)) → before ++ some ≡ [] → IsSilent before → ⊥
  none_first_taken [] some is silent = false≢true silent
  none_first_taken (first ∷ before) some is silent = no_item first (before ++ some) is

  lack_first : (before some rest : List (Comes I O)) → before ++ some ≡ comes.OutOfMemory ∷ rest → has_lack before ≡ false → IsSilent before → ⊥
  lack_first [] some rest is none silent = false≢true silent
  lack_first (first ∷ before) some rest is none silent =
      false≢true (sym (subst (λ (x : Comes I O). has_lack (x ∷ before) ≡ false) (same_head first comes.OutOfMemory (before ++ some) rest is) none))

  -- No call gave a client, and the last one is none: it had ended, had failed, or there was no memory.
  silent_end : (last : List (Visit I O)) (why : End) (before some : List (Comes I O)) → before ++ some ≡ told_end why → IsEnd why last 0 → GivesFirst last → has_lack before ≡ false → IsSilent before → ⊥
  silent_end last end.Over before some is ended gives none silent = ⊎_elim
      (λ over. subst GivesFirst over gives)
      (λ more. ⊎_elim (λ failed. subst GivesFirst failed gives) (λ full. (let many = full.1 in omega arith)) more)
      ended
  silent_end last end.OutOfMemory before some is ended gives none silent = lack_first before some [] is none silent
  silent_end last end.Closed before some is ended gives none silent = none_first_taken before some is silent

  -- Where the door told that it has a client, and there was memory, nothing else is the first thing that was taken.
  pub silent_not : (visits last : List (Visit I O)) (arrivals : List (Arrival I O)) (why : End) (before some : List (Comes I O)) → before ++ some ≡ told visits arrivals (told_end why)
      → links_of arrivals ≡ clients visits → All IsOpen visits → IsEnd why last (length arrivals) → GivesFirst (visits ++ last) → has_lack before ≡ false → IsSilent before → ⊥
  silent_not [] last [] why before some is joins asks ended gives none silent = silent_end last why before some is ended gives none silent
  silent_not [] last (arrival ∷ arrivals) why before some is joins asks ended gives none silent = no_link (arrival.input.value, arrival.output.value) (links_of arrivals) joins
  silent_not (Gave input output ∷ visits) last [] why before some is joins asks ended gives none silent = no_link (input, output) (clients visits) (sym joins)
  silent_not (Gave input output ∷ visits) last (arrival ∷ arrivals) why before some is joins asks ended gives none silent =
      client_first before some (told_clients arrivals ++ told_end why) arrival is silent
  silent_not (NotYet ∷ visits) last arrivals why before some is joins asks ended gives none silent = gives
  silent_not (Ended ∷ visits) last arrivals why before some is joins asks ended gives none silent = gives
  silent_not (Failed ∷ visits) last arrivals why before some is joins asks ended gives none silent = gives
  silent_not (OutOfMemory ∷ visits) last arrivals why before some is joins asks ended gives none silent = All-head IsOpen OutOfMemory visits asks
  silent_not (Back number input output ∷ visits) last arrivals why before some is joins asks ended gives none silent = gives

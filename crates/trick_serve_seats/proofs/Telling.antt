-- What the caller is told, with one call more of the door.
use Rattle.std.proofs.Common.{◌≡◌, ℕ, ◌+◌, ◌≤◌, Bool, true, false, List, [], ◌∷◌, ◌++◌, ap, arith, refl}
use Rattle.trick_outside.specs.Causes.{HasCause, Rose, RoseBy}
use Rattle.trick_outside.specs.Visits.{Back, Ended, Failed, Gave, NotYet, OutOfMemory, Visit}
use Rattle.trick_serve_seats.specs.Taking.{HasBegun}
use Rattle.trick_serve_seats.specs.Told.{GivesFirst, links_of, refused_of, told_clients, told_first}
use Rattle.trick_serve_seats.specs.declared.arrival.Arrival.{Arrival}
use Rattle.trick_serve_seats.specs.declared.arrival.Comes.{Comes}
use Rattle.trick_serve_seats.specs.declared.arrival.Comes.TheVariants.{Client}

module _ {I O : Type 0} where
  pub clients_more : (arrivals : List (Arrival I O)) (arrival : Arrival I O) → told_clients (arrivals ++ arrival ∷ []) ≡ told_clients arrivals ++ Client arrival ∷ []
  clients_more [] arrival = refl
  clients_more (first ∷ arrivals) arrival = ap (λ (l : List (Comes I O)). Client first ∷ l) (clients_more arrivals arrival)

  pub links_more : (arrivals : List (Arrival I O)) (arrival : Arrival I O) → links_of (arrivals ++ arrival ∷ []) ≡ links_of arrivals ++ (arrival.input.value, arrival.output.value) ∷ []
  links_more [] arrival = refl
  links_more (first ∷ arrivals) arrival = ap (λ (l : List (I × O)). (first.input.value, first.output.value) ∷ l) (links_more arrivals arrival)

  -- a client changes nothing of what is told first
  pub first_gave : (visits : List (Visit I O)) (input : I) (output : O) → told_first (visits ++ Gave input output ∷ []) ≡ told_first visits
  first_gave [] input output = refl
  first_gave (Gave i o ∷ visits) input output = refl
  first_gave (NotYet ∷ visits) input output = refl
  first_gave (Ended ∷ visits) input output = refl
  first_gave (Failed ∷ visits) input output = refl
  first_gave (OutOfMemory ∷ visits) input output = refl
  first_gave (Back n i o ∷ visits) input output = refl

  -- nor does a later answer
  pub first_later : (visits late : List (Visit I O)) → HasBegun visits → told_first (visits ++ late) ≡ told_first visits
  first_later [] late begun = absurd begun
  first_later (Gave i o ∷ visits) late begun = refl
  first_later (NotYet ∷ visits) late begun = refl
  first_later (Ended ∷ visits) late begun = refl
  first_later (Failed ∷ visits) late begun = refl
  first_later (OutOfMemory ∷ visits) late begun = refl
  first_later (Back n i o ∷ visits) late begun = refl

  pub not_none : (visits : List (Visit I O)) (visit : Visit I O) → visits ++ visit ∷ [] ≡ [] → ⊥
  not_none [] visit none = cc
  not_none (first ∷ visits) visit none = cc

  -- nor what its first answer is
  pub gives_more : (visits : List (Visit I O)) (visit : Visit I O) → (visits ≡ [] → GivesFirst (visit ∷ [])) → GivesFirst visits → GivesFirst (visits ++ visit ∷ [])
  gives_more [] visit gives first = gives refl
  gives_more (Gave i o ∷ visits) visit gives first = tt
  gives_more (NotYet ∷ visits) visit gives first = first
  gives_more (Ended ∷ visits) visit gives first = first
  gives_more (Failed ∷ visits) visit gives first = first
  gives_more (OutOfMemory ∷ visits) visit gives first = tt
  gives_more (Back n i o ∷ visits) visit gives first = first

  pub begun_more : (visits : List (Visit I O)) (visit : Visit I O) → HasBegun (visits ++ visit ∷ [])
  begun_more [] visit = tt
  begun_more (first ∷ visits) visit = tt

-- how many a start that was refused or not adds to those that were refused
abbrev pub one_if : Bool → ℕ
one_if true = 1
one_if false = 0

refused_one : {I O : Type 0} (arrival : Arrival I O) (rest : ℕ) → (b : Bool) → elim b [ true ↦ 1 + rest | false ↦ rest ] ≡ one_if b + rest
refused_one arrival rest true = omega arith
refused_one arrival rest false = omega arith

pub refused_more : {I O : Type 0} (arrivals : List (Arrival I O)) (arrival : Arrival I O) → refused_of (arrivals ++ arrival ∷ []) ≡ refused_of arrivals + one_if arrival.refused
refused_more [] arrival = let e = refused_one arrival 0 arrival.refused in omega arith
refused_more (first ∷ arrivals) arrival =
    let later = refused_more arrivals arrival in
    let mine = refused_one first (refused_of arrivals) first.refused in
    let all = refused_one first (refused_of (arrivals ++ arrival ∷ [])) first.refused in
    omega arith

-- where a start was admitted and then refused
pub rose_later : (old mid new : ℕ) (Cause : Type 0) → old ≤ mid → mid ≤ new → Rose mid new → HasCause old new Cause
rose_later old mid new Cause before later rose = record { later = omega (arith, before, later); failed = λ no. omega (arith, before, later, rose) }

pub rose_more : (first count before now : ℕ) (refused : Bool) → RoseBy first count before → HasCause before now (refused ≡ true) → RoseBy first (count + one_if refused) now
rose_more first count before now true rose cause = let more = cause.failed refl in let later = cause.later in omega arith
rose_more first count before now false rose cause = let later = cause.later in omega arith

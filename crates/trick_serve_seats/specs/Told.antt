-- What the caller is told of the clients that a door gave.
use Rattle.std.specs.Prelude.{ℕ, ◌+◌, List, [], ◌∷◌, true, false}
use Rattle.trick_outside.specs.Visits.{Back, Ended, Failed, Gave, NotYet, OutOfMemory, Visit}
use Rattle.trick_serve_seats.specs.declared.arrival.Arrival.{Arrival}
use Rattle.trick_serve_seats.specs.declared.arrival.Comes.{Comes}
use Rattle.trick_serve_seats.specs.declared.arrival.Comes.TheVariants as comes
use Rattle.trick_serve_seats.specs.declared.asks.End.{End}
use Rattle.trick_serve_seats.specs.declared.asks.End.TheVariants as end

module _ {I O : Type 0} where
  -- that no client had come, where that was the first answer
  abbrev pub told_first : List (Visit I O) → List (Comes I O)
  told_first [] = []
  told_first (Gave input output ∷ visits) = []
  told_first (NotYet ∷ visits) = comes.Nobody ∷ []
  told_first (Ended ∷ visits) = []
  told_first (Failed ∷ visits) = []
  told_first (OutOfMemory ∷ visits) = []
  told_first (Back number input output ∷ visits) = []

  -- the clients, each once and in order
  abbrev pub told_clients : List (Arrival I O) → List (Comes I O)
  told_clients [] = []
  told_clients (arrival ∷ arrivals) = comes.Client arrival ∷ told_clients arrivals

  -- the links of the clients, as they were when the door gave them
  abbrev pub links_of : List (Arrival I O) → List (I × O)
  links_of [] = []
  links_of (arrival ∷ arrivals) = (arrival.input.value, arrival.output.value) ∷ links_of arrivals

  -- how many of them were refused a thread
  abbrev pub refused_of : List (Arrival I O) → ℕ
  refused_of [] = 0
  refused_of (arrival ∷ arrivals) =
      elim arrival.refused [ true ↦ 1 + refused_of arrivals | false ↦ refused_of arrivals ]

  -- The first answer, if there is one, is a client, or there was no memory for one.
  abbrev pub GivesFirst : List (Visit I O) → Type 0
  GivesFirst [] = Unit {0}
  GivesFirst (Gave input output ∷ visits) = Unit {0}
  GivesFirst (NotYet ∷ visits) = ⊥
  GivesFirst (Ended ∷ visits) = ⊥
  GivesFirst (Failed ∷ visits) = ⊥
  GivesFirst (OutOfMemory ∷ visits) = Unit {0}
  GivesFirst (Back number input output ∷ visits) = ⊥

  -- While it is asked, the door gives clients, or none yet.
  abbrev pub IsOpen : Visit I O → Type 0
  IsOpen (Gave input output) = Unit {0}
  IsOpen NotYet = Unit {0}
  IsOpen Ended = ⊥
  IsOpen Failed = ⊥
  IsOpen OutOfMemory = ⊥
  IsOpen (Back number input output) = ⊥

  -- why no client comes any more, where the caller does not know
  abbrev pub told_end : End → List (Comes I O)
  told_end end.Over = comes.Over ∷ []
  told_end end.OutOfMemory = comes.OutOfMemory ∷ []
  told_end end.Closed = []

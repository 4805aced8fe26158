-- The calls of a door, each with its answer.
use Rattle.std.specs.Prelude.{ℕ, List, [], ◌∷◌}
use Rattle.trick_outside.specs.declared.door.Came.TheVariants as came
use Rattle.trick_outside.specs.declared.door.Came.{Came}

-- A call with its answer: the door was asked, and gave a client, or said why it gave none; or the links of the
-- client of this number were given back.
pub data Visit (I O : Type 0) : Type 0 where
  Gave : (input : I) → (output : O) → Visit I O
  NotYet : Visit I O
  Ended : Visit I O
  Failed : Visit I O
  OutOfMemory : Visit I O
  Back : (number : ℕ) → (input : I) → (output : O) → Visit I O

-- The door was asked, with this answer.
abbrev pub asked : {I O : Type 0} → Came I O → Visit I O
asked (came.Client input output) = Gave input output
asked came.NotYet = NotYet
asked came.Ended = Ended
asked came.Failed = Failed
asked came.OutOfMemory = OutOfMemory

-- The clients that it gave, in order.
abbrev pub clients : {I O : Type 0} → List (Visit I O) → List (I × O)
clients [] = []
clients (Gave input output ∷ visits) = (input, output) ∷ clients visits
clients (NotYet ∷ visits) = clients visits
clients (Ended ∷ visits) = clients visits
clients (Failed ∷ visits) = clients visits
clients (OutOfMemory ∷ visits) = clients visits
clients (Back number input output ∷ visits) = clients visits

-- It is a client, or there was no memory for one.
abbrev pub GivesClient : {I O : Type 0} → Came I O → Type 0
GivesClient (came.Client input output) = Unit {0}
GivesClient came.NotYet = ⊥
GivesClient came.Ended = ⊥
GivesClient came.Failed = ⊥
GivesClient came.OutOfMemory = Unit {0}

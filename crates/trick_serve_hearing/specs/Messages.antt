-- A message that is handed to a session.
use Rattle.std.specs.Prelude.{◌≡◌, ◌⊎◌, ℕ, true, false, List, [], ◌∷◌, ◌++◌, Some}
use Rattle.trick_serve_hearing.specs.Sides.{Queues, Side}
use Rattle.trick_wire.specs.Ends.{HasWaiting}

-- It is put into the outbox.
pub record IsPut (bytes : List ℕ) (old new : Side) : Type 0 where
  pub before : old.slow ≡ false
  pub is : new ≡ record old { put = old.put ++ bytes ∷ [] }

-- It is left out, since the outbox was full, and the session is slow from then on.
pub record IsLeftOut (old new : Side) : Type 0 where
  pub before : old.slow ≡ false
  pub queues : Queues
  pub seated : old.queues ≡ Some queues
  pub full : HasWaiting old.put queues.room
  pub is : new ≡ record old { slow = true }

-- A session that is slow is handed nothing more.
pub record IsPassedOver (old new : Side) : Type 0 where
  pub before : old.slow ≡ true
  pub is : new ≡ old

-- what becomes of a message
abbrev pub IsHanded : List ℕ → Side → Side → Type 0
IsHanded bytes old new = IsPut bytes old new ⊎ (IsLeftOut old new ⊎ IsPassedOver old new)

-- Clients that come as the run ends.
use Rattle.std.specs.Prelude.{◌≡◌, ◌≢◌, ◌≤◌, List, [], ◌∷◌, ◌++◌, length, map}
use Rattle.trick_serve_hearing.specs.Clients.{clients_of}
use Rattle.trick_serve_clients.specs.Ends.{ends_of}
use Rattle.trick_serve_seats.specs.declared.arrival.Arrival.{Arrival}
use Rattle.trick_serve_seats.specs.declared.arrival.Comes.{Comes}
use Rattle.trick_serve_seats.specs.declared.arrival.Comes.TheVariants.{Closed}
use Rattle.trick_serve_door.specs.declared.ending.Ends.{Ends}

-- Of the clients among these the ends of the first ones were kept, and those of all, unless there are more than 64.
pub record AreKept {I O : Type 0} (some : List (Comes I O)) (ends : List Ends) : Type 0 where
  pub kept : List (Arrival I O)
  pub others : List (Arrival I O)
  pub clients : clients_of some ≡ kept ++ others
  pub items : ends ≡ map ends_of kept
  pub full : others ≢ [] → 64 ≤ length kept

-- What had been taken before, then this, and at last that the acceptor is closed.
pub record HasComeLate {I O : Type 0} (before now : List (Comes I O)) (ends : List Ends) : Type 0 where
  pub some : List (Comes I O)
  pub taken : now ≡ (before ++ some) ++ Closed ∷ []
  pub kept : AreKept some ends

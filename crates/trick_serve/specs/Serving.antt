-- What a served run works with.
use Rattle.trick_outside.specs.declared.shelf.Shelf.{Ghosts as ShelfGhosts}
use Rattle.trick_serve_seats.specs.Taking.{Hosts}

-- the shelf, and the door with the links of its clients and who admits their threads
pub record Outside (F D I O S : Type 0) : Type 1 where
  pub shelf : ShelfGhosts F
  pub clients : Hosts D I O S

-- these together
abbrev pub outside : {F D I O S : Type 0} → ShelfGhosts F → Hosts D I O S → Outside F D I O S
outside shelf clients = record { shelf = shelf; clients = clients }

-- the shelf, the door and the spawner at one moment
pub record Moment (F D S : Type 0) : Type 0 where
  pub shelf : F
  pub door : D
  pub spawner : S

-- these values together
abbrev pub moment : {F D S : Type 0} → F → D → S → Moment F D S
moment shelf door spawner = record { shelf = shelf; door = door; spawner = spawner }

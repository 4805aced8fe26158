-- Worlds, as values of the code hold them.
use Rattle.std.specs.Prelude.{ℤ, List}
use Rattle.trick_model.specs.declared.world.World.{World as WorldValue}
use Rattle.trick_model.specs.State.{World, seen}

-- the world that a value of the code holds; `numbers` are those of its memory
abbrev pub world_of : {M : Type 0} → (M → List ℤ) → WorldValue M → World
world_of numbers world = record { state = seen numbers world.state; sessions = world.sessions.items }

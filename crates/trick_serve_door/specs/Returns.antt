-- How a door gets the links of its clients back.
use Rattle.std.specs.Prelude.{ℕ, ◌+◌, List, [], ◌∷◌}
use Rattle.trick_outside.specs.Visits.{Back, Visit}
use Rattle.trick_serve_door.specs.declared.ending.SessionEnd.{SessionEnd}

-- The links of each session go back, the first of them under this number and each other under the next one.
abbrev pub backs_of : {I O : Type 0} → ℕ → List (SessionEnd I O) → List (Visit I O)
backs_of number [] = []
backs_of number (session ∷ sessions) = Back number session.input session.output ∷ backs_of (number + 1) sessions

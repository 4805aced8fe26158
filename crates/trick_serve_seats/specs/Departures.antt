-- What the caller tells the acceptor of the sessions that left, and that the run is over.
use Rattle.std.specs.Prelude.{ℕ, ◌+◌, Bool, true, false, List, [], ◌∷◌}
use Rattle.trick_serve_seats.specs.declared.departure.Departure.{Departure}
use Rattle.trick_serve_seats.specs.declared.departure.Departure.TheVariants.{Run, Session}

-- how many sessions left
abbrev pub left_of : List Departure → ℕ
left_of [] = 0
left_of (Session number ∷ items) = 1 + left_of items
left_of (Run ∷ items) = left_of items

-- whether it was told that the run is over
abbrev pub is_over : List Departure → Bool
is_over [] = false
is_over (Session number ∷ items) = is_over items
is_over (Run ∷ items) = true

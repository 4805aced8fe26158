-- Turns that are done while an entry may still be owed.
use Rattle.std.specs.Prelude.{◌≡◌, ◌<◌, nat_le, Bool, true, ◌&&◌, ◌||◌, not, IsTrue, List, [], ◌∷◌}
use Rattle.trick_model.specs.Plan.{Plan}
use Rattle.trick_model.specs.Run.{has_session_entry, is_shut, rest_of}
use Rattle.trick_model.specs.State.{State, World}
use Rattle.trick_model.specs.Turn.{is_frozen, turn}
use Rattle.trick_model.specs.declared.entry.Entry.{Entry}

-- The run is over but where an entry is owed: as `is_over`, with a line to come where one is owed.
abbrev pub is_over_owing : Bool → State → List (List Entry) → Bool
is_over_owing owed s left =
    is_shut s.mode || (nat_le s.limit s.tic || (is_frozen s.mode && not (owed || has_session_entry left)))

-- No turn comes after the run is over, but where an entry is owed.
abbrev pub goes_owing : Bool → Plan → World → List (List Entry) → Bool
goes_owing owed p w [] = true
goes_owing owed p w (entries ∷ lists) =
    let next = (turn p w entries).world in
    not (is_over_owing owed w.state (entries ∷ lists)) && goes_owing owed p next lists

-- While an entry is owed, the run is frozen and below its limit.
abbrev pub Waits : Bool → State → Type 0
Waits owed s = owed ≡ true → IsTrue (is_frozen s.mode) × (s.tic < s.limit)

-- the lists of a journal that are left after these; after its last list a journal has empty ones
abbrev pub left_of : List (List Entry) → List (List Entry) → List (List Entry)
left_of [] journal = journal
left_of (entries ∷ lists) journal = left_of lists (rest_of journal)

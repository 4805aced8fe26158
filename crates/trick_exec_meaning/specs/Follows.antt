-- Turns that follow a journal, and how they miss its end.
use Rattle.std.specs.Prelude.{◌≡◌, ◌≢◌, ◌⊎◌, ℕ, ◌+◌, ◌<◌, ◌≤◌, max, not, IsTrue, List, [], ◌∷◌}
use Rattle.trick_model.specs.Plan.{Plan}
use Rattle.trick_model.specs.Run.{is_over, next_of}
use Rattle.trick_model.specs.State.{State, World}
use Rattle.trick_model.specs.Turn.{turn}
use Rattle.trick_model.specs.declared.entry.Entry.{Entry}
use Rattle.trick_exec_sources.specs.Turns.{Told, behind}

-- Turns from a world on were given these lists by a journal that is told: each the journal's next one, at a
-- turn below the journal's end, and before the run was over.
abbrev pub Follows : Plan → World → Told → List (List Entry) → Type 0
Follows p w told [] = Unit {0}
Follows p w told (entries ∷ lists) =
    let next = (turn p w entries).world in
    (entries ≡ next_of told.lists) × (w.state.turn < told.end) × IsTrue (not (is_over w.state told.lists))
    × Follows p next (behind told) lists

-- The state that turns came to under a journal, of which these lists are left, shows that the run has another
-- end. It is over at another turn, which is the number; or the journal's turns are done and the run is not
-- over, and the number is one past the journal's end, or the first turn where that is above it.
abbrev pub EndsElsewhere : Told → State → List (List Entry) → ℕ → Type 0
EndsElsewhere told s left number =
    (IsTrue (is_over s left) × (s.turn ≢ told.end) × (number ≡ s.turn))
    ⊎ (IsTrue (not (is_over s left)) × (told.end ≤ s.turn) × (number ≡ max (told.end + 1) s.turn))

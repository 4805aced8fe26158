-- A law of replays.
use Rattle.std.specs.Prelude.{◌≡◌, List, [], ◌∷◌}
use Rattle.trick_model.specs.Plan.{Plan}
use Rattle.trick_model.specs.State.{World}
use Rattle.trick_model.specs.Turn.{turn}
use Rattle.trick_model.specs.declared.entry.Entry.{Entry}
use Rattle.trick_exec_sources.specs.Joins.{joins_of}

-- the entries that turns note in the journal, a list for each
abbrev pub noted_lists : Plan → World → List (List Entry) → List (List Entry)
noted_lists p w [] = []
noted_lists p w (entries ∷ lists) =
    let t = turn p w entries in
    let next = t.world in t.noted ∷ noted_lists p next lists

-- As many sessions join in the journal that turns write as in the lists that they were given.
abbrev pub JoinsAreWritten : Type 0
JoinsAreWritten = (p : Plan) (w : World) (lists : List (List Entry)) → joins_of (noted_lists p w lists) ≡ joins_of lists

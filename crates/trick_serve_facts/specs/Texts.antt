-- What a session is sent, turn by turn.
use Rattle.std.specs.Prelude.{◌≡◌, ℕ, List, [], ◌∷◌, ◌++◌}
use Rattle.trick_model.specs.Files.{messages_to, session_text}
use Rattle.trick_model.specs.Plan.{Plan}
use Rattle.trick_model.specs.Run.{after_turns, opened}
use Rattle.trick_model.specs.Session.{samples}
use Rattle.trick_model.specs.State.{State, World}
use Rattle.trick_model.specs.Turn.{begun, heard, replies, turn}
use Rattle.trick_model.specs.declared.entry.Entry.{Entry}

-- what a session is sent in a turn: the replies to its lines, and then the sample that is due, of the state in which the
-- turn ends
abbrev pub turn_text : Plan → World → List Entry → ℕ → List (List ℕ)
turn_text p w entries n =
    let t = turn p w entries in
    let h = heard p entries (begun w) in
    messages_to n (replies p entries (begun w)) ++ messages_to n (samples w.state.tic t.world.state h.sessions)

-- The text of a session is that of its turns, one after another.
abbrev pub TextsAreByTurns : Type 0
TextsAreByTurns =
    (p : Plan) (s : State) (lists : List (List Entry)) (entries : List Entry) (n : ℕ)
    → session_text p s (lists ++ entries ∷ []) n
    ≡ session_text p s lists n ++ turn_text p (after_turns p (opened s) lists) entries n

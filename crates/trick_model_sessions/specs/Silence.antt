-- Which sessions are sent nothing.
use Rattle.std.specs.List.{list_any}
use Rattle.std.specs.Prelude.{◌≡◌, ◌==◌, ℕ, Bool, false, All, IsTrue, List, [], ◌∷◌, ◌++◌, filter, map}
use Rattle.trick_model.specs.Files.{messages_to, session_text}
use Rattle.trick_model.specs.Plan.{Plan}
use Rattle.trick_model.specs.Run.{after_turns, opened}
use Rattle.trick_model.specs.State.{State, World}
use Rattle.trick_model.specs.Turn.{turn}
use Rattle.trick_model.specs.Valid.{rises}
use Rattle.trick_model.specs.declared.entry.Cause.{Cause}
use Rattle.trick_model.specs.declared.entry.Entry.{Entry}
use Rattle.trick_model.specs.declared.entry.Entry.TheVariants.{Join, Said, Leave, Publish}
use Rattle.trick_model.specs.declared.session.Session.{Session}

-- whether an entry is of the session of this number
abbrev pub is_of : ℕ → Entry → Bool
is_of number (Join session) = session == number
is_of number (Said session line) = session == number
is_of number (Leave session cause) = session == number
is_of number (Publish thread) = false

-- the entries of that session
abbrev pub entries_of : ℕ → List Entry → List Entry
entries_of number entries = filter (is_of number) entries

-- the numbers of sessions
abbrev pub numbers_of : List Session → List ℕ
numbers_of sessions = map (λ (session : Session). session.number) sessions

-- whether the session of a number is there
abbrev pub is_there : ℕ → List Session → Bool
is_there number sessions = list_any (λ (other : ℕ). other == number) (numbers_of sessions)

-- the numbers of the sessions that join in a turn
abbrev pub newcomers : List Entry → List ℕ
newcomers [] = []
newcomers (Join session ∷ entries) = session ∷ newcomers entries
newcomers (Said session line ∷ entries) = newcomers entries
newcomers (Leave session cause ∷ entries) = newcomers entries
newcomers (Publish thread ∷ entries) = newcomers entries

-- and of those that join in turns, one after another
abbrev pub all_newcomers : List (List Entry) → List ℕ
all_newcomers [] = []
all_newcomers (entries ∷ lists) = newcomers entries ++ all_newcomers lists

-- In a turn the session of a number is sent nothing, and it is not there after it.
pub record IsSilent (p : Plan) (w : World) (entries : List Entry) (number : ℕ) : Type 0 where
  pub unsent : messages_to number (turn p w entries).said ≡ []
  pub gone : is_there number (turn p w entries).world.sessions ≡ false

-- So it is with a session that is not there and has no entry in the turn.
abbrev pub AbsentAreSilent : Type 0
AbsentAreSilent =
    (p : Plan) (w : World) (entries : List Entry) (number : ℕ) → is_there number w.sessions ≡ false
    → entries_of number entries ≡ [] → IsSilent p w entries number

-- A session without an entry in a run is sent nothing at all.
abbrev pub StrangersAreSilent : Type 0
StrangersAreSilent =
    (p : Plan) (s : State) (lists : List (List Entry)) (number : ℕ)
    → All (λ entries. entries_of number entries ≡ []) lists → session_text p s lists number ≡ []

-- Where sessions join by rising numbers from 1 on, a session whose only entry of a turn is its leave is silent in it.
abbrev pub LeavingIsSilent : Type 0
LeavingIsSilent =
    (p : Plan) (s : State) (early : List (List Entry)) (entries : List Entry) (number : ℕ) (cause : Cause)
    → IsTrue (rises (0 ∷ all_newcomers (early ++ entries ∷ []))) → entries_of number entries ≡ Leave number cause ∷ []
    → let w = after_turns p (opened s) early in IsSilent p w entries number

-- Where sessions join by rising numbers from 1 on, a session whose last entry of a turn is its leave is not there after
-- it.
abbrev pub LeftAreGone : Type 0
LeftAreGone =
    (p : Plan) (s : State) (early : List (List Entry)) (entries before : List Entry) (number : ℕ) (cause : Cause)
    → IsTrue (rises (0 ∷ all_newcomers (early ++ entries ∷ []))) → entries_of number entries ≡ before ++ Leave number cause ∷ []
    → let w = after_turns p (opened s) early in is_there number (turn p w entries).world.sessions ≡ false

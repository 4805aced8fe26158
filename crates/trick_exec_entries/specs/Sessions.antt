-- What the sessions and the entries of a turn keep together.
use Rattle.std.specs.Prelude.{ℕ, All, IsTrue, List, [], ◌∷◌, ◌++◌, length, map}
use Rattle.trick_model.specs.Plan.{Plan}
use Rattle.trick_model.specs.Valid.{rises}
use Rattle.trick_model.specs.declared.entry.Entry.{Entry}
use Rattle.trick_model.specs.declared.entry.Entry.TheVariants.{Join, Said, Leave, Publish}
use Rattle.trick_model.specs.declared.session.Session.{Session}
use Rattle.trick_session.specs.Kept.{IsSession}

-- the numbers of sessions
abbrev pub numbers_of : List Session → List ℕ
numbers_of sessions = map (λ (session : Session). session.number) sessions

-- the numbers of the sessions that join
abbrev pub joining : List Entry → List ℕ
joining [] = []
joining (Join number ∷ entries) = number ∷ joining entries
joining (Said number line ∷ entries) = joining entries
joining (Leave number cause ∷ entries) = joining entries
joining (Publish thread ∷ entries) = joining entries

-- Entries can be heard by sessions of a plan: the variables of each session are cells of the plan, or
-- none, and the sessions with those that are still to join stand by rising number.
pub record AreHeard (p : Plan) (sessions : List Session) (entries : List Entry) : Type 0 where
  pub right : All (IsSession (length p.names)) sessions
  pub rising : IsTrue (rises (numbers_of sessions ++ joining entries))

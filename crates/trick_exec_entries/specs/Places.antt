-- Where the session of a number stands.
use Rattle.std.specs.List.{slice_index_or}
use Rattle.std.specs.Prelude.{◌≡◌, ◌<◌, ℕ, List, length, set, Option, Some, None}
use Rattle.trick_model.specs.Session.{joined}
use Rattle.trick_model.specs.Turn.{changed, session_of}
use Rattle.trick_model.specs.declared.session.Session.{Session}

-- The session of a number stands at this place, and a change of it changes that place alone; or there is
-- none of the number.
abbrev pub IsPlaceOf : ℕ → List Session → Option ℕ → Type 0
IsPlaceOf number sessions None =
    (session_of number sessions ≡ joined number)
    × ((change : Session → Session) → changed change number sessions ≡ sessions)
IsPlaceOf number sessions (Some k) =
    (k < length sessions) × ((d : Session) → session_of number sessions ≡ slice_index_or sessions k d)
    × ((change : Session → Session) (d : Session)
    → changed change number sessions ≡ set sessions k (change (slice_index_or sessions k d)))

-- The sample of one session, and the session after it.
use Rattle.std.specs.Prelude.{ℕ, false, [], ◌∷◌, List}
use Rattle.trick_model.specs.Session.{Message, samples}
use Rattle.trick_model.specs.State.{State}
use Rattle.trick_model.specs.declared.session.Session.{Session}

-- the sample of a session, where one is due
abbrev pub samples_of_one : ℕ → State → Session → List Message
samples_of_one from s session = samples from s (session ∷ [])

-- that it asked for a sample is forgotten
abbrev pub awake : Session → Session
awake session = record session { send = false }

-- Laws of sessions.
use Rattle.std.specs.Prelude.{ℕ, List, length}
use Rattle.trick_model.specs.Commands.{command_of}
use Rattle.trick_model.specs.Plan.{Plan}
use Rattle.trick_model.specs.Session.{answered, joined}
use Rattle.trick_model.specs.declared.command.Command.{Command}
use Rattle.trick_model.specs.declared.session.Session.{Session}
use Rattle.trick_session.specs.Kept.{IsRight, IsSession}

-- Every line is a command whose cycle, if it sets one, has a tic at least.
abbrev pub LinesAreRight : Type 0
LinesAreRight = (line : List ℕ) → IsRight (command_of line)

-- A session that joins is one of every plan.
abbrev pub JoinsAreRight : Type 0
JoinsAreRight = (cells number : ℕ) → IsSession cells (joined number)

-- A session of a plan is one after a command, too.
abbrev pub CommandsKeepSessions : Type 0
CommandsKeepSessions =
    (p : Plan) (command : Command) (session : Session) → IsRight command → IsSession (length p.names) session
    → IsSession (length p.names) (answered p command session).session

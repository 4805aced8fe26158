use Rattle.trick_session.proofs.Kept.{commands_keep, joins_right, lines_right}
use Rattle.trick_session.proofs.laws.sessions_stay_right.Goals as goal

pub returns-clause-joins : goal.returns-clause-joins
returns-clause-joins c = joins_right

pub returns-clause-lines : goal.returns-clause-lines
returns-clause-lines c = lines_right

pub returns-clause-commands : goal.returns-clause-commands
returns-clause-commands c = commands_keep

use Rattle.std.proofs.Common.{sym, true}
use Rattle.trick_exec_entries.proofs.places.leave.Goals as goal
use Rattle.trick_model.specs.declared.session.Session.{Session}

pub returns-in-Some : goal.returns-in-Some
returns-in-Some c = sym (c.in-Some.ensures.2 (λ (s : Session). record s { leaving = true }) c.index-sessions-place.result)

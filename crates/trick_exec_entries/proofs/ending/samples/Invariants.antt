use Rattle.std.proofs.Common.{◌≡◌, ◌++◌, drop}
use Rattle.trick_exec_entries.proofs.ending.samples.Given as goal
use Rattle.trick_exec_entries.specs.Hearing.{said_of}
use Rattle.trick_model.specs.Session.{samples}
use Rattle.trick_model.specs.State.{State, seen}

-- the samples so far, and those of the sessions that are left
abbrev pub invariant-loop-session : goal.invariant-loop-session
invariant-loop-session g l =
    let s : State = seen g.M.Cells.numbers l.state in
    said_of l.said.items ++ samples l.from s (drop l.session-index l.sessions) ≡ samples l.from s l.sessions

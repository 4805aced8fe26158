use Rattle.std.proofs.Common.{◌≡◌, ◌++◌, length}
use Rattle.trick_exec_sources.specs.Due.{joins_at}
use Rattle.trick_exec_sources.proofs.sessions.join_all.Given as goal

abbrev pub invariant-loop-session : goal.invariant-loop-session
invariant-loop-session l = joins_at l.turn l.live.keys ++ l.due ≡ joins_at l.turn l.fn.live.keys ++ l.fn.due

abbrev pub decreases-loop-session : goal.decreases-loop-session
decreases-loop-session l = length l.live.keys

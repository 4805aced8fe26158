use Rattle.std.proofs.Common.{length}
use Rattle.trick_exec_sources.proofs.Joining.{Skips}
use Rattle.trick_exec_sources.proofs.sessions.skip.Given as goal

abbrev pub invariant-loop-entry : goal.invariant-loop-entry
invariant-loop-entry l = Skips l.start l.fn.due l.due l.live.keys

abbrev pub decreases-loop-entry : goal.decreases-loop-entry
decreases-loop-entry l = length l.due

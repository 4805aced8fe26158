use Rattle.std.proofs.Common.{length}
use Rattle.trick_session.specs.Kept.{AreThere}
use Rattle.trick_command_cases.proofs.sessions.are_there.Given as goal

abbrev pub invariant-loop-rest : goal.invariant-loop-rest
invariant-loop-rest l = AreThere l.cells l.rest → AreThere l.cells l.fn.variables

abbrev pub decreases-loop-rest : goal.decreases-loop-rest
decreases-loop-rest l = length l.rest

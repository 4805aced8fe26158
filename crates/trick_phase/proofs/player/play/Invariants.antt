use Rattle.std.proofs.Common.{take}
use Rattle.trick_phase_board.specs.Board.{IsBoardOf}
use Rattle.trick_phase.proofs.Plays.{GoesOn}
use Rattle.trick_phase.proofs.player.play.Given as goal

-- the first steps begin a schedule
abbrev pub invariant-loop-at : goal.invariant-loop-at
invariant-loop-at g l = record {
  goes : GoesOn l.accepted.plan l.on l.tic (g.M.Cells.numbers l.fn.memory) (take l.at l.steps) l.board l.benches.items;
  belongs : IsBoardOf l.accepted.plan l.board;
}

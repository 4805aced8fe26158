use Rattle.trick_phase_board.proofs.Calls.{closes_serial}
use Rattle.trick_phase_board.proofs.board.Board.close.Goals as goal

pub returns-clause-serial : goal.returns-clause-serial
returns-clause-serial g c = λ plan accepted belongs first steps.
    closes_serial g.M.Cells.numbers plan c.args.self.now c.close_step.result c.args.faults.now c.close_step.new.faults
    c.every_schedule_is_serial.ensures.begun c.boards_need_no_copies.ensures.board accepted belongs
    c.close_step.ensures.count c.close_step.ensures.memory c.close_step.ensures.faults first steps

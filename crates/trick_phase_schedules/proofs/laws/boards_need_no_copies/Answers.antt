use Rattle.trick_phase_schedules.proofs.Due.{right}
use Rattle.trick_phase_schedules.proofs.Moves.{board_goes_with, copy_stays}
use Rattle.trick_phase_schedules.specs.Tics.{tic_of}
use Rattle.trick_phase_schedules.proofs.laws.boards_need_no_copies.Goals as goal

pub returns-clause-board : goal.returns-clause-board
returns-clause-board c = λ plan on number accepted first steps may.
    board_goes_with (tic_of plan on number) first steps
    (right c.key_order_is_one.ensures c.due_jobs_are_settled.ensures c.frame_law.ensures c.write_law.ensures plan on number accepted) may

pub returns-clause-copies : goal.returns-clause-copies
returns-clause-copies c = λ plan on number accepted first early late k may within.
    copy_stays (tic_of plan on number) first early late k may within

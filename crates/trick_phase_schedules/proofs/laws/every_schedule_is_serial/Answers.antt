use Rattle.trick_phase_schedules.proofs.Due.{right}
use Rattle.trick_phase_schedules.proofs.History.{serial, sound}
use Rattle.trick_phase_schedules.specs.Tics.{tic_of}
use Rattle.trick_phase_schedules.proofs.laws.every_schedule_is_serial.Goals as goal

pub returns-clause-whole : goal.returns-clause-whole
returns-clause-whole c = λ plan on number accepted first steps schedule.
    serial (tic_of plan on number) first steps
    (right c.key_order_is_one.ensures c.due_jobs_are_settled.ensures c.frame_law.ensures c.write_law.ensures plan on number accepted) schedule

pub returns-clause-begun : goal.returns-clause-begun
returns-clause-begun c = λ plan on number accepted first steps may.
    sound (tic_of plan on number) first steps
    (right c.key_order_is_one.ensures c.due_jobs_are_settled.ensures c.frame_law.ensures c.write_law.ensures plan on number accepted) may

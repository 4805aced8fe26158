use Rattle.trick_phase_schedules.proofs.Alone.{one_by_one_schedule}
use Rattle.trick_phase_schedules.proofs.Due.{right}
use Rattle.trick_phase_schedules.specs.Tics.{tic_of}
use Rattle.trick_phase_schedules.proofs.laws.one_thread_is_a_schedule.Goals as goal

pub returns : goal.returns
returns c = λ plan on number accepted.
    one_by_one_schedule (tic_of plan on number)
    (right c.key_order_is_one.ensures c.due_jobs_are_settled.ensures c.frame_law.ensures c.write_law.ensures plan on number accepted)

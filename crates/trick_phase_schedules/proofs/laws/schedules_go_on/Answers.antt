use Rattle.trick_phase_schedules.proofs.Due.{right}
use Rattle.std.proofs.Common.{[]}
use Rattle.trick_phase_schedules.proofs.Extend.{all_follow, begun_before, each_follows, goes_on_to_schedule, ready}
use Rattle.trick_phase_schedules.specs.Tics.{tic_of}
use Rattle.trick_phase_schedules.proofs.laws.schedules_go_on.Goals as goal

pub returns : goal.returns
returns c = λ plan on number accepted.
    let t = tic_of plan on number in
    let known = right c.key_order_is_one.ensures c.due_jobs_are_settled.ensures c.frame_law.ensures c.write_law.ensures plan on number accepted in
    record {
      words = λ steps. (λ h early late x e. each_follows t [] steps early late x h e, λ h. all_follow t [] steps h);
      on = λ steps. (goes_on_to_schedule t steps known, λ h. begun_before t [] steps h.0 h.1.begun);
      ready = λ stages k order least. ready t stages k known order least;
    }

use Rattle.trick_model.specs.Run.{opened}
use Rattle.trick_exec_laws.proofs.Lasting.{all_on}
use Rattle.trick_exec_laws.proofs.Leaves.{left_of_calls}
use Rattle.trick_exec_laws.proofs.laws.stopped_runs_leave_fronts.Goals as goal

pub returns : goal.returns
returns g c = λ p s old new e before lists stopped told. (
    let left = stopped.does.went.went.left before told in (
      left.0,
      left.1,
      left_of_calls p s lists stopped.does.calls stopped.sent stopped.unsent c.one_run.ensures c.fitting_lists_last.ensures
          (all_on p (opened s) stopped.owed lists stopped.goes) stopped.handed stopped.stops before left.0 left.2,
    )
    )

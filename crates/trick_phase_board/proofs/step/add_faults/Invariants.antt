use Rattle.std.proofs.Common.{◌≡◌, drop}
use Rattle.trick_model.specs.FaultList.{with_faults}
use Rattle.trick_model.specs.Valid.{ids}
use Rattle.trick_phase_schedules.specs.Play.{faults_in}
use Rattle.trick_phase_board.proofs.step.add_faults.Given as goal

-- the faults of the jobs that are left make all of them
abbrev pub invariant-loop-job : goal.invariant-loop-job
invariant-loop-job l =
    with_faults (faults_in l.stages (ids (drop l.job-index l.due))) l.faults ≡ with_faults (faults_in l.stages (ids l.due)) l.fn.faults

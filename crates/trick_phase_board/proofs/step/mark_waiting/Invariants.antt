use Rattle.std.proofs.Common.{◌≡◌, drop}
use Rattle.trick_model.specs.Valid.{ids}
use Rattle.trick_phase_schedules.specs.Play.{with_waiting}
use Rattle.trick_phase_board.proofs.step.mark_waiting.Given as goal

-- the jobs that are left still have to wait
abbrev pub invariant-loop-job : goal.invariant-loop-job
invariant-loop-job l = with_waiting (ids (drop l.job-index l.due)) l.stages.items ≡ with_waiting (ids l.due) l.fn.stages.items

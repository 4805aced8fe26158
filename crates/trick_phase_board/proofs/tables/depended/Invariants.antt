use Rattle.std.proofs.Common.{◌≡◌, take}
use Rattle.std.specs.Prelude.{filter}
use Rattle.trick_model.specs.Valid.{ids}
use Rattle.trick_phase_board.specs.Tables.{awaits}
use Rattle.trick_phase_board.proofs.tables.depended.Given as goal

-- those of the first jobs that the job waits for
abbrev pub invariant-loop-job : goal.invariant-loop-job
invariant-loop-job l = ids l.jobs ≡ filter (awaits l.plan.program.jobs l.plan.depends l.target.0) (take l.job-index (ids l.all))

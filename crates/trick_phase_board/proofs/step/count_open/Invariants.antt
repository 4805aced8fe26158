use Rattle.std.proofs.Common.{◌≡◌, ◌+◌, ◌≤◌, drop}
use Rattle.trick_phase_board.specs.Answers.{open_count}
use Rattle.trick_model.specs.Valid.{ids}
use Rattle.trick_phase_board.proofs.step.count_open.Given as goal

-- the count so far, and what is left
abbrev pub invariant-loop-job : goal.invariant-loop-job
invariant-loop-job l = record {
  counted : l.count + open_count l.stages (ids (drop l.job-index l.due)) ≡ open_count l.stages (ids l.due);
  few : l.count ≤ l.job-index;
}

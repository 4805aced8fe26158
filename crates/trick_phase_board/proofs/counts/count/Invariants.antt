use Rattle.std.proofs.Common.{◌≡◌, ◌+◌, ◌≤◌, drop}
use Rattle.trick_phase_board.specs.Counts.{open_among}
use Rattle.trick_phase_board.proofs.counts.count.Given as goal

-- the count so far, and what is left
abbrev pub invariant-loop-job : goal.invariant-loop-job
invariant-loop-job l = record {
  counted : l.count + open_among l.stages (drop l.job-index l.jobs) ≡ open_among l.stages l.jobs;
  few : l.count ≤ l.job-index;
}

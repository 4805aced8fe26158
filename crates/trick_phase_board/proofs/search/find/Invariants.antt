use Rattle.std.proofs.Common.{◌≡◌, drop}
use Rattle.trick_phase_board.specs.Search.{find_wanted}
use Rattle.trick_phase_board.proofs.search.find.Given as goal

-- the jobs that are left decide
abbrev pub invariant-loop-job : goal.invariant-loop-job
invariant-loop-job l = find_wanted l.wanted l.stages (drop l.job-index l.jobs) ≡ find_wanted l.wanted l.stages l.jobs

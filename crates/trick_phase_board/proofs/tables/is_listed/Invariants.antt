use Rattle.std.proofs.Common.{◌≡◌, drop}
use Rattle.trick_model.specs.Laws.{is_among}
use Rattle.trick_model.specs.Valid.{ids}
use Rattle.trick_phase_board.proofs.tables.is_listed.Given as goal

-- the jobs that are left decide
abbrev pub invariant-loop-other : goal.invariant-loop-other
invariant-loop-other l = is_among l.job.0 (ids (drop l.other-index l.jobs)) ≡ is_among l.job.0 (ids l.jobs)

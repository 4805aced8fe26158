use Rattle.std.proofs.Common.{◌≡◌, ℕ, ◌<◌, false, length}
use Rattle.std.specs.List.{slice_index_or}
use Rattle.trick_model.specs.Plan.{is_on}
use Rattle.trick_phase_board.proofs.step.copy_each_flag.Given as goal

-- the flags so far
abbrev pub invariant-loop-job : goal.invariant-loop-job
invariant-loop-job l = record {
  length_is : length l.into.items ≡ length l.fn.into.items;
  flags : (k : ℕ) → k < l.job → slice_index_or l.into.items k false ≡ is_on l.on k;
}

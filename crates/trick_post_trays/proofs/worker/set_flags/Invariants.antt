use Rattle.std.proofs.Common.{◌≡◌, ◌≤◌, drop, length}
use Rattle.trick_model.specs.Valid.{ids}
use Rattle.trick_post_trays.specs.Trays.{AreSet}
use Rattle.trick_post_trays.proofs.worker.set_flags.Given as goal

-- the jobs from this place on have their flags
abbrev pub invariant-loop-place : goal.invariant-loop-place
invariant-loop-place l = record {
  set : AreSet (ids (drop l.place l.jobs)) (drop l.place l.flags) l.on;
  many : length l.on.on ≡ length l.fn.on.on;
  bound : l.place ≤ length l.jobs;
}

abbrev pub decreases-loop-place : goal.decreases-loop-place
decreases-loop-place l = l.place

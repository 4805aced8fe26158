use Rattle.std.proofs.Common.{◌≡◌, take, vec_capacity}
use Rattle.trick_queue.proofs.merge.gather.Given as goal
use Rattle.trick_queue.specs.Merged.{gathered}

abbrev pub invariant-loop-group : goal.invariant-loop-group
invariant-loop-group l = record {
  items : l.places.items ≡ gathered l.groups (take l.group-index l.of);
  capacity : vec_capacity l.places ≡ vec_capacity l.fn.places;
}

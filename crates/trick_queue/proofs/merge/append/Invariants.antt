use Rattle.std.proofs.Common.{◌≡◌, ◌++◌, take, vec_capacity}
use Rattle.trick_queue.proofs.merge.append.Given as goal

abbrev pub invariant-loop-place : goal.invariant-loop-place
invariant-loop-place l = record {
  items : l.places.items ≡ l.fn.places.items ++ take l.place-index l.more;
  capacity : vec_capacity l.places ≡ vec_capacity l.fn.places;
}

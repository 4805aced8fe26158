use Rattle.std.proofs.Common.{◌≡◌, map, take, vec_capacity}
use Rattle.trick_model.specs.Valid.{ids}
use Rattle.trick_queue.proofs.merge.find.Given as goal
use Rattle.trick_queue.specs.Line.{id_at}

abbrev pub invariant-loop-place : goal.invariant-loop-place
invariant-loop-place l = record {
  jobs : ids l.found.items ≡ map (id_at l.jobs) (take l.place-index l.places);
  capacity : vec_capacity l.found ≡ vec_capacity l.fn.found;
}

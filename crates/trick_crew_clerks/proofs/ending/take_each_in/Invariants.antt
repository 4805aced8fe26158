use Rattle.std.proofs.Common.{◌≡◌, vec_len}
use Rattle.std.specs.Arc.{arc_value}
use Rattle.trick_crew_clerks.proofs.Taking.{IsTaking}
use Rattle.trick_crew_clerks.proofs.ending.take_each_in.Given as goal
use Rattle.trick_crew_clerks.specs.Staffs.{AreOfPost, IsTakenIn}
use Rattle.trick_turn.specs.Passes.{own, seen}
use mathlib.Core.List.{IsPrefix}

abbrev pub invariant-loop-shift : goal.invariant-loop-shift
invariant-loop-shift g l = record {
  taking : IsTaking IsTakenIn l.post.pass l.fn.here.items l.here.items;
  of_post : ∥ AreOfPost (arc_value l.post.lock) l.here.items ∥₁;
  lock_is : l.post.lock ≡ l.fn.post.lock;
  own_is : own l.post.pass ≡ own l.fn.post.pass;
  more : IsPrefix (seen l.fn.post.pass) (seen l.post.pass);
}

abbrev pub decreases-loop-shift : goal.decreases-loop-shift
decreases-loop-shift g l = vec_len l.here

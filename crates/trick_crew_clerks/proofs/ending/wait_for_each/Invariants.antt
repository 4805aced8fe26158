use Rattle.std.proofs.Common.{◌≡◌, vec_len}
use Rattle.std.specs.Arc.{arc_value}
use Rattle.std.specs.Prelude.{All}
use Rattle.trick_crew_clerks.proofs.Taking.{IsTaking}
use Rattle.trick_crew_clerks.proofs.ending.wait_for_each.Given as goal
use Rattle.trick_crew_clerks.specs.Staffs.{HasEnded, RunsAtPost}
use Rattle.trick_turn.specs.Passes.{own, seen}
use mathlib.Core.List.{IsPrefix}

abbrev pub invariant-loop-running : goal.invariant-loop-running
invariant-loop-running g l = record {
  taking : IsTaking HasEnded l.post.pass l.fn.away.items l.away.items;
  of_post : ∥ All (RunsAtPost (arc_value l.post.lock)) l.away.items ∥₁;
  own_is : own l.post.pass ≡ own l.fn.post.pass;
  more : IsPrefix (seen l.fn.post.pass) (seen l.post.pass);
}

abbrev pub decreases-loop-running : goal.decreases-loop-running
decreases-loop-running g l = vec_len l.away

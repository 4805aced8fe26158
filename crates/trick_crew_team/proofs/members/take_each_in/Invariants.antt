use Rattle.std.proofs.Common.{◌≡◌, vec_len}
use Rattle.trick_crew_team.proofs.TakingIn.{IsTaking}
use Rattle.trick_crew_team.proofs.members.take_each_in.Given as goal
use Rattle.trick_crew_team.specs.Hands.{AreOfHall}
use Rattle.trick_turn.specs.Passes.{own, seen}
use mathlib.Core.List.{IsPrefix}

abbrev pub invariant-loop-member : goal.invariant-loop-member
invariant-loop-member g l = record {
  taking : IsTaking l.chief.pass l.fn.members.items l.members.items;
  of_hall : ∥ AreOfHall l.chief.pass l.members.items ∥₁;
  own_is : own l.chief.pass ≡ own l.fn.chief.pass;
  more : IsPrefix (seen l.fn.chief.pass) (seen l.chief.pass);
}

abbrev pub decreases-loop-member : goal.decreases-loop-member
decreases-loop-member g l = vec_len l.members

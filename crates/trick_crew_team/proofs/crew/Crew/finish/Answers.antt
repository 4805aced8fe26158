use Rattle.std.proofs.Common.{◌∙◌, ap, subst, sym}
use Rattle.std.specs.Arc.{arc_value}
use Rattle.trick_crew_team.proofs.Lists.{prefix_of_prefix}
use Rattle.trick_crew_team.proofs.Openings.{shut_last}
use Rattle.trick_crew_team.proofs.TakingIn.{same_hall, share_is_of, still_of_hall}
use Rattle.trick_crew_team.proofs.crew.Crew.finish.Goals as goal
use Rattle.trick_hall_kept.specs.Histories.{has_shut}
use Rattle.trick_turn.specs.Passes.{IsPassOf, own, seen}
use mathlib.Core.List.{IsPrefix}

pub take_in-requires : goal.take_in-requires
take_in-requires g c =
    let team = c.args.self.phases in
    let shut = c.shut.new.self in
    let same = same_hall (arc_value team.chief.lock) (arc_value shut.lock) team.chief.pass shut.pass (ap arc_value c.shut.ensures.lock) team.chief.of_lock shut.of_lock in
    subst (λ hand. IsPassOf (arc_value shut.lock) hand.pass) (sym c.into_hand.ensures)
    (share_is_of (arc_value team.share.hand.lock) (arc_value shut.lock) team.share.hand.pass shut.pass team.share.hand.of_lock (same ∙ team.share_of_hall) shut.of_lock)

pub take_each_in-requires-clause-hall : goal.take_each_in-requires-clause-hall
take_each_in-requires-clause-hall g c κs within =
    let team = c.args.self.phases in
    let now = c.take_in.new.self in
    still_of_hall team.chief.pass now.pass team.members.items
    (same_hall (arc_value team.chief.lock) (arc_value now.lock) team.chief.pass now.pass (ap arc_value (c.take_in.ensures.lock ∙ c.shut.ensures.lock)) team.chief.of_lock now.of_lock)
    team.members_of_hall

pub returns : goal.returns
returns g c = record {
  shut = ap has_shut (c.take_each_in.ensures.own ∙ c.take_in.ensures.own ∙ c.shut.ensures.adds.1.own_is) ∙ shut_last (own c.args.self.phases.chief.pass);
  share = prefix_of_prefix (seen c.args.self.phases.share.hand.pass) (seen c.take_in.new.self.pass) (seen c.take_each_in.new.chief.pass)
      (subst (λ hand. IsPrefix (seen hand.pass) (seen c.take_in.new.self.pass)) c.into_hand.ensures c.take_in.ensures.hand) c.take_each_in.ensures.chief;
  members = c.take_each_in.ensures.members;
}

use Rattle.std.proofs.Common.{◌∙◌, ap, refl}
use Rattle.std.specs.Arc.{arc_value}
use Rattle.trick_crew_team.proofs.Lists.{prefix_of_prefix}
use Rattle.trick_crew_team.proofs.TakingIn.{last_is_of, others_of_hall, same_hall, taking_more, taking_none}
use Rattle.trick_crew_team.proofs.members.take_each_in.Goals as goal
use Rattle.trick_turn.proofs.Lists.{prefix_self}
use Rattle.trick_turn.specs.Passes.{seen}

pub loop-member-init : goal.loop-member-init
loop-member-init g c = record {
  taking = taking_none c.args.chief.now.pass c.args.members.items;
  of_hall = c.requires.hall;
  own_is = refl;
  more = prefix_self (seen c.args.chief.now.pass);
}

pub take_in-requires : goal.take_in-requires
take_in-requires g c =
    last_is_of (arc_value c.loop-member.chief.lock) c.loop-member.chief.pass c.loop-member.members.items c.pop.new.self.items c.in-Some.member c.hand_of-hand.result
    c.in-Some.ensures.items c.loop-member.invariant.of_hall c.loop-member.chief.of_lock c.hand_of-hand.ensures

pub loop-member-preserved : goal.loop-member-preserved
loop-member-preserved g c =
    let was = c.loop-member.chief in
    let now = c.take_in.new.self in
    record {
      taking = taking_more was.pass now.pass c.args.members.items c.loop-member.members.items c.pop.new.self.items c.in-Some.member c.hand_of-hand.result c.in-Some.ensures.items
          c.hand_of-hand.ensures c.take_in.ensures.chief c.take_in.ensures.hand c.loop-member.invariant.taking;
      of_hall = others_of_hall was.pass now.pass c.loop-member.members.items c.pop.new.self.items c.in-Some.member c.in-Some.ensures.items
          (same_hall (arc_value was.lock) (arc_value now.lock) was.pass now.pass (ap arc_value c.take_in.ensures.lock) was.of_lock now.of_lock) c.loop-member.invariant.of_hall;
      own_is = c.take_in.ensures.own ∙ c.loop-member.invariant.own_is;
      more = prefix_of_prefix (seen c.args.chief.now.pass) (seen was.pass) (seen now.pass) c.loop-member.invariant.more c.take_in.ensures.chief;
    }

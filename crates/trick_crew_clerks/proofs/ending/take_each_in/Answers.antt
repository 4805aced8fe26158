use Rattle.std.proofs.Common.{◌≡◌, ◌∙◌, [], refl, rules, subst, sym}
use Rattle.std.specs.Arc.{arc_value}
use Rattle.trick_crew_clerks.proofs.Lists.{prefix_of_prefix}
use Rattle.trick_crew_clerks.proofs.Taking.{last_here, others_of, still_in, taken_in, taking_all, taking_more, taking_none}
use Rattle.trick_crew_clerks.proofs.ending.take_each_in.Goals as goal
use Rattle.trick_crew_clerks.specs.Staffs.{AreOfPost, IsTakenIn}
use Rattle.trick_turn.proofs.Lists.{prefix_self}
use Rattle.trick_turn.specs.Passes.{seen}

pub loop-shift-init : goal.loop-shift-init
loop-shift-init g c = record {
  taking = taking_none IsTakenIn c.args.post.now.pass c.args.here.items;
  of_post = c.requires.post;
  lock_is = refl;
  own_is = refl;
  more = prefix_self (seen c.args.post.now.pass);
}

pub take_in-requires : goal.take_in-requires
take_in-requires g c =
    last_here (arc_value c.loop-shift.post.lock) c.loop-shift.here.items c.pop.new.self.items c.in-Some.shift c.into_clerk.result
    c.in-Some.ensures.items c.into_clerk.ensures c.loop-shift.invariant.of_post

pub loop-shift-preserved : goal.loop-shift-preserved
loop-shift-preserved g c =
    let inv = c.loop-shift.invariant in
    let was = c.loop-shift.post in
    let now = c.take_in.new.self in
    let taken = c.take_in.ensures in
    record {
      taking = taking_more IsTakenIn was.pass now.pass c.args.here.items c.loop-shift.here.items c.pop.new.self.items c.in-Some.shift c.in-Some.ensures.items
          (still_in was.pass now.pass taken.post) (taken_in now.pass c.in-Some.shift c.into_clerk.result c.into_clerk.ensures taken.clerk) inv.taking;
      of_post = subst (λ lock. ∥ AreOfPost (arc_value lock) c.pop.new.self.items ∥₁) (sym taken.lock)
          (others_of (λ s. arc_value s.clerk.lock ≡ arc_value was.lock) c.loop-shift.here.items c.pop.new.self.items c.in-Some.shift c.in-Some.ensures.items inv.of_post);
      lock_is = taken.lock ∙ inv.lock_is;
      own_is = taken.own ∙ inv.own_is;
      more = prefix_of_prefix (seen c.args.post.now.pass) (seen was.pass) (seen now.pass) inv.more taken.post;
    }

pub returns-clause-here : goal.returns-clause-here
returns-clause-here g c =
    let none : c.loop-shift.here.items ≡ [] = search rules in
    taking_all IsTakenIn c.loop-shift.post.pass c.args.here.items c.loop-shift.here.items none c.loop-shift.invariant.taking

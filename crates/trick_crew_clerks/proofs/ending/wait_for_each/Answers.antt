use Rattle.std.proofs.Common.{◌≡◌, ◌∙◌, [], refl, rules, subst, sym}
use Rattle.std.specs.Arc.{arc_value}
use Rattle.std.specs.Prelude.{All}
use Rattle.trick_crew_clerks.proofs.Lists.{prefix_of_prefix}
use Rattle.trick_crew_clerks.proofs.Taking.{has_ended, last_away, others_of, still_ended, taking_all, taking_more, taking_none}
use Rattle.trick_crew_clerks.proofs.ending.wait_for_each.Goals as goal
use Rattle.trick_crew_clerks.specs.Staffs.{HasEnded, RunsAtPost}
use Rattle.trick_turn.proofs.Lists.{prefix_self}
use Rattle.trick_turn.specs.Passes.{seen}

pub loop-running-init : goal.loop-running-init
loop-running-init g c = record {
  taking = taking_none HasEnded c.args.post.now.pass c.args.away.items;
  of_post = c.requires.post;
  own_is = refl;
  more = prefix_self (seen c.args.post.now.pass);
}

pub take_in-requires : goal.take_in-requires
take_in-requires g c =
    last_away (arc_value c.loop-running.post.lock) c.loop-running.away.items c.pop.new.self.items c.in-Some.running c.clerk_of-clerk.result
    c.in-Some.ensures.items c.clerk_of-clerk.ensures c.loop-running.invariant.of_post

pub loop-running-preserved : goal.loop-running-preserved
loop-running-preserved g c =
    let inv = c.loop-running.invariant in
    let was = c.loop-running.post in
    let now = c.take_in.new.self in
    let taken = c.take_in.ensures in
    record {
      taking = taking_more HasEnded was.pass now.pass c.args.away.items c.loop-running.away.items c.pop.new.self.items c.in-Some.running c.in-Some.ensures.items
          (still_ended was.pass now.pass taken.post) (has_ended now.pass c.in-Some.running c.clerk_of-clerk.result c.clerk_of-clerk.ensures taken.clerk) inv.taking;
      of_post = subst (λ lock. ∥ All (RunsAtPost (arc_value lock)) c.pop.new.self.items ∥₁) (sym taken.lock)
          (others_of (RunsAtPost (arc_value was.lock)) c.loop-running.away.items c.pop.new.self.items c.in-Some.running c.in-Some.ensures.items inv.of_post);
      own_is = taken.own ∙ inv.own_is;
      more = prefix_of_prefix (seen c.args.post.now.pass) (seen was.pass) (seen now.pass) inv.more taken.post;
    }

pub returns-clause-away : goal.returns-clause-away
returns-clause-away g c =
    let none : c.loop-running.away.items ≡ [] = search rules in
    taking_all HasEnded c.loop-running.post.pass c.args.away.items c.loop-running.away.items none c.loop-running.invariant.taking

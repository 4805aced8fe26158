use Rattle.std.proofs.Common.{◌∙◌, ap, subst, sym}
use Rattle.std.specs.Arc.{arc_value}
use Rattle.std.specs.Prelude.{All}
use Rattle.std.proofs.lemmas.List.Elements.{All-weaker}
use Rattle.trick_crew_clerks.proofs.Lists.{prefix_of_prefix}
use Rattle.trick_crew_clerks.proofs.Taking.{shut_last, still_in}
use Rattle.trick_crew_clerks.proofs.yard.Yard.close.Goals as goal
use Rattle.trick_crew_clerks.specs.Staffs.{AreOfPost, IsTakenIn, RunsAtPost}
use Rattle.trick_post_places.specs.Histories.{desk_seat, has_shut}
use Rattle.trick_turn.specs.Passes.{own, seen}

pub take_each_in-requires : goal.take_each_in-requires
take_each_in-requires g c = record {
  post = subst (λ lock. ∥ AreOfPost (arc_value lock) c.args.self.staff.here.items ∥₁) (sym c.shut-post.ensures.lock) c.args.self.here_of_post;
}

pub wait_for_each-requires-clause-post : goal.wait_for_each-requires-clause-post
wait_for_each-requires-clause-post g c κs within =
    subst (λ lock. ∥ All (RunsAtPost (arc_value lock)) c.args.self.staff.away.items ∥₁) (sym (c.take_each_in.ensures.lock ∙ c.shut-post.ensures.lock))
    c.args.self.away_of_post

pub returns : goal.returns
returns g c =
    let desk = c.args.self.desk.rack.pass in
    let shut = c.shut-post.result.pass in
    let mid = c.take_each_in.new.post.pass in
    let end = c.wait_for_each.new.post.pass in
    record {
      shut = ap has_shut (c.wait_for_each.ensures.own ∙ c.take_each_in.ensures.own ∙ c.shut-post.ensures.adds.1.once) ∙ shut_last (own desk) desk_seat;
      desk = prefix_of_prefix (seen desk) (seen shut) (seen end)
          (prefix_of_prefix (seen desk) c.shut-post.ensures.adds.0 (seen shut) c.shut-post.ensures.adds.1.history (_, sym c.shut-post.ensures.adds.1.at_end))
          (prefix_of_prefix (seen shut) (seen mid) (seen end) c.take_each_in.ensures.post c.wait_for_each.ensures.post);
      here = All-weaker (IsTakenIn mid) (IsTakenIn end) (still_in mid end c.wait_for_each.ensures.post) c.args.self.staff.here.items c.take_each_in.ensures.here;
      away = c.wait_for_each.ensures.away;
    }

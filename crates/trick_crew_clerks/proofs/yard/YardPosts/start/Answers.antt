use Rattle.std.proofs.Common.{ap, subst, sym}
use Rattle.std.specs.Arc.{arc_value}
use Rattle.std.specs.Prelude.{All}
use Rattle.trick_crew_clerks.proofs.yard.YardPosts.start.Goals as goal
use Rattle.trick_crew_clerks.specs.Staffs.{AreOfPost, RunsAtPost}
use Rattle.trick_crew_clerks.specs.Tending.{tended_none}

pub invariant_of-self : goal.invariant_of-self
invariant_of-self g c =
    let yard = c.args.self.now in
    let same = ap arc_value c.start.ensures.asked.1 in
    record {
      here_of_post = subst (λ lock. ∥ AreOfPost lock yard.staff.here.items ∥₁) (sym same) yard.here_of_post;
      away_of_post = subst (λ lock. ∥ All (RunsAtPost lock) yard.staff.away.items ∥₁) (sym same) yard.away_of_post;
    }

pub returns-clause-asked : goal.returns-clause-asked
returns-clause-asked g c = (c.start.ensures.asked.0, tended_none c.args.self.now.staff.here.items)

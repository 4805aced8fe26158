use Rattle.trick_crew_team.proofs.Short.{kept_short}
use Rattle.trick_crew_team.proofs.children.children.Goals as goal
use Rattle.trick_crew_team.specs.Children.{child_numbers, is_child}

pub returns-clause-few : goal.returns-clause-few
returns-clause-few c = kept_short (λ v. v.items) (is_child c.args.plan.now) child_numbers _ c.children_among.ensures

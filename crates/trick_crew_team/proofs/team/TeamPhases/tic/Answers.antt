use Rattle.std.proofs.Common.{◌∙◌, ap, sym}
use Rattle.std.specs.Arc.{arc_value}
use Rattle.trick_crew_team.proofs.TakingIn.{hall_of, same_hall, still_of_hall}
use Rattle.trick_crew_team.proofs.team.TeamPhases.tic.Goals as goal

pub invariant_of-self-clause-share_of_hall : goal.invariant_of-self-clause-share_of_hall
invariant_of-self-clause-share_of_hall g c =
    let team = c.args.self.now in
    let now = c.close.new.chief in
    same_hall (arc_value team.chief.lock) (arc_value now.lock) team.chief.pass now.pass (ap arc_value (c.close.ensures.lock ∙ c.open.ensures.lock)) team.chief.of_lock now.of_lock
    ∙ team.share_of_hall ∙ ap (λ lock. hall_of (arc_value lock)) (sym c.close.ensures.hand)

pub invariant_of-self-clause-members_of_hall : goal.invariant_of-self-clause-members_of_hall
invariant_of-self-clause-members_of_hall g c =
    let team = c.args.self.now in
    let now = c.close.new.chief in
    still_of_hall team.chief.pass now.pass team.members.items
    (same_hall (arc_value team.chief.lock) (arc_value now.lock) team.chief.pass now.pass (ap arc_value (c.close.ensures.lock ∙ c.open.ensures.lock)) team.chief.of_lock now.of_lock) team.members_of_hall

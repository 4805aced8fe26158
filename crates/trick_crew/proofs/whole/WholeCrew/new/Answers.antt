use Rattle.std.proofs.Common.{◌≡◌, subst}
use Rattle.std.specs.Arc.{arc_value}
use Rattle.std.specs.Prelude.{reverse}
use Rattle.trick_crew_team.specs.Children.{children}
use Rattle.trick_crew_team.specs.Members.{AreFor}
use Rattle.trick_crew_team.specs.Working.{HasWorked}
use Rattle.trick_crew.proofs.whole.WholeCrew.new.Goals as goal
use Rattle.trick_crew.specs.Clerks.{IsListedFor}
use Rattle.trick_model.specs.declared.accepted.Accepted.{Accepted}

pub returns-clause-free : goal.returns-clause-free
returns-clause-free g c =
    let accepted = arc_value c.args.accepted.now in
    let same : arc_value c.new-held.result.accepted ≡ accepted = cc (c.new-held.ensures, c.in_ok-try_clone.ensures) in
    c.start-posts.ensures.free accepted (subst (λ (a : Accepted). IsListedFor a c.in_ok-listing.listing) same c.in_ok-listing.ensures)

pub returns-clause-threads : goal.returns-clause-threads
returns-clause-threads g c =
    let accepted = arc_value c.args.accepted.now in
    let same : arc_value c.new-held-2.result.accepted ≡ accepted = cc (c.new-held-2.ensures, c.in_ok-try_clone-2.ensures) in
    let crew = c.in_ok-phases.field-0 in
    subst (λ (a : Accepted). AreFor HasWorked (λ w. w.thread) (children a.plan) (reverse crew.phases.members.items)) same
    c.in_ok-phases.ensures.threads

pub returns-clause-clerks : goal.returns-clause-clerks
returns-clause-clerks g c =
    let accepted = arc_value c.args.accepted.now in
    let same : arc_value c.new-held.result.accepted ≡ accepted = cc (c.new-held.ensures, c.in_ok-try_clone.ensures) in
    c.start-posts.ensures.clerks accepted (subst (λ (a : Accepted). IsListedFor a c.in_ok-listing.listing) same c.in_ok-listing.ensures)

use Rattle.std.proofs.Common.{◌∙◌, List, ap, subst, ℕ}
use Rattle.std.specs.Arc.{arc_value}
use Rattle.std.specs.Prelude.{reverse}
use Rattle.trick_crew_team.proofs.Starting.{are_for}
use Rattle.trick_crew_team.proofs.TakingIn.{all_of_hall, last_of_hall, members_of_hall, workers_of_hall}
use Rattle.trick_crew_team.proofs.crew.Crew.new.Goals as goal
use Rattle.trick_crew_team.specs.Children.{children}
use Rattle.trick_crew_team.specs.Members.{AreFor}
use Rattle.trick_crew_team.specs.Working.{HasWorked}
use Rattle.trick_model.specs.declared.accepted.Accepted.{Accepted}

pub returns-clause-threads : goal.returns-clause-threads
returns-clause-threads g c =
    subst (λ (threads : List ℕ). AreFor HasWorked (λ w. w.thread) threads (reverse c.start_each.new.members.items))
    (c.in_ok-workers.ensures.threads ∙ c.as_slice.ensures.value ∙ c.in_ok-threads.ensures.children ∙ ap children (c.plan.ensures.plan ∙ ap (λ (accepted : Accepted). accepted.plan) c.deref.ensures))
    (are_for HasWorked (λ w. w.thread) c.in_ok-workers.workers.items (reverse c.start_each.new.members.items) c.start_each.ensures.members)

pub invariant_of-phases-clause-share_of_hall : goal.invariant_of-phases-clause-share_of_hall
invariant_of-phases-clause-share_of_hall g c =
    let chief = c.in_ok-chief.chief in
    let all = all_of_hall (arc_value chief.lock) chief.pass c.in_ok-chief.hands.items chief.of_lock c.in_ok-chief.ensures.lock in
    last_of_hall chief.pass c.workers_for.new.hands.items c.take_last.new.self.items c.take_last.result c.in_ok-share.share.hand c.take_last.ensures.items c.in_ok-share.ensures.hand
    (workers_of_hall chief.pass c.in_ok-chief.hands.items c.workers_for.new.hands.items c.in_ok-workers.workers.items all c.in_ok-workers.ensures.hands).0

pub invariant_of-phases-clause-members_of_hall : goal.invariant_of-phases-clause-members_of_hall
invariant_of-phases-clause-members_of_hall g c =
    let chief = c.in_ok-chief.chief in
    let all = all_of_hall (arc_value chief.lock) chief.pass c.in_ok-chief.hands.items chief.of_lock c.in_ok-chief.ensures.lock in
    let workers = workers_of_hall chief.pass c.in_ok-chief.hands.items c.workers_for.new.hands.items c.in_ok-workers.workers.items all c.in_ok-workers.ensures.hands in
    ∣ members_of_hall chief.pass c.in_ok-workers.workers.items c.start_each.new.members.items workers.1 c.start_each.ensures.members ∣₁

use Rattle.std.proofs.Common.{◌∙◌, sym}
use Rattle.trick_exec_posts.proofs.Loops.{asks_none}
use Rattle.trick_exec_posts.proofs.Seats.{ends_over}
use Rattle.trick_exec_posts.proofs.Steps.{step_ends, step_goes}
use Rattle.trick_exec_posts.proofs.ended.publish_end.Goals as goal
use Rattle.trick_model.specs.Beside.{publish}
use Rattle.trick_model.specs.PlanOf.{plan_of}
use Rattle.trick_model.specs.State.{seen}

pub publish-requires-clause-over : goal.publish-requires-clause-over
publish-requires-clause-over g c =
    ends_over c.args.tic c.args.seat.station.now.thread (sym c.ends_at.ensures ∙ c.if-ends_at.true) c.requires.tic

pub returns-then-ends_at-clause-state : goal.returns-then-ends_at-clause-state
returns-then-ends_at-clause-state g c =
    step_ends (λ place thread. publish (plan_of (g.P.Posts.plan c.args.posts.now)) place thread c.args.tic) c.args.tic c.args.seat.place
    c.args.seat.station.now.thread (seen g.M.Cells.numbers c.args.state.now) _ (sym c.ends_at.ensures ∙ c.if-ends_at.true) c.publish.ensures.state

pub returns-else-ends_at-clause-state : goal.returns-else-ends_at-clause-state
returns-else-ends_at-clause-state g c =
    step_goes (λ place thread. publish (plan_of (g.P.Posts.plan c.args.posts.now)) place thread c.args.tic) c.args.tic c.args.seat.place
    c.args.seat.station.now.thread (seen g.M.Cells.numbers c.args.state.now) (sym c.ends_at.ensures ∙ c.if-ends_at.false)

pub returns-else-ends_at-clause-asks : goal.returns-else-ends_at-clause-asks
returns-else-ends_at-clause-asks g c = asks_none g.P.Posts c.args.posts.now (g.met.P.Posts.asked_none c.args.posts.now)

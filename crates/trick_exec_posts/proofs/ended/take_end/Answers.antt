use Rattle.std.proofs.Common.{◌∙◌, sym}
use Rattle.trick_exec_posts.proofs.Loops.{asks_none}
use Rattle.trick_exec_posts.proofs.Steps.{step_ends, step_goes}
use Rattle.trick_exec_posts.proofs.ended.take_end.Goals as goal
use Rattle.trick_model.specs.Beside.{take}
use Rattle.trick_model.specs.PlanOf.{plan_of}
use Rattle.trick_model.specs.State.{seen}

pub take-requires-clause-empty : goal.take-requires-clause-empty
take-requires-clause-empty g c = c.requires.empty (sym c.ends_at.ensures ∙ c.if-not-ends_at.false)

pub returns-then-not-ends_at-clause-state : goal.returns-then-not-ends_at-clause-state
returns-then-not-ends_at-clause-state g c =
    step_goes (take (plan_of (g.P.Posts.plan c.args.posts.now))) c.args.tic c.args.seat.place c.args.seat.station.now.thread
    (seen g.M.Cells.numbers c.args.state.now) (sym c.ends_at.ensures ∙ c.if-not-ends_at.true)

pub returns-then-not-ends_at-clause-asks : goal.returns-then-not-ends_at-clause-asks
returns-then-not-ends_at-clause-asks g c = asks_none g.P.Posts c.args.posts.now (g.met.P.Posts.asked_none c.args.posts.now)

pub returns-clause-state : goal.returns-clause-state
returns-clause-state g c =
    step_ends (take (plan_of (g.P.Posts.plan c.args.posts.now))) c.args.tic c.args.seat.place c.args.seat.station.now.thread
    (seen g.M.Cells.numbers c.args.state.now) _ (sym c.ends_at.ensures ∙ c.if-not-ends_at.false) c.in_ok-take.ensures.state

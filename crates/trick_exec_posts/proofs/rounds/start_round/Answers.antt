use Rattle.std.proofs.Common.{◌≡◌, ◌∙◌, ap, subst, sym, ℕ}
use Rattle.trick_exec_posts.proofs.Loops.{asks_none}
use Rattle.trick_exec_posts.proofs.RoundLemmas.{start_held, start_other, start_takes}
use Rattle.trick_exec_posts.proofs.rounds.start_round.Goals as goal
use Rattle.trick_exec_posts.specs.Flight.{GoesWith}
use Rattle.trick_model.specs.PlanOf.{plan_of}
use Rattle.trick_model.specs.State.{State, seen}

pub take-requires-clause-empty : goal.take-requires-clause-empty
take-requires-clause-empty g c = sym c.is_held.ensures ∙ c.if-is_held.false

pub returns-then-not-is_async-clause-state : goal.returns-then-not-is_async-clause-state
returns-then-not-is_async-clause-state g c =
    start_other (plan_of (g.P.Posts.plan c.args.posts.now)) c.args.seat.place c.args.seat.station.now.thread (seen g.M.Cells.numbers c.args.state.now)
    (sym c.is_async.ensures ∙ c.if-not-is_async.true)

pub returns-then-not-is_async-clause-asks : goal.returns-then-not-is_async-clause-asks
returns-then-not-is_async-clause-asks g c = asks_none g.P.Posts c.args.posts.now (g.met.P.Posts.asked_none c.args.posts.now)

pub returns-then-is_held-clause-state : goal.returns-then-is_held-clause-state
returns-then-is_held-clause-state g c =
    start_held (plan_of (g.P.Posts.plan c.args.posts.now)) c.args.seat.place c.args.seat.station.now.thread (seen g.M.Cells.numbers c.args.state.now)
    (sym c.is_async.ensures ∙ c.if-not-is_async.false) (sym c.is_held.ensures ∙ c.if-is_held.true)

pub returns-then-is_held-clause-asks : goal.returns-then-is_held-clause-asks
returns-then-is_held-clause-asks g c = asks_none g.P.Posts c.args.posts.now (g.met.P.Posts.asked_none c.args.posts.now)

pub returns-clause-state : goal.returns-clause-state
returns-clause-state g c =
    start_takes (plan_of (g.P.Posts.plan c.args.posts.now)) c.args.seat.place c.args.seat.station.now.thread (seen g.M.Cells.numbers c.args.state.now) _
    (sym c.is_async.ensures ∙ c.if-not-is_async.false) (sym c.is_held.ensures ∙ c.if-is_held.false) c.in_ok-take.ensures.state

pub returns-clause-goes : goal.returns-clause-goes
returns-clause-goes g c =
    let same : c.take.new.state.tic ≡ c.args.state.now.tic = ap (λ (s : State). s.tic) c.in_ok-take.ensures.state in
    subst (λ (n : ℕ). GoesWith (g.P.Posts.plan c.take.new.posts) (g.P.Posts.in_flight c.take.new.posts) n (seen g.M.Cells.numbers c.take.new.state)
    (g.M.Cells.scalars c.take.new.state.memory)) (sym same) c.in_ok-take.ensures.goes

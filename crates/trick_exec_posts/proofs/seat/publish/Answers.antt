use Rattle.std.proofs.Common.{◌≡◌, ◌∙◌, ◌<◌, subst, sym, true, ℕ}
use Rattle.trick_exec_posts.proofs.Flights.{as_many, finished_is, is_started}
use Rattle.trick_exec_posts.proofs.Loops.{asks_none}
use Rattle.trick_exec_posts.proofs.Seats.{publish_goes}
use Rattle.trick_exec_posts.proofs.Steps.{publish_held, publish_none}
use Rattle.trick_exec_posts.proofs.Threads.{beside_found}
use Rattle.trick_exec_posts.proofs.seat.publish.Goals as goal
use Rattle.trick_exec_posts.specs.Flight.{GoesWith}
use Rattle.trick_model.specs.Beside.{publish}
use Rattle.trick_model.specs.PlanOf.{plan_of}
use Rattle.trick_model.specs.State.{State, seen, taken_at}
use Rattle.trick_model.specs.declared.plan.Plan.{Plan as PlanValue}
use Rattle.trick_post_work.specs.Work.{finished}

pub finish-requires-clause-started : goal.finish-requires-clause-started
finish-requires-clause-started g c =
    is_started (plan_of (g.P.Posts.plan c.args.posts.now)) (g.P.Posts.in_flight c.args.posts.now) c.args.tic c.args.seat.place c.args.state.now.taken
    c.args.seat.station.now.thread c.requires.goes.tied c.requires.seat.there c.requires.seat.thread (sym c.is_held.ensures ∙ c.if-not-is_held.false)

pub empty-requires : goal.empty-requires
empty-requires g c =
    subst (λ (n : ℕ). c.args.seat.place < n)
    (sym (as_many (plan_of (g.P.Posts.plan c.args.posts.now)) (seen g.M.Cells.numbers c.args.state.now) c.requires.goes.valid)) c.requires.seat.there

pub returns-then-not-is_held-clause-state : goal.returns-then-not-is_held-clause-state
returns-then-not-is_held-clause-state g c =
    publish_none (plan_of (g.P.Posts.plan c.args.posts.now)) c.args.seat.place c.args.seat.station.now.thread c.args.tic
    (seen g.M.Cells.numbers c.args.state.now) (sym c.is_held.ensures ∙ c.if-not-is_held.true)

pub returns-then-not-is_held-clause-asks : goal.returns-then-not-is_held-clause-asks
returns-then-not-is_held-clause-asks g c = asks_none g.P.Posts c.args.posts.now (g.met.P.Posts.asked_none c.args.posts.now)

pub returns-clause-state : goal.returns-clause-state
returns-clause-state g c =
    let p = plan_of (g.P.Posts.plan c.args.posts.now) in
    let place = c.args.seat.place in
    let thread = c.args.seat.station.now.thread in
    let s : State = seen g.M.Cells.numbers c.args.state.now in
    let held : (taken_at s place).held ≡ true = sym c.is_held.ensures ∙ c.if-not-is_held.false in
    publish_held p place thread c.args.tic s (finished p thread.number (g.P.Posts.in_flight c.args.posts.now thread.number) c.args.tic s.memory)
    (g.M.Cells.numbers c.finish.new.memory) c.finish.new.faults c.empty.new.records held
    (finished_is c.started_work_is_published.ensures p (beside_found (g.P.Posts.plan c.args.posts.now)) place c.args.tic s.jobs s.taken
    (g.P.Posts.in_flight c.args.posts.now) s.memory thread c.requires.seat.there c.requires.seat.thread held c.requires.over c.requires.goes.tied)
    c.finish.ensures.memory c.finish.ensures.faults c.empty.ensures

pub returns-clause-goes : goal.returns-clause-goes
returns-clause-goes g c =
    let plan = g.P.Posts.plan c.args.posts.now in
    let p = plan_of plan in
    let place = c.args.seat.place in
    let thread = c.args.seat.station.now.thread in
    let s : State = seen g.M.Cells.numbers c.args.state.now in
    let t : State = record s { memory = g.M.Cells.numbers c.finish.new.memory; faults = c.finish.new.faults; taken = c.empty.new.records } in
    let held : (taken_at s place).held ≡ true = sym c.is_held.ensures ∙ c.if-not-is_held.false in
    let is : t ≡ publish p place thread c.args.tic s =
    publish_held p place thread c.args.tic s (finished p thread.number (g.P.Posts.in_flight c.args.posts.now thread.number) c.args.tic s.memory)
    (g.M.Cells.numbers c.finish.new.memory) c.finish.new.faults c.empty.new.records held
    (finished_is c.started_work_is_published.ensures p (beside_found plan) place c.args.tic s.jobs s.taken
    (g.P.Posts.in_flight c.args.posts.now) s.memory thread c.requires.seat.there c.requires.seat.thread held c.requires.over c.requires.goes.tied)
    c.finish.ensures.memory c.finish.ensures.faults c.empty.ensures in
    subst (λ (x : PlanValue). GoesWith x (g.P.Posts.in_flight c.finish.new.self) c.args.tic t (g.M.Cells.scalars c.finish.new.memory)) (sym c.finish.ensures.plan)
    (publish_goes c.args.seat.station.now (g.P.Posts.in_flight c.finish.new.self) t (g.M.Cells.scalars c.finish.new.memory)
    (c.plans_are_sound.ensures plan) c.requires.tic c.requires.goes c.requires.seat is c.empty.ensures c.finish.ensures.scalars
    c.finish.ensures.finished c.finish.ensures.others)

pub returns-clause-asks : goal.returns-clause-asks
returns-clause-asks g c = record { plan = c.finish.ensures.plan; late = c.finish.ensures.late; asked = c.finish.ensures.asked }

use Rattle.std.proofs.Common.{◌≡◌, [], Err, Ok, refl, subst, sym}
use Rattle.std.proofs.lemmas.Result.{err_from_is_err_and}
use Rattle.std.specs.Prelude.{Result}
use Rattle.trick_exec.proofs.WholeLemmas.{closed, short, stopped}
use Rattle.trick_exec.proofs.whole.whole.Goals as goal
use Rattle.trick_exec.specs.Ended.{AreTurns, Closes, IsRun}
use Rattle.trick_exec_turn.specs.Lent.{place}
use Rattle.trick_exec_turn.specs.Worlds.{world_of}
use Rattle.trick_exec.specs.declared.ended.Ended.{Ended as EndedValue}
use Rattle.trick_model.specs.Files.{start_writes}
use Rattle.trick_model.specs.PlanOf.{plan_of}
use Rattle.trick_model.specs.State.{State, World, seen}
use Rattle.trick_model.specs.declared.plan.Plan.{Plan as PlanValue}
use Rattle.trick_outside.specs.Does.{Does}
use Rattle.trick_outside.specs.declared.stop.Stop.{Stop}
use Rattle.trick_exec_meaning.proofs.Going.{Laws}
use Rattle.trick_exec_meaning.proofs.Whole.{stopped_first, stopped_started}
use Rattle.trick_exec_meaning.specs.Hosts.{Place, at, hosts}
use Rattle.trick_exec_tic.specs.Steps.{steps_of}

pub returns-in_err-begin_files-clause-run : goal.returns-in_err-begin_files-clause-run
returns-in_err-begin_files-clause-run g c =
    let p = plan_of c.args.accepted.now.plan in
    let h = hosts g.F.Shelf g.T.Turns g.P.Posts in
    let laws : Laws h = record { shelf = g.met.F.Shelf.called_join; turns = g.met.T.Turns.went_join; posts = g.met.P.Posts.asked_join; runs = c.runs_join.ensures } in
    let start : State = seen g.M.Cells.numbers c.args.state in
    let error = err_from_is_err_and c.from_residual.result c.from_residual.ensures.1 in
    let result : Result (EndedValue g.row.M.Denot) Stop = Err error.0 in
    let first : Result (Unit {0}) Stop = Err c.in_err-begin_files.field-0.0 in
    let old : Place g.row.F.Denot g.row.T.Denot g.row.P.Denot = at c.args.run.now.shelf.now c.args.run.now.turns.now c.args.run.now.workers.now.posts in
    let held : Place g.row.F.Denot g.row.T.Denot g.row.P.Denot = at c.args.run.now.shelf.now c.args.run.now.turns.now c.hold.new.workers.posts in
    let new : Place g.row.F.Denot g.row.T.Denot g.row.P.Denot = at c.begin_files.new.shelf c.args.run.now.turns.now c.hold.new.workers.posts in
    let begun : Does g.F.Shelf c.args.run.now.shelf.now c.begin_files.new.shelf first (steps_of (start_writes p start.turn)) =
    subst (λ (x : PlanValue). Does g.F.Shelf c.args.run.now.shelf.now c.begin_files.new.shelf first (steps_of (start_writes (plan_of x) start.turn))) c.plan-plan.ensures.plan c.in_err-begin_files.ensures in
    subst (λ (r : Result (EndedValue g.row.M.Denot) Stop). IsRun h g.M.Cells.numbers p start old new r) (sym error.1) (
      [],
      stopped_started c.args.run.now.shelf.now c.args.run.now.turns.now c.args.run.now.workers.now.posts c.hold.new.workers.posts g.met.P.Posts.asked_join c.hold.ensures.asks.asked
          (stopped_first h laws p start {old = held} {new = c.begin_files.new.shelf} result _ error.0 (g.met.T.Turns.went_none c.args.run.now.turns.now)
          (g.met.P.Posts.asked_none c.hold.new.workers.posts) begun refl refl error.2),
    )

pub returns-in_err-world-clause-run : goal.returns-in_err-world-clause-run
returns-in_err-world-clause-run g c =
    let p = plan_of c.args.accepted.now.plan in
    let h = hosts g.F.Shelf g.T.Turns g.P.Posts in
    let laws : Laws h = record { shelf = g.met.F.Shelf.called_join; turns = g.met.T.Turns.went_join; posts = g.met.P.Posts.asked_join; runs = c.runs_join.ensures } in
    let start : State = seen g.M.Cells.numbers c.args.state in
    let first : Result (Unit {0}) Stop = Ok c.in_ok-begin_files.field-0 in
    let begun : Does g.F.Shelf c.args.run.now.shelf.now c.begin_files.new.shelf first (steps_of (start_writes p start.turn)) =
    subst (λ (x : PlanValue). Does g.F.Shelf c.args.run.now.shelf.now c.begin_files.new.shelf first (steps_of (start_writes (plan_of x) start.turn))) c.plan-plan.ensures.plan c.in_ok-begin_files.ensures in
    let mid : Place g.row.F.Denot g.row.T.Denot g.row.P.Denot = at c.begin_files.new.shelf c.args.run.now.turns.now c.hold.new.workers.posts in
    let over : Place g.row.F.Denot g.row.T.Denot g.row.P.Denot = at c.go.new.run.shelf.now c.go.new.run.turns.now c.go.new.run.workers.now.posts in
    let error = err_from_is_err_and c.from_residual-in_err-world.result c.from_residual-in_err-world.ensures.1 in
    let result : Result (EndedValue g.row.M.Denot) Stop = Err c.in_err-world.field-0.0 in
    stopped h laws g.M.Cells.numbers p start c.args.run.now.turns.now c.args.run.now.workers.now.posts c.hold.new.workers.posts over result c.from_residual-in_err-world.result _ error.0
    c.hold.ensures.asks.asked begun refl c.in_err-world.ensures.turns refl error.1 error.2

pub returns-in-Done-clause-run : goal.returns-in-Done-clause-run
returns-in-Done-clause-run g c =
    let p = plan_of c.args.accepted.now.plan in
    let h = hosts g.F.Shelf g.T.Turns g.P.Posts in
    let laws : Laws h = record { shelf = g.met.F.Shelf.called_join; turns = g.met.T.Turns.went_join; posts = g.met.P.Posts.asked_join; runs = c.runs_join.ensures } in
    let start : State = seen g.M.Cells.numbers c.args.state in
    let first : Result (Unit {0}) Stop = Ok c.in_ok-begin_files.field-0 in
    let begun : Does g.F.Shelf c.args.run.now.shelf.now c.begin_files.new.shelf first (steps_of (start_writes p start.turn)) =
    subst (λ (x : PlanValue). Does g.F.Shelf c.args.run.now.shelf.now c.begin_files.new.shelf first (steps_of (start_writes (plan_of x) start.turn))) c.plan-plan.ensures.plan c.in_ok-begin_files.ensures in
    let mid : Place g.row.F.Denot g.row.T.Denot g.row.P.Denot = at c.begin_files.new.shelf c.args.run.now.turns.now c.hold.new.workers.posts in
    let over : Place g.row.F.Denot g.row.T.Denot g.row.P.Denot = at c.go.new.run.shelf.now c.go.new.run.turns.now c.go.new.run.workers.now.posts in
    let w : World = world_of g.M.Cells.numbers c.in-Done.world in
    let turns = subst (λ (e : EndedValue g.row.M.Denot). let r : Result (EndedValue g.row.M.Denot) Stop = Ok e in AreTurns h g.M.Cells.numbers p start mid over r) c.in-Done.is c.in_ok-world.ensures.turns in
    let closes : Closes g.F.Shelf g.T.Turns g.M.Cells.numbers p w c.go.new.run.shelf.now c.end.new.run.shelf.now c.go.new.run.turns.now c.end.new.run.turns.now c.end.result =
    subst (λ (x : PlanValue). Closes g.F.Shelf g.T.Turns g.M.Cells.numbers (plan_of x) w c.go.new.run.shelf.now c.end.new.run.shelf.now c.go.new.run.turns.now c.end.new.run.turns.now c.end.result) c.plan-plan.ensures.plan c.end.ensures.closes in
    let end : Place g.row.F.Denot g.row.T.Denot g.row.P.Denot = at c.end.new.run.shelf.now c.end.new.run.turns.now c.go.new.run.workers.now.posts in
    let ends : end ≡ place c.end.new.run = λ i. at c.end.new.run.shelf.now c.end.new.run.turns.now ((sym c.end.ensures.workers i).posts) in
    subst (λ (o : Place g.row.F.Denot g.row.T.Denot g.row.P.Denot). IsRun h g.M.Cells.numbers p start (place c.args.run.now) o c.end.result) ends
    (closed h laws g.M.Cells.numbers p start c.end.new.run.shelf.now c.end.new.run.turns.now w c.end.result c.hold.ensures.asks.asked begun refl turns.1 closes)

pub returns-in-Length-clause-run : goal.returns-in-Length-clause-run
returns-in-Length-clause-run g c =
    let p = plan_of c.args.accepted.now.plan in
    let h = hosts g.F.Shelf g.T.Turns g.P.Posts in
    let laws : Laws h = record { shelf = g.met.F.Shelf.called_join; turns = g.met.T.Turns.went_join; posts = g.met.P.Posts.asked_join; runs = c.runs_join.ensures } in
    let start : State = seen g.M.Cells.numbers c.args.state in
    let first : Result (Unit {0}) Stop = Ok c.in_ok-begin_files.field-0 in
    let begun : Does g.F.Shelf c.args.run.now.shelf.now c.begin_files.new.shelf first (steps_of (start_writes p start.turn)) =
    subst (λ (x : PlanValue). Does g.F.Shelf c.args.run.now.shelf.now c.begin_files.new.shelf first (steps_of (start_writes (plan_of x) start.turn))) c.plan-plan.ensures.plan c.in_ok-begin_files.ensures in
    let mid : Place g.row.F.Denot g.row.T.Denot g.row.P.Denot = at c.begin_files.new.shelf c.args.run.now.turns.now c.hold.new.workers.posts in
    let now : Place g.row.F.Denot g.row.T.Denot g.row.P.Denot = at c.go.new.run.shelf.now c.go.new.run.turns.now c.go.new.run.workers.now.posts in
    let turns = subst (λ (e : EndedValue g.row.M.Denot). let r : Result (EndedValue g.row.M.Denot) Stop = Ok e in AreTurns h g.M.Cells.numbers p start mid now r) c.in-Length.is c.in_ok-world.ensures.turns in
    (turns.0, short h laws g.M.Cells.numbers p start c.in-Length.kept c.in-Length.given c.hold.ensures.asks.asked begun refl turns.2)

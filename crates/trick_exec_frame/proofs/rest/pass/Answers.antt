use Rattle.std.proofs.Common.{◌∙◌, Bool, List, ap, refl, subst, sym}
use Rattle.std.proofs.lemmas.Result.{err_from_is_err_and}
use Rattle.trick_exec_posts.proofs.Loops.{asks_then}
use Rattle.trick_exec_posts.specs.Flight.{GoesWith}
use Rattle.trick_eval.specs.Bench.{IsFor, Parts}
use Rattle.trick_phase_jobs.specs.Belongs.{IsMemoryOf}
use Rattle.trick_model.specs.Events.{Asking}
use Rattle.trick_model.specs.PlanOf.{plan_of}
use Rattle.trick_model.specs.State.{State, seen}
use Rattle.trick_model.specs.Turn.{checkpoint_jobs, rounds}
use Rattle.trick_model.specs.declared.plan.Plan.{Plan}
use Rattle.trick_outside.proofs.DoesLemmas.{does_fail, does_then}
use Rattle.trick_outside.specs.Calls.{Call}
use Rattle.trick_outside.specs.Does.{Does}
use Rattle.trick_exec_frame.proofs.CourseLemmas.{checkpoint_goes, counted_goes, rounds_go}
use Rattle.trick_exec_frame.proofs.PassLemmas.{pass_steps, pass_stops, pass_wants, with_steps}
use Rattle.trick_exec_frame.proofs.rest.pass.Goals as goal
use Rattle.trick_exec_tic.specs.Course.{IsUnderWay}
use Rattle.trick_exec_tic.specs.Current.{asking_of}

pub returns-in_err-current-clause-does : goal.returns-in_err-current-clause-does
returns-in_err-current-clause-does g c =
    let error = err_from_is_err_and c.from_residual.result c.from_residual.ensures.1 in
    pass_stops (plan_of c.args.accepted.now.plan) c.args.rest.publications.now (asking_of g.M.Cells.numbers c.args.rest.current) _ _ _ c.in_err-current.ensures.does
    refl error.1 error.2

pub rounds-requires-clause-goes : goal.rounds-requires-clause-goes
rounds-requires-clause-goes g c =
    let plan = c.args.accepted.now.plan in
    let course = c.framed.new.equipment.course in
    let posts = g.P.Posts.in_flight c.framed.new.workers.posts in
    let ran = c.in_ok-current.current in
    let jobs = c.checkpoint_jobs.new.state in
    let memory : IsMemoryOf plan.program (g.M.Cells.numbers jobs.memory) (g.M.Cells.scalars jobs.memory) =
    subst (λ (x : Plan). IsMemoryOf x.program (g.M.Cells.numbers jobs.memory) (g.M.Cells.scalars jobs.memory)) c.plan-plan.ensures.plan c.checkpoint_jobs.ensures.memory in
    let way : IsUnderWay plan course posts (seen g.M.Cells.numbers jobs) (g.M.Cells.scalars jobs.memory) =
    checkpoint_goes plan course posts ran.asked.checkpoint (seen g.M.Cells.numbers ran.state) (seen g.M.Cells.numbers jobs)
    (g.M.Cells.scalars ran.state.memory) (g.M.Cells.scalars jobs.memory) (c.plans_are_sound.ensures plan)
    (c.checkpoint_jobs.ensures.ran ∙ ap (λ (x : Plan). checkpoint_jobs (plan_of x) ran.asked.checkpoint (seen g.M.Cells.numbers ran.state)) c.plan-plan.ensures.plan)
    memory c.in_ok-current.ensures.equipped.under_way in
    subst (λ (x : Plan). GoesWith x posts jobs.tic (seen g.M.Cells.numbers jobs) (g.M.Cells.scalars jobs.memory))
    (sym (c.framed.ensures.asks.plan ∙ c.requires.posts)) way.goes

pub returns-in_default-clause-does : goal.returns-in_default-clause-does
returns-in_default-clause-does g c =
    pass_wants (plan_of c.args.accepted.now.plan) c.args.rest.publications.now (asking_of g.M.Cells.numbers c.args.rest.current) _ g.met.F.Shelf.called_join
    c.in_ok-current.ensures.does refl (g.met.F.Shelf.called_none _) (λ d. cc) (λ f. cc)

pub returns-in_default-clause-asks : goal.returns-in_default-clause-asks
returns-in_default-clause-asks g c = asks_then g.met.P.Posts.asked_join c.framed.ensures.asks c.rounds.ensures.asks

pub returns-in_err-write_checkpoint-clause-asks : goal.returns-in_err-write_checkpoint-clause-asks
returns-in_err-write_checkpoint-clause-asks g c = asks_then g.met.P.Posts.asked_join c.framed.ensures.asks c.rounds.ensures.asks

pub returns-clause-asks : goal.returns-clause-asks
returns-clause-asks g c = asks_then g.met.P.Posts.asked_join c.framed.ensures.asks c.rounds.ensures.asks

pub returns-clause-does : goal.returns-clause-does
returns-clause-does g c =
    let plan = c.args.accepted.now.plan in
    let a : Asking = asking_of g.M.Cells.numbers c.args.rest.current in
    let ran : Asking = asking_of g.M.Cells.numbers c.in_ok-current.current in
    let jobs : State = seen g.M.Cells.numbers c.checkpoint_jobs.new.state in
    let steps = pass_steps (plan_of plan) c.args.rest.publications.now a ran jobs (seen g.M.Cells.numbers c.rounds.new.state) (seen g.M.Cells.numbers c.count.new.state)
    c.in_ok-current.ensures.state
    (c.checkpoint_jobs.ensures.ran ∙ ap (λ (x : Plan). checkpoint_jobs (plan_of x) ran.checkpoint ran.state) c.plan-plan.ensures.plan)
    (c.in-Ok.ensures.state ∙ ap (λ (x : Plan). rounds (plan_of x) c.runs-ran.result jobs) (c.framed.ensures.asks.plan ∙ c.requires.posts)
    ∙ ap (λ (b : Bool). rounds (plan_of plan) b jobs) c.runs-ran.ensures)
    c.count.ensures.counted in
    let wrote = rw c.plan-plan.ensures.plan at c.in_ok-write_checkpoint.ensures in
    with_steps _ _ _ steps (does_then g.met.F.Shelf.called_join c.in_ok-current.ensures.does refl wrote) refl

pub returns-in_err-write_checkpoint-clause-does : goal.returns-in_err-write_checkpoint-clause-does
returns-in_err-write_checkpoint-clause-does g c =
    let error = err_from_is_err_and c.from_residual-in_err-write_checkpoint.result c.from_residual-in_err-write_checkpoint.ensures.1 in
    let plan = c.args.accepted.now.plan in
    let a : Asking = asking_of g.M.Cells.numbers c.args.rest.current in
    let ran : Asking = asking_of g.M.Cells.numbers c.in_ok-current.current in
    let jobs : State = seen g.M.Cells.numbers c.checkpoint_jobs.new.state in
    let steps = pass_steps (plan_of plan) c.args.rest.publications.now a ran jobs (seen g.M.Cells.numbers c.rounds.new.state) (seen g.M.Cells.numbers c.count.new.state)
    c.in_ok-current.ensures.state
    (c.checkpoint_jobs.ensures.ran ∙ ap (λ (x : Plan). checkpoint_jobs (plan_of x) ran.checkpoint ran.state) c.plan-plan.ensures.plan)
    (c.in-Ok.ensures.state ∙ ap (λ (x : Plan). rounds (plan_of x) c.runs-ran.result jobs) (c.framed.ensures.asks.plan ∙ c.requires.posts)
    ∙ ap (λ (b : Bool). rounds (plan_of plan) b jobs) c.runs-ran.ensures)
    c.count.ensures.counted in
    let wrote = rw c.plan-plan.ensures.plan at c.in_err-write_checkpoint.ensures in
    subst (λ (calls : List Call). Does g.F.Shelf c.args.shelf.now c.write_checkpoint.new.shelf c.from_residual-in_err-write_checkpoint.result calls) steps
    (does_then g.met.F.Shelf.called_join c.in_ok-current.ensures.does refl (does_fail _ _ _ wrote refl error.1 error.2))

pub returns-clause-equipped : goal.returns-clause-equipped
returns-clause-equipped g c =
    let plan = c.args.accepted.now.plan in
    let course = c.framed.new.equipment.course in
    let before = g.P.Posts.in_flight c.framed.new.workers.posts in
    let after = g.P.Posts.in_flight c.rounds.new.posts in
    let ran = c.in_ok-current.current in
    let jobs = c.checkpoint_jobs.new.state in
    let started = c.rounds.new.state in
    let last = c.count.new.state in
    let memory : IsMemoryOf plan.program (g.M.Cells.numbers jobs.memory) (g.M.Cells.scalars jobs.memory) =
    subst (λ (x : Plan). IsMemoryOf x.program (g.M.Cells.numbers jobs.memory) (g.M.Cells.scalars jobs.memory)) c.plan-plan.ensures.plan c.checkpoint_jobs.ensures.memory in
    let checked : IsUnderWay plan course before (seen g.M.Cells.numbers jobs) (g.M.Cells.scalars jobs.memory) =
    checkpoint_goes plan course before ran.asked.checkpoint (seen g.M.Cells.numbers ran.state) (seen g.M.Cells.numbers jobs)
    (g.M.Cells.scalars ran.state.memory) (g.M.Cells.scalars jobs.memory) (c.plans_are_sound.ensures plan)
    (c.checkpoint_jobs.ensures.ran ∙ ap (λ (x : Plan). checkpoint_jobs (plan_of x) ran.asked.checkpoint (seen g.M.Cells.numbers ran.state)) c.plan-plan.ensures.plan)
    memory c.in_ok-current.ensures.equipped.under_way in
    let way : IsUnderWay plan course after (seen g.M.Cells.numbers started) (g.M.Cells.scalars started.memory) =
    rounds_go plan (g.P.Posts.plan c.framed.new.workers.posts) (g.P.Posts.plan c.rounds.new.posts) course before after c.runs-ran.result
    (seen g.M.Cells.numbers jobs) (seen g.M.Cells.numbers started) (g.M.Cells.scalars jobs.memory) (g.M.Cells.scalars started.memory)
    (c.framed.ensures.asks.plan ∙ c.requires.posts) c.rounds.ensures.asks.plan c.in-Ok.ensures.state c.in-Ok.ensures.goes checked in
    record {
      under_way = counted_goes plan course after (seen g.M.Cells.numbers started) (seen g.M.Cells.numbers last)
          (g.M.Cells.scalars started.memory) (g.M.Cells.scalars last.memory) c.count.ensures.counted
          (subst (λ (m : g.row.M.Denot). IsMemoryOf plan.program (g.M.Cells.numbers m) (g.M.Cells.scalars m)) (sym c.count.ensures.memory) way.goes.memory) way;
      bench = subst (λ (parts : Parts). IsFor plan.program parts) (sym c.checkpoint_jobs.ensures.bench) c.in_ok-current.ensures.equipped.bench;
    }

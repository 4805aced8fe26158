use Rattle.std.proofs.Common.{◌≡◌, ◌∙◌, [], Err, ap, subst, sym}
use Rattle.std.specs.Prelude.{Result}
use Rattle.trick_exec_posts.specs.Flight.{IsFree}
use Rattle.trick_eval.specs.Bench.{IsFor}
use Rattle.trick_exec.proofs.whole.run_by.Goals as goal
use Rattle.trick_exec.specs.Ended.{IsRun}
use Rattle.trick_exec_turn.specs.Lent.{place}
use Rattle.trick_exec.specs.declared.ended.Ended.{Ended as EndedValue}
use Rattle.trick_model.specs.PlanOf.{plan_of}
use Rattle.trick_model.specs.State.{State, seen}
use Rattle.trick_outside.specs.declared.stop.Stop.TheVariants.{Memory}
use Rattle.trick_outside.specs.declared.stop.Stop.{Stop}
use Rattle.trick_exec_meaning.proofs.Going.{Laws}
use Rattle.trick_exec_meaning.proofs.Whole.{stopped_at_once}
use Rattle.trick_exec_meaning.specs.Hosts.{Place, at, hosts}
use Rattle.trick_exec_tic.specs.Course.{IsCourseOf}

pub returns-in_default : goal.returns-in_default
returns-in_default g c =
    let p = plan_of c.args.accepted.now.plan in
    let h = hosts g.F.Shelf g.T.Turns g.P.Posts in
    let laws : Laws h = record { shelf = g.met.F.Shelf.called_join; turns = g.met.T.Turns.went_join; posts = g.met.P.Posts.asked_join; runs = c.runs_join.ensures } in
    let start : State = seen g.M.Cells.numbers c.args.start.state in
    let result : Result (EndedValue g.row.M.Denot) Stop = Err Memory in
    record {
      run = (
        [],
        stopped_at_once h laws p start (at c.args.shelf.now c.args.turns.now c.args.workers.now.posts) result (g.met.F.Shelf.called_none c.args.shelf.now)
            (g.met.T.Turns.went_none c.args.turns.now) (g.met.P.Posts.asked_none c.args.workers.now.posts) (λ ok. cc) (λ fault. cc),
      );
    }

pub whole-requires : goal.whole-requires
whole-requires g c =
    let plan = c.args.accepted.now.plan in
    let s : State = seen g.M.Cells.numbers c.args.start.state in
    let work = c.new-run.ensures.workers in
    record {
      starts = record {
        own = subst (λ w. g.H.Phases.is_for w.phases plan) (sym work) c.requires.own;
        posts = ap (λ w. g.P.Posts.plan w.posts) work ∙ c.requires.posts;
        free = subst (λ w. IsFree (plan_of plan) (g.P.Posts.in_flight w.posts)) (sym work) c.requires.free;
        valid = c.requires.valid;
        memory = c.requires.memory;
        course = subst (λ e. IsCourseOf plan e.course s) (sym c.new-run.ensures.equipment) c.in-Ok.ensures.course;
        bench = subst (λ e. IsFor plan.program e.bench.parts) (sym c.new-run.ensures.equipment) c.in-Ok.ensures.bench;
        waits = ap (λ v. v.items) c.new-run.ensures.waits ∙ c.in-Ok.ensures.waits;
        unknown = ap g.T.Turns.sessions c.new-run.ensures.turns ∙ c.requires.unknown;
        paid = ap g.T.Turns.owes c.new-run.ensures.turns ∙ c.requires.paid;
      };
    }

pub returns : goal.returns
returns g c =
    let p = plan_of c.args.accepted.now.plan in
    let h = hosts g.F.Shelf g.T.Turns g.P.Posts in
    let start : State = seen g.M.Cells.numbers c.args.start.state in
    let old : Place g.row.F.Denot g.row.T.Denot g.row.P.Denot = at c.args.shelf.now c.args.turns.now c.args.workers.now.posts in
    let new : Place g.row.F.Denot g.row.T.Denot g.row.P.Denot = at c.shelf-1.given.0 c.turns-1.given.0 c.workers-1.given.0.posts in
    let made = c.new-run.ensures in
    let same = c.whole.ensures.same in
    let shelf_is : c.shelf-1.given.0 ≡ c.whole.new.run.shelf.now = c.shelf-1.given.1 (sym (same.0 ∙ made.same_shelf)) in
    let workers_is : c.workers-1.given.0 ≡ c.whole.new.run.workers.now = c.workers-1.given.1 (sym (same.1 ∙ made.same_workers)) in
    let turns_is : c.turns-1.given.0 ≡ c.whole.new.run.turns.now = c.turns-1.given.1 (sym (same.2 ∙ made.same_turns)) in
    let starts : place c.new-run.result ≡ old = λ i. at (made.shelf i) (made.turns i) ((made.workers i).posts) in
    let ends : place c.whole.new.run ≡ new = λ i. at (sym shelf_is i) (sym turns_is i) ((sym workers_is i).posts) in
    record {
      run = subst (λ (o : Place g.row.F.Denot g.row.T.Denot g.row.P.Denot). IsRun h g.M.Cells.numbers p start old o c.whole.result) ends
          (subst (λ (o : Place g.row.F.Denot g.row.T.Denot g.row.P.Denot). IsRun h g.M.Cells.numbers p start o (place c.whole.new.run) c.whole.result) starts c.whole.ensures.run);
    }

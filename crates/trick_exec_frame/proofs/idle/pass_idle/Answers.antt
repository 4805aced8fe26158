use Rattle.std.proofs.Common.{◌≡◌, ◌∙◌, ◌==◌, [], Bool, List, ap, length, refl, subst, sym, true}
use Rattle.trick_base.specs.Files.{Write}
use Rattle.trick_exec_posts.specs.declared.station.Station.{Station}
use Rattle.trick_eval.specs.Bench.{IsFor, Parts}
use Rattle.trick_phase_jobs.specs.Belongs.{IsMemoryOf}
use Rattle.trick_lang.specs.declared.class.Class.TheVariants as class
use Rattle.trick_model.specs.Order.{jobs_in}
use Rattle.trick_model.specs.Plan.{threads_beside}
use Rattle.trick_model.specs.PlanOf.{plan_of}
use Rattle.trick_model.specs.Running.{run_class}
use Rattle.trick_model.specs.State.{State, seen}
use Rattle.trick_model.specs.Tic.{frame}
use Rattle.trick_model.specs.declared.plan.Plan.{Plan}
use Rattle.trick_exec_frame.proofs.CourseLemmas.{class_goes, counted_goes}
use Rattle.trick_exec_frame.proofs.IdleLemmas.{idle_frame, idle_turn, no_threads}
use Rattle.trick_exec_frame.proofs.idle.pass_idle.Goals as goal
use Rattle.trick_exec_frame.specs.Pass.{Passed, passed, unasked}

-- what the turn comes to
turned : (g : _) (c : goal.After-count g) → (let s : State = seen g.M.Cells.numbers c.args.state.now in
    let after : State = seen g.M.Cells.numbers c.count.new.state in
    passed (plan_of c.args.accepted.now.plan) [] (unasked s) ≡ record { state = after; writes = [] })
turned g c =
    let plan = c.args.accepted.now.plan in
    let p = plan_of plan in
    let s : State = seen g.M.Cells.numbers c.args.state.now in
    let later : State = seen g.M.Cells.numbers c.skip.new.state in
    let bottom : State = seen g.M.Cells.numbers c.run_end_of_frame.new.state in
    let same = c.plan-plan.ensures.plan in
    let none : threads_beside p ≡ [] = no_threads p c.args.equipment.now.course.ends.stations c.requires.equipped.under_way.ready.ends.stations
    (c.if-not-is_empty.ensures ∙ ap (λ (stations : List Station). length stations == 0) c.stations.ensures) in
    let top : jobs_in p.jobs class.TopOfFrame ≡ [] =
    subst (λ (x : Plan). jobs_in x.program.jobs class.TopOfFrame ≡ []) same (c.if-has_jobs.ensures refl) in
    let idle : frame p (unasked s) ≡ idle_frame later =
    subst (λ (x : Plan). frame (plan_of x) (unasked s) ≡ idle_frame later) same (c.if-not-skip.ensures.frame refl (unasked s) refl) in
    let end : bottom ≡ run_class p class.EndOfFrame later =
    c.run_end_of_frame.ensures.ran ∙ ap (λ (x : Plan). run_class (plan_of x) class.EndOfFrame later) same in
    idle_turn p s later bottom (sym c.if-not-runs.ensures) top none idle end
    ∙ ap (λ (t : State). record { state = t; writes = [] }) (sym c.count.ensures.counted)

pub returns-clause-state : goal.returns-clause-state
unfolding turned
returns-clause-state g c = λ done. ap (λ (r : Passed). r.state) (sym (turned g c))

pub returns-clause-writes : goal.returns-clause-writes
returns-clause-writes g c = λ done. ap (λ (r : Passed). r.writes) (turned g c)

pub returns-clause-equipped : goal.returns-clause-equipped
returns-clause-equipped g c =
    let plan = c.args.accepted.now.plan in
    let course = c.args.equipment.now.course in
    let posts = g.P.Posts.in_flight c.args.posts.now in
    let later = c.skip.new.state in
    let bottom = c.run_end_of_frame.new.state in
    let last = c.count.new.state in
    let same = c.plan-plan.ensures.plan in
    let memory : IsMemoryOf plan.program (g.M.Cells.numbers bottom.memory) (g.M.Cells.scalars bottom.memory) =
    subst (λ (x : Plan). IsMemoryOf x.program (g.M.Cells.numbers bottom.memory) (g.M.Cells.scalars bottom.memory)) same c.run_end_of_frame.ensures.memory in
    let begin = c.args.state.now in
    let way = rw same at (c.if-not-skip.ensures.under_way posts (g.M.Cells.scalars begin.memory)) in
    record {
      under_way = counted_goes plan course posts (seen g.M.Cells.numbers bottom) (seen g.M.Cells.numbers last) (g.M.Cells.scalars bottom.memory)
          (g.M.Cells.scalars last.memory) c.count.ensures.counted (rw (sym c.count.ensures.memory) at memory)
          (class_goes plan course posts class.EndOfFrame (seen g.M.Cells.numbers later) (seen g.M.Cells.numbers bottom)
          (g.M.Cells.scalars begin.memory) (g.M.Cells.scalars bottom.memory) (c.plans_are_sound.ensures plan)
          (c.run_end_of_frame.ensures.ran ∙ ap (λ (x : Plan). run_class (plan_of x) class.EndOfFrame (seen g.M.Cells.numbers later)) same) memory
          (way c.requires.equipped.under_way));
      bench = subst (λ (parts : Parts). IsFor plan.program parts) (sym c.run_end_of_frame.ensures.bench) c.requires.equipped.bench;
    }

pub returns-clause-alone : goal.returns-clause-alone
returns-clause-alone g c = λ done.
    no_threads (plan_of c.args.accepted.now.plan) c.args.equipment.now.course.ends.stations c.requires.equipped.under_way.ready.ends.stations
    (c.if-not-is_empty.ensures ∙ ap (λ (stations : List Station). length stations == 0) c.stations.ensures)

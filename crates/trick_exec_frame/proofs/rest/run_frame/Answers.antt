use Rattle.std.proofs.Common.{◌∙◌, ap, subst, sym}
use Rattle.trick_exec_posts.proofs.Loops.{asks_then}
use Rattle.trick_eval.specs.Bench.{IsFor, Parts}
use Rattle.trick_phase_jobs.specs.Belongs.{IsMemoryOf}
use Rattle.trick_lang.specs.declared.class.Class.TheVariants as class
use Rattle.trick_model.specs.PlanOf.{plan_of}
use Rattle.trick_model.specs.Running.{run_class}
use Rattle.trick_model.specs.State.{seen}
use Rattle.trick_model.specs.Turn.{frozen}
use Rattle.trick_model.specs.declared.plan.Plan.{Plan}
use Rattle.trick_exec_frame.proofs.CourseLemmas.{class_goes, frozen_goes, published_goes}
use Rattle.trick_exec_frame.proofs.rest.run_frame.Goals as goal

pub frame-requires-clause-under_way : goal.frame-requires-clause-under_way
frame-requires-clause-under_way g c =
    let plan = c.args.accepted.now.plan in
    let course = c.args.equipment.now.course in
    let start = c.args.rest.current.state in
    let shown = c.publish_all.new.state in
    let top = c.run_class.new.state in
    let posts = g.P.Posts.in_flight c.publish_all.new.posts in
    class_goes plan course posts class.TopOfFrame (seen g.M.Cells.numbers shown) (seen g.M.Cells.numbers top)
    (g.M.Cells.scalars shown.memory) (g.M.Cells.scalars top.memory) (c.plans_are_sound.ensures plan)
    (c.run_class.ensures.ran ∙ ap (λ (x : Plan). run_class (plan_of x) class.TopOfFrame (seen g.M.Cells.numbers shown)) c.plan-plan.ensures.plan)
    (subst (λ (x : Plan). IsMemoryOf x.program (g.M.Cells.numbers top.memory) (g.M.Cells.scalars top.memory)) c.plan-plan.ensures.plan c.run_class.ensures.memory)
    (published_goes plan (g.P.Posts.plan c.args.workers.now.posts) (g.P.Posts.plan c.publish_all.new.posts) course
    (g.P.Posts.in_flight c.args.workers.now.posts) posts c.args.rest.publications.now (seen g.M.Cells.numbers start) (seen g.M.Cells.numbers shown)
    (g.M.Cells.scalars start.memory) (g.M.Cells.scalars shown.memory) c.requires.posts c.publish_all.ensures.asks.plan c.publish_all.ensures.state
    c.publish_all.ensures.goes c.requires.equipped.under_way)

pub returns-in_err-frame-clause-asks : goal.returns-in_err-frame-clause-asks
returns-in_err-frame-clause-asks g c = asks_then g.met.P.Posts.asked_join c.publish_all.ensures.asks c.frame.ensures.asks

pub returns-clause-asks : goal.returns-clause-asks
returns-clause-asks g c = asks_then g.met.P.Posts.asked_join c.publish_all.ensures.asks c.frame.ensures.asks

pub returns-clause-equipped : goal.returns-clause-equipped
returns-clause-equipped g c =
    let plan = c.args.accepted.now.plan in
    let course = c.frame.new.course in
    let posts = g.P.Posts.in_flight c.frame.new.workers.posts in
    let ran = c.frame.new.current in
    let bottom = c.run_class-2.new.state in
    let last = c.freeze_if_asked.new.state in
    let sound = c.plans_are_sound.ensures plan in
    record {
      under_way = frozen_goes plan course posts ran.asked.freeze (seen g.M.Cells.numbers bottom) (seen g.M.Cells.numbers last)
          (g.M.Cells.scalars bottom.memory) (g.M.Cells.scalars last.memory) sound
          (c.freeze_if_asked.ensures.frozen ∙ ap (λ (x : Plan). frozen (plan_of x) ran.asked.freeze (seen g.M.Cells.numbers bottom)) c.plan-plan.ensures.plan)
          (subst (λ (x : Plan). IsMemoryOf x.program (g.M.Cells.numbers last.memory) (g.M.Cells.scalars last.memory)) c.plan-plan.ensures.plan c.freeze_if_asked.ensures.memory)
          (class_goes plan course posts class.EndOfFrame (seen g.M.Cells.numbers ran.state) (seen g.M.Cells.numbers bottom)
          (g.M.Cells.scalars ran.state.memory) (g.M.Cells.scalars bottom.memory) sound
          (c.run_class-2.ensures.ran ∙ ap (λ (x : Plan). run_class (plan_of x) class.EndOfFrame (seen g.M.Cells.numbers ran.state)) c.plan-plan.ensures.plan)
          (subst (λ (x : Plan). IsMemoryOf x.program (g.M.Cells.numbers bottom.memory) (g.M.Cells.scalars bottom.memory)) c.plan-plan.ensures.plan c.run_class-2.ensures.memory)
          c.in_ok-frame.ensures.under_way);
      bench = subst (λ (parts : Parts). IsFor plan.program parts)
          (sym (c.freeze_if_asked.ensures.bench ∙ c.run_class-2.ensures.bench ∙ c.run_class.ensures.bench)) c.requires.equipped.bench;
    }

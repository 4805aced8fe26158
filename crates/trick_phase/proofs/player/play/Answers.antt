use Rattle.std.proofs.Common.{◌≡◌, ◌∙◌, ◌<◌, ◌≤◌, List, ap, arith, length, subst, sym, take}
use Rattle.std.proofs.lemmas.List.{take_all, take_more}
use Rattle.std.specs.List.{slice_index_or}
use Rattle.trick_model.specs.Order.{jobs_at}
use Rattle.trick_model.specs.PlanOf.{plan_of}
use Rattle.trick_model.specs.Valid.{ids}
use Rattle.trick_model.specs.declared.plan.Plan.{Plan as PlanValue}
use Rattle.trick_phase.proofs.Follows.{Laws}
use Rattle.trick_phase.proofs.Plays.{GoesOn, done_is, goes_start, left_is, step_at_self, step_done, wrong_here}
use Rattle.trick_phase_schedules.specs.declared.step.Step.{Step}
use Rattle.trick_phase_schedules.specs.declared.step.Step.TheVariants.{Take}
use Rattle.trick_phase.proofs.player.play.Goals as goal

abbrev no_step : Step
no_step = Take (record { 0 = 0 })

pub open-requires-clause-due : goal.open-requires-clause-due
open-requires-clause-due g c =
    ap ids c.deref.ensures.value ∙ c.in_ok-due.ensures c.args.on.now
    ∙ ap (λ (p : PlanValue). jobs_at (plan_of p) c.args.on.now c.args.tic) c.plan-plan.ensures.plan

pub loop-at-init : goal.loop-at-init
loop-at-init g c =
    let plan = c.args.accepted.now.plan in
    let laws : Laws = record { keys = c.key_order_is_one.ensures; settled = c.due_jobs_are_settled.ensures; same = c.frame_law.ensures; within = c.write_law.ensures } in
    record {
      goes = goes_start laws plan c.args.accepted.now.accepted c.args.on.now c.args.tic (g.M.Cells.numbers c.args.memory) c.open.new.self c.in_ok-benches.benches.items
          c.open.ensures.opened c.in_ok-benches.ensures.many
          c.in_ok-benches.ensures.own
          c.in_ok-benches.ensures.empty;
      belongs = c.open.ensures.belongs;
    }

pub returns-then-not-go : goal.returns-then-not-go
returns-then-not-go g c =
    let plan = c.args.accepted.now.plan in
    let steps = c.args.steps.now in
    let at_ = c.loop-at.at in
    let x = slice_index_or steps at_ no_step in
    let less : at_ < length steps = omega arith in
    let laws : Laws = record { keys = c.key_order_is_one.ensures; settled = c.due_jobs_are_settled.ensures; same = c.frame_law.ensures; within = c.write_law.ensures } in
    wrong_here laws plan c.args.accepted.now.accepted c.args.on.now c.args.tic (g.M.Cells.numbers c.args.memory) steps at_ x c.loop-at.board c.go.new.board
    c.loop-at.benches.items c.go.new.benches.items less (step_at_self steps at_ no_step) c.loop-at.invariant.goes c.if-not-go.ensures.goes

pub loop-at-preserved : goal.loop-at-preserved
loop-at-preserved g c =
    let plan = c.args.accepted.now.plan in
    let steps = c.args.steps.now in
    let at_ = c.loop-at.at in
    let x = slice_index_or steps at_ no_step in
    let first = g.M.Cells.numbers c.args.memory in
    let less : at_ < length steps = omega arith in
    let laws : Laws = record { keys = c.key_order_is_one.ensures; settled = c.due_jobs_are_settled.ensures; same = c.frame_law.ensures; within = c.write_law.ensures } in
    record {
      goes = subst (λ (l : List Step). GoesOn plan c.args.on.now c.args.tic first l c.go.new.board c.go.new.benches.items) (sym (take_more steps at_ no_step less))
          (step_done laws plan c.args.accepted.now.accepted c.args.on.now c.args.tic first (take at_ steps) c.loop-at.board c.go.new.board
          c.loop-at.benches.items c.go.new.benches.items x c.loop-at.invariant.goes c.if-not-go.ensures.goes);
      belongs = c.go.ensures.belongs;
    }

pub returns-in-Memory : goal.returns-in-Memory
returns-in-Memory g c =
    let plan = c.args.accepted.now.plan in
    let steps = c.args.steps.now in
    let first = g.M.Cells.numbers c.args.memory in
    let end : length steps ≤ c.loop-at.at = omega arith in
    let all : take c.loop-at.at steps ≡ steps = take_all c.loop-at.at steps end in
    let laws : Laws = record { keys = c.key_order_is_one.ensures; settled = c.due_jobs_are_settled.ensures; same = c.frame_law.ensures; within = c.write_law.ensures } in
    let goes = subst (λ (l : List Step). GoesOn plan c.args.on.now c.args.tic first l c.loop-at.board c.loop-at.benches.items) all c.loop-at.invariant.goes in
    done_is laws plan c.args.accepted.now.accepted c.args.on.now c.args.tic first steps c.loop-at.board c.loop-at.benches.items goes c.loop-at.invariant.belongs
    (g.M.Cells.numbers c.in-Memory.memory) c.in_ok-faults.faults c.close.new.faults c.in-Memory.ensures.count
    (c.in-Memory.ensures.serial plan c.args.accepted.now.accepted c.loop-at.invariant.belongs first steps) c.in_ok-faults.ensures

pub returns : goal.returns
returns g c =
    let plan = c.args.accepted.now.plan in
    let steps = c.args.steps.now in
    let first = g.M.Cells.numbers c.args.memory in
    let end : length steps ≤ c.loop-at.at = omega arith in
    let all : take c.loop-at.at steps ≡ steps = take_all c.loop-at.at steps end in
    let laws : Laws = record { keys = c.key_order_is_one.ensures; settled = c.due_jobs_are_settled.ensures; same = c.frame_law.ensures; within = c.write_law.ensures } in
    let goes = subst (λ (l : List Step). GoesOn plan c.args.on.now c.args.tic first l c.loop-at.board c.loop-at.benches.items) all c.loop-at.invariant.goes in
    left_is laws plan c.args.accepted.now.accepted c.args.on.now c.args.tic first steps c.loop-at.board c.loop-at.benches.items goes c.loop-at.invariant.belongs
    c.in-Left.count c.in-Left.ensures.count

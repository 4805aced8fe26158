use Rattle.std.proofs.Common.{rules, ◌≡◌, ◌∙◌, ◌<◌, ap, arith, length, subst, sym}
use Rattle.std.specs.Arc.{arc_value}
use Rattle.std.specs.List.{slice_index_or}
use Rattle.std.specs.Option.{option_map}
use Rattle.trick_model.specs.declared.accepted.Accepted.{Accepted}
use Rattle.trick_model.specs.declared.plan.Plan.{Plan as PlanValue}
use Rattle.trick_post_trays.proofs.Finish.{handed}
use Rattle.trick_post_trays.proofs.OneTrays.{set_here, set_other, started_there}
use Rattle.trick_post_trays.proofs.Trays.{tray_set}
use Rattle.trick_post_trays.specs.Trays.{IsTrayOf, IsWorkerOf}
use Rattle.trick_post_trays.specs.declared.tray.Tray.{Tray}
use Rattle.trick_post_trays.proofs.one_post.OnePostPosts.finish.Goals as goal

pub finish-requires-clause-tray : goal.finish-requires-clause-tray
finish-requires-clause-tray g c =
    let plan = (arc_value c.args.self.now.accepted).plan in
    let there : c.args.thread < length c.args.self.now.trays.items = started_there c.args.self.now.trays.items c.args.thread c.requires.started in
    let many : length c.args.self.now.trays.items ≡ 16 = c.args.self.now.parts.trays_are.many in
    let plan_is : c.plan-plan.result.now ≡ plan = c.plan-plan.ensures.plan ∙ ap (λ (a : Accepted). a.plan) c.deref.ensures in
    let h = c.index_mut-tray.ensures.value in
    let at_ : slice_index_or c.args.self.now.trays.items c.args.thread c.index_mut-tray.result.now ≡ c.index_mut-tray.result.now = search (rules, h) in
    subst (λ (p : PlanValue). IsTrayOf p c.index_mut-tray.result.now) (sym plan_is)
    (subst (IsTrayOf plan) at_ (c.args.self.now.parts.trays_are.right c.args.thread c.index_mut-tray.result.now (omega arith)))

pub invariant_of-self : goal.invariant_of-self
invariant_of-self g c =
    let plan = (arc_value c.args.self.now.accepted).plan in
    let there : c.args.thread < length c.args.self.now.trays.items = started_there c.args.self.now.trays.items c.args.thread c.requires.started in
    let many : length c.args.self.now.trays.items ≡ 16 = c.args.self.now.parts.trays_are.many in
    let plan_is : c.plan-plan.result.now ≡ plan = c.plan-plan.ensures.plan ∙ ap (λ (a : Accepted). a.plan) c.deref.ensures in
    let h = c.index_mut-tray.ensures.value in
    let at_ : slice_index_or c.args.self.now.trays.items c.args.thread c.index_mut-tray.result.now ≡ c.index_mut-tray.result.now = search (rules, h) in
    let number : c.index_mut-tray.result.now.number ≡ c.args.thread =
    ap (λ (t : Tray). t.number) (sym at_) ∙ c.args.self.now.parts.trays_are.numbers c.args.thread c.index_mut-tray.result.now (omega arith) in
    record {
      parts = record {
        trays_are = tray_set plan c.args.self.now.trays.items c.args.thread c.finish.new.tray c.args.self.now.parts.trays_are
            (subst (λ (p : PlanValue). IsTrayOf p c.finish.new.tray) plan_is c.finish.ensures.tray) (c.finish.ensures.number ∙ number);
        worker_is = subst (λ (p : PlanValue). IsWorkerOf p c.finish.new.self) plan_is c.finish.ensures.own;
      };
    }

pub returns-clause-finished : goal.returns-clause-finished
returns-clause-finished g c =
    let there : c.args.thread < length c.args.self.now.trays.items = started_there c.args.self.now.trays.items c.args.thread c.requires.started in
    set_here c.args.self.now.trays.items c.args.thread c.finish.new.tray there
    ∙ ap (option_map (handed c.finish.new.tray.cells.items c.finish.new.tray.on.items)) c.finish.ensures.emptied

pub returns-clause-others : goal.returns-clause-others
returns-clause-others g c = λ n ne. set_other c.args.self.now.trays.items c.args.thread n c.finish.new.tray ne

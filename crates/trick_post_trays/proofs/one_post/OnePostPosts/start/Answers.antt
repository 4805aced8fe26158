use Rattle.std.proofs.Common.{rules, ◌≡◌, ◌∙◌, ◌<◌, ap, arith, length, subst, sym}
use Rattle.std.specs.Arc.{arc_value}
use Rattle.std.specs.List.{slice_index_or}
use Rattle.trick_model.specs.PlanOf.{plan_of}
use Rattle.trick_model.specs.declared.accepted.Accepted.{Accepted}
use Rattle.trick_model.specs.declared.plan.Plan.{Plan as PlanValue}
use Rattle.trick_post_trays.proofs.OneTrays.{set_here, set_other}
use Rattle.trick_post_trays.proofs.Trays.{thread_small, tray_set}
use Rattle.trick_post_trays.specs.Trays.{IsTrayOf}
use Rattle.trick_post_trays.specs.declared.tray.Tray.{Tray}
use Rattle.trick_post_work.specs.Work.{CanStart}
use Rattle.trick_post_trays.proofs.one_post.OnePostPosts.start.Goals as goal

pub index_mut-requires : goal.index_mut-requires
index_mut-requires c =
    let plan = (arc_value c.args.self.now.accepted).plan in
    let less : c.args.thread < 16 = thread_small plan c.args.thread c.args.taken.now c.args.work c.requires.right in
    let many : length c.args.self.now.trays.items ≡ 16 = c.args.self.now.parts.trays_are.many in
    let there : c.args.thread < length c.args.self.now.trays.items = omega arith in
    search (rules, there)

pub put-requires-clause-own : goal.put-requires-clause-own
put-requires-clause-own c =
    let plan = (arc_value c.args.self.now.accepted).plan in
    let less : c.args.thread < 16 = thread_small plan c.args.thread c.args.taken.now c.args.work c.requires.right in
    let plan_is : c.plan-plan.result.now ≡ plan = c.plan-plan.ensures.plan ∙ ap (λ (a : Accepted). a.plan) c.deref.ensures in
    let h = c.index_mut.ensures.value in
    let at_ : slice_index_or c.args.self.now.trays.items c.args.thread c.index_mut.result.now ≡ c.index_mut.result.now = search (rules, h) in
    subst (λ (p : PlanValue). IsTrayOf p c.index_mut.result.now) (sym plan_is)
    (subst (IsTrayOf plan) at_ (c.args.self.now.parts.trays_are.right c.args.thread c.index_mut.result.now less))

pub put-requires-clause-right : goal.put-requires-clause-right
put-requires-clause-right c =
    let plan = (arc_value c.args.self.now.accepted).plan in
    let less : c.args.thread < 16 = thread_small plan c.args.thread c.args.taken.now c.args.work c.requires.right in
    let plan_is : c.plan-plan.result.now ≡ plan = c.plan-plan.ensures.plan ∙ ap (λ (a : Accepted). a.plan) c.deref.ensures in
    let h = c.index_mut.ensures.value in
    let at_ : slice_index_or c.args.self.now.trays.items c.args.thread c.index_mut.result.now ≡ c.index_mut.result.now = search (rules, h) in
    let number : c.index_mut.result.now.number ≡ c.args.thread =
    ap (λ (t : Tray). t.number) (sym at_) ∙ c.args.self.now.parts.trays_are.numbers c.args.thread c.index_mut.result.now less in
    subst (λ (p : PlanValue). CanStart (plan_of p) c.index_mut.result.now.number c.args.taken.now c.args.work) (sym plan_is)
    (subst (λ n. CanStart (plan_of plan) n c.args.taken.now c.args.work) (sym number) c.requires.right)

pub invariant_of-self : goal.invariant_of-self
invariant_of-self c =
    let plan = (arc_value c.args.self.now.accepted).plan in
    let less : c.args.thread < 16 = thread_small plan c.args.thread c.args.taken.now c.args.work c.requires.right in
    let plan_is : c.plan-plan.result.now ≡ plan = c.plan-plan.ensures.plan ∙ ap (λ (a : Accepted). a.plan) c.deref.ensures in
    let h = c.index_mut.ensures.value in
    let at_ : slice_index_or c.args.self.now.trays.items c.args.thread c.index_mut.result.now ≡ c.index_mut.result.now = search (rules, h) in
    let number : c.index_mut.result.now.number ≡ c.args.thread =
    ap (λ (t : Tray). t.number) (sym at_) ∙ c.args.self.now.parts.trays_are.numbers c.args.thread c.index_mut.result.now less in
    record {
      parts = record {
        trays_are = tray_set plan c.args.self.now.trays.items c.args.thread c.put.new.self c.args.self.now.parts.trays_are
            (subst (λ (p : PlanValue). IsTrayOf p c.put.new.self) plan_is c.put.ensures.own) (c.put.ensures.number ∙ number);
        worker_is = c.args.self.now.parts.worker_is;
      };
    }

pub returns-clause-started : goal.returns-clause-started
returns-clause-started c =
    let plan = (arc_value c.args.self.now.accepted).plan in
    let less : c.args.thread < 16 = thread_small plan c.args.thread c.args.taken.now c.args.work c.requires.right in
    let many : length c.args.self.now.trays.items ≡ 16 = c.args.self.now.parts.trays_are.many in
    set_here c.args.self.now.trays.items c.args.thread c.put.new.self (omega arith) ∙ c.put.ensures.held

pub returns-clause-others : goal.returns-clause-others
returns-clause-others c = λ n ne. set_other c.args.self.now.trays.items c.args.thread n c.put.new.self ne

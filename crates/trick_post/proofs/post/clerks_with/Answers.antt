use Rattle.std.proofs.Common.{rules, ◌≡◌, ◌∙◌, ◌+◌, ◌<◌, ap, drop, length, subst, sym}
use Rattle.std.specs.Arc.{arc_value}
use Rattle.std.specs.List.{slice_index_or}
use Rattle.trick_post.proofs.Clerks.{clerk_more, no_clerk, passes_left, some_pass}
use Rattle.trick_post.specs.Clerks.{AreClerkPasses, has_clerk}
use Rattle.trick_post.specs.declared.clerk.Clerk.{Clerk}
use Rattle.trick_model.specs.declared.accepted.Accepted.{Accepted}
use Rattle.trick_model.specs.declared.plan.Plan.{Plan as PlanValue}
use Rattle.trick_post.proofs.post.clerks_with.Goals as goal
use Rattle.trick_post.proofs.post.clerks_with.Goals.{then-has_clerk+in_ok-new+in_ok-push, else-has_clerk}

pub remove-pass-requires : goal.remove-pass-requires
remove-pass-requires g c =
    let some : 0 < length c.loop-number.passes.items =
    some_pass (arc_value c.args.lock.now) c.args.numbers.now c.loop-number.number-index c.loop-number.passes.items c.loop-number-test.true c.loop-number.invariant.passes in
    search (rules, some)

pub loop-number-preserved : goal.loop-number-preserved
loop-number-preserved g c =
    let ns = c.args.numbers.now in
    let i = c.loop-number.number-index in
    let inv = c.loop-number.invariant in
    let lock = arc_value c.args.lock.now in
    let accepted = arc_value c.args.held.now.accepted in
    let number = slice_index_or ns i 0 in
    let thread_of = λ (k : Clerk g.row.P.Denot g.P.Planned). k.thread in
    let lock_of = λ (k : Clerk g.row.P.Denot g.P.Planned). arc_value k.lock in
    let plan_of = λ (k : Clerk g.row.P.Denot g.P.Planned). arc_value k.held.accepted in
    let test : c.has_clerk.result ≡ has_clerk accepted.plan number =
    c.has_clerk.ensures ∙ ap (λ (p : PlanValue). has_clerk p number) (c.plan.ensures.plan ∙ ap (λ (a : Accepted). a.plan) c.deref.ensures) in
    let left : AreClerkPasses lock (drop (i + 1) ns) c.remove-pass.new.self.items =
    subst (λ passes. AreClerkPasses lock (drop (i + 1) ns) passes) (sym c.remove-pass.ensures.items)
    (passes_left lock ns i c.loop-number.passes.items c.loop-number-test.true inv.passes) in
    elim c.if-has_clerk.branch [
      | then-has_clerk+in_ok-new+in_ok-push w ↦
          let made = w.in_ok-new.ensures in
          let are = clerk_more thread_of lock_of plan_of lock accepted (has_clerk accepted.plan) ns i c.loop-number.clerks.items c.if-has_clerk.clerks.items w.in_ok-new.field-0
          c.loop-number-test.true (record { threads = inv.threads; locks = inv.lock; plans = inv.plan })
          ((λ j. (w.clerks-is j).items) ∙ w.in_ok-push.ensures.items) made.thread made.lock made.plan (sym test ∙ w.if-has_clerk.true) in
          record { threads = are.threads; lock = are.locks; plan = are.plans; passes = left }
      | else-has_clerk w ↦
          let are = no_clerk thread_of lock_of plan_of lock accepted (has_clerk accepted.plan) ns i c.loop-number.clerks.items c.if-has_clerk.clerks.items
          c.loop-number-test.true (record { threads = inv.threads; locks = inv.lock; plans = inv.plan })
          (λ j. (w.clerks-is j).items) (sym test ∙ w.if-has_clerk.false) in
          record { threads = are.threads; lock = are.locks; plan = are.plans; passes = left }
    ]

use Rattle.std.proofs.Common.{◌≡◌, ◌∙◌, ℕ, ◌+◌, ◌-◌, List, Some, None, ap, arith, length, sym, subst}
use Rattle.std.specs.Prelude.{cond, min, nat_lt}
use Rattle.trick_cycle.specs.Least.{FindsLeast}
use Rattle.trick_event.proofs.NextDue.{finds_least}
use Rattle.trick_event.proofs.agenda.Agenda.next.Goals as goal
use Rattle.trick_event.proofs.agenda.Agenda.next.Goals.{then-self-from, else-self-from}
use Rattle.trick_event.specs.Due.{AgendaView, AreLeft, IsNextEvent, IsStirred}
use Rattle.trick_event.specs.declared.agenda.Agenda.TheInside.{Inside}
use Rattle.trick_model.specs.PlanOf.{plan_of}
use Rattle.trick_model.specs.declared.event.Event.{Event}
use Rattle.trick_model.specs.declared.read_at.ReadAt.{ReadAt}
use Rattle.trick_queue.specs.Tree.{never}

pub returns-clause-next : goal.returns-clause-next
returns-clause-next c s same =
    let plan = c.args.plan.now in
    let read = c.least-read.result in
    let event = c.next_event-event.result in
    let tics = c.if-self-from.self-inside.reads in
    let left : AreLeft c.args.from plan.reads tics = elim c.if-self-from.branch [
      | then-self-from w ↦
          let one : c.args.from - 1 + 1 ≡ c.args.from = omega (arith, w.if-self-from.true) in
          let passed : AreLeft c.args.from plan.reads w.pass.new.tics =
          subst (λ (n : ℕ). AreLeft n plan.reads w.pass.new.tics) one
          (subst (λ (reads : List ReadAt). AreLeft (c.args.from - 1 + 1) reads w.pass.new.tics) w.as_slice.ensures w.pass.ensures) in
          subst (λ (i : Inside). AreLeft c.args.from plan.reads i.reads) (sym w.self-inside-is) passed
      | else-self-from w ↦
          let view = c.self.view_is in
          let own : AreLeft c.self.inside.from plan.reads c.self.inside.reads =
          subst (λ (v : AgendaView). AreLeft v.from plan.reads v.reads) (sym view) c.requires.own in
          let from : c.self.inside.from ≡ c.args.self.now.from = ap (λ (v : AgendaView). v.from) view in
          let same_from : c.self.inside.from ≡ c.args.from = omega (arith, from, w.if-self-from.false, c.requires.from) in
          subst (λ (i : Inside). AreLeft c.args.from plan.reads i.reads) (sym w.self-inside-is)
          (subst (λ (n : ℕ). AreLeft n plan.reads c.self.inside.reads) same_from own)
    ] in
    let next : IsNextEvent plan.events c.args.events.now c.args.from (length plan.events) event =
    subst (λ (es : List Event). IsNextEvent es c.args.events.now c.args.from (length es) event) c.as_slice-2.ensures c.next_event-event.ensures in
    let is : c.known.result ≡ cond (nat_lt (min read event) never) (Some (min read event)) None =
    c.known.ensures ∙ ap (λ (n : ℕ). cond (nat_lt n never) (Some n) None) c.min.ensures in
    subst (FindsLeast (IsStirred (plan_of plan) s c.args.from)) (sym is)
    (finds_least plan c.args.events.now s tics c.args.from read event same left c.least-read.ensures next)

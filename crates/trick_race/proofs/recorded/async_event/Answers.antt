use Rattle.std.proofs.Common.{◌≡◌, ◌<◌, length, get_or}
use Rattle.std.proofs.Common.{List, ap, ◌∙◌, arith}
use Rattle.trick_model.specs.Acceptance.{IsDecidable}
use Rattle.trick_model.specs.Condition.{condition_reads}
use Rattle.trick_model.specs.PlanOf.{event_of, plan_of}
use Rattle.trick_model.specs.declared.event.Event.{Event as EventValue}
use Rattle.trick_race.proofs.Firsts.{first_at, one_more_at}
use Rattle.trick_race.proofs.Touching.{event_at, event_fine, event_not, events_there}
use Rattle.trick_race.specs.Accesses.{has_some}
use Rattle.trick_race.proofs.recorded.async_event.Goals as goal

pub loop-number-preserved : goal.loop-number-preserved
loop-number-preserved c =
    let p = plan_of c.args.plan.now in
    let item = c.index-events-number.result in
    let is : item ≡ get_or c.args.plan.now.events c.loop-number.number item =
    c.index-events-number.is ∙ ap (λ (es : List EventValue). get_or es c.loop-number.number item)
    c.as_slice-events.ensures in
    let told : c.condition_reads_some.result ≡ has_some c.args.reach.now (condition_reads item.condition) = cc in
    one_more_at (IsDecidable p) p.events c.loop-number.number (event_of item)
    (event_at c.args.plan.now.events c.loop-number.number item (omega arith) is)
    (event_fine p c.args.reach.now (event_of item) c.condition_reads_some.result c.requires told
    c.if-condition_reads_some.false) c.loop-number.invariant

pub returns-then-condition_reads_some : goal.returns-then-condition_reads_some
returns-then-condition_reads_some c =
    let p = plan_of c.args.plan.now in
    let item = c.index-events-number.result in
    let is : item ≡ get_or c.args.plan.now.events c.loop-number.number item =
    c.index-events-number.is ∙ ap (λ (es : List EventValue). get_or es c.loop-number.number item)
    c.as_slice-events.ensures in
    let told : c.condition_reads_some.result ≡ has_some c.args.reach.now (condition_reads item.condition) = cc in
    let there : c.loop-number.number < length c.args.plan.now.events = omega arith in (
      event_of item,
      first_at (IsDecidable p) p.events c.loop-number.number (event_of item)
          (events_there c.args.plan.now.events c.loop-number.number there)
          (event_at c.args.plan.now.events c.loop-number.number item there is)
          (event_not p c.args.reach.now (event_of item) c.condition_reads_some.result c.requires told
          c.if-condition_reads_some.true) c.loop-number.invariant,
    )

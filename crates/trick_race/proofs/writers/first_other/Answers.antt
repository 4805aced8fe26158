use Rattle.std.proofs.Common.{◌≡◌, ◌<◌, Bool, List, length, ap, ◌∙◌, arith}
use Rattle.trick_model.specs.Acceptance.{IsWrittenOnce, may_write_on}
use Rattle.trick_model.specs.PlanOf.{plan_of}
use Rattle.trick_model.specs.declared.thread.Thread.{Thread}
use Rattle.trick_race.proofs.Firsts.{first_at, one_more_at}
use Rattle.trick_race.proofs.Writing.{of_once, once_of}
use Rattle.trick_race.specs.Accesses.{has}
use Rattle.trick_race.proofs.writers.first_other.Goals as goal

pub loop-place-preserved : goal.loop-place-preserved
loop-place-preserved c =
    let p = plan_of c.args.plan.now in
    let place = c.loop-place.place in
    let cell = c.args.cell in
    let other = c.thread_at-other.result in
    let size = c.len-place-end.ensures in
    let there : place < length c.args.plan.now.threads = omega arith in
    let other_writes : c.has.result ≡ may_write_on p other cell =
    c.has.ensures ∙ ap (λ (s : List Bool). has s cell) c.index-sets-place.is
    ∙ c.requires.sets.exact place other c.index-sets-place.result cell there
    ∙ ap (λ (t : Thread). may_write_on p t cell) (c.thread_at-other.ensures other) in
    one_more_at (λ other. IsWrittenOnce p c.args.thread other cell) c.args.plan.now.threads place other
    c.thread_at-other.ensures
    (once_of p c.args.thread other cell c.args.writes c.has.result c.requires.writes other_writes
    (c.is_written_once.ensures.0 c.if-not-is_written_once.false))
    c.loop-place.invariant

pub returns-then-not-is_written_once : goal.returns-then-not-is_written_once
returns-then-not-is_written_once c =
    let p = plan_of c.args.plan.now in
    let place = c.loop-place.place in
    let cell = c.args.cell in
    let other = c.thread_at-other.result in
    let size = c.len-place-end.ensures in
    let there : place < length c.args.plan.now.threads = omega arith in
    let other_writes : c.has.result ≡ may_write_on p other cell =
    c.has.ensures ∙ ap (λ (s : List Bool). has s cell) c.index-sets-place.is
    ∙ c.requires.sets.exact place other c.index-sets-place.result cell there
    ∙ ap (λ (t : Thread). may_write_on p t cell) (c.thread_at-other.ensures other) in (
      place,
      first_at (λ other. IsWrittenOnce p c.args.thread other cell) c.args.plan.now.threads place other there
          c.thread_at-other.ensures
          (λ once. let h = c.is_written_once.ensures.1
          (of_once p c.args.thread other cell c.args.writes c.has.result c.requires.writes other_writes once) in
          let out = c.if-not-is_written_once.true in cc)
          c.loop-place.invariant,
    )

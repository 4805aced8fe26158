use Rattle.std.proofs.Common.{◌<◌, Bool, List, length, ap, ◌∙◌, arith}
use Rattle.trick_model.specs.Acceptance.{IsWrittenOnce, may_write_on}
use Rattle.trick_model.specs.PlanOf.{plan_of}
use Rattle.trick_model.specs.declared.thread.Thread.{Thread}
use Rattle.trick_race.proofs.Firsts.{first_at, not_all, one_more_at}
use Rattle.trick_race.specs.Accesses.{has}
use Rattle.trick_race.specs.Refusals.{IsOnlyWriter}
use Rattle.trick_race.proofs.writers.first_two.Goals as goal

pub first_other-requires : goal.first_other-requires
first_other-requires c =
    let p = plan_of c.args.plan.now in
    let place = c.loop-place.place in
    let thread = c.thread_at-thread.result in
    let size = c.len-place-end.ensures in
    let there : place < length c.args.plan.now.threads = omega arith in
    record {
      sets = c.requires;
      writes = c.has.ensures ∙ ap (λ (s : List Bool). has s c.args.cell) c.index-sets-place.is
          ∙ c.requires.exact place thread c.index-sets-place.result c.args.cell there
          ∙ ap (λ (t : Thread). may_write_on p t c.args.cell) (c.thread_at-thread.ensures thread);
    }

pub loop-place-preserved : goal.loop-place-preserved
loop-place-preserved c =
    one_more_at (IsOnlyWriter (plan_of c.args.plan.now) c.args.cell) c.args.plan.now.threads c.loop-place.place
    c.thread_at-thread.result
    c.thread_at-thread.ensures c.in_default.ensures c.loop-place.invariant

pub returns-in-Some : goal.returns-in-Some
returns-in-Some c =
    let p = plan_of c.args.plan.now in
    let threads = c.args.plan.now.threads in
    let thread = c.thread_at-thread.result in
    let size = c.len-place-end.ensures in
    let there : c.loop-place.place < length threads = omega arith in
    record {
      first_thread = (
        c.loop-place.place,
        first_at
            (IsOnlyWriter p c.args.cell) threads c.loop-place.place thread there c.thread_at-thread.ensures
            (not_all (λ other. IsWrittenOnce p thread other c.args.cell) threads c.in-Some.other c.in-Some.ensures)
            c.loop-place.invariant,
      );
      first_other = c.in-Some.ensures;
    }

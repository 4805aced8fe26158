use Rattle.std.proofs.Common.{◌≡◌, ◌+◌, ◌∙◌, ap, arith, length, subst, sym}
use Rattle.std.proofs.lemmas.List.{length-set}
use Rattle.trick_cycle.specs.declared.Due.{Due}
use Rattle.trick_queue.proofs.Passing.{next_more}
use Rattle.trick_queue.specs.Calendar.{IsNext}
use Rattle.trick_queue.specs.Line.{AreNext, id_at, times_at}
use Rattle.trick_queue.proofs.line.fill.Goals as goal

pub loop-place-preserved : goal.loop-place-preserved
loop-place-preserved c =
    let pj = c.args.plan.now.program.jobs in
    let jobs = c.args.jobs.now in
    let tics = c.loop-place.tics in
    let place = c.loop-place.place in
    let t = c.next_of.result in
    let times_is : c.times-times.result ≡ times_at pj (id_at jobs place) = c.times-times.ensures.times ∙ ap (times_at pj) c.job_of.ensures in
    record {
      as_many = ap length c.set.ensures ∙ length-set tics place t ∙ c.loop-place.invariant.as_many;
      next = subst (λ ts. AreNext pj jobs ts c.args.from 0 (place + 1)) (sym c.set.ensures)
          (next_more pj jobs tics c.args.from place t (place + 1) (omega (arith, c.loop-place.invariant.as_many))
          (subst (λ (d : Due). IsNext d c.args.from t) times_is c.next_of.ensures)
          (λ k ne last. c.loop-place.invariant.next k (omega arith) (omega arith)));
    }

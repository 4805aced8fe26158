use Rattle.std.proofs.Common.{◌∙◌, append-nil, refl, sym}
use Rattle.trick_crew_clerks.proofs.Serving.{errands_more}
use Rattle.trick_crew_clerks.proofs.shift.serve.Goals as goal
use Rattle.trick_post_places.specs.declared.picked.Picked.TheVariants as picked
use Rattle.trick_turn.specs.Passes.{own}

pub loop-init : goal.loop-init
loop-init g c = (tt, tt, refl, refl, (0, sym (append-nil (own c.args.clerk.now.pass))))

pub loop-preserved : goal.loop-preserved
loop-preserved g c =
    let so_far = c.loop.invariant.4 in (
      tt,
      tt,
      c.step.ensures.lock ∙ c.loop.invariant.2,
      c.step.ensures.thread ∙ c.loop.invariant.3,
      errands_more c.args.clerk.now.thread c.loop.clerk.thread so_far.0 (own c.args.clerk.now.pass) (own c.loop.clerk.pass) (own c.step.new.clerk.pass) c.step.result
          c.loop.invariant.3 so_far.1 c.step.ensures.work,
    )

pub returns-in-Shut : goal.returns-in-Shut
returns-in-Shut g c =
    let so_far = c.loop.invariant.4 in
    let all = errands_more c.args.clerk.now.thread c.loop.clerk.thread so_far.0 (own c.args.clerk.now.pass) (own c.loop.clerk.pass) (own c.step.new.clerk.pass) picked.Shut
    c.loop.invariant.3 so_far.1 c.in-Shut.ensures.work in
    record {
      lock = c.in-Shut.ensures.lock ∙ c.loop.invariant.2;
      thread = c.in-Shut.ensures.thread ∙ c.loop.invariant.3;
      shut = c.in-Shut.ensures.shut refl;
      count = all.0;
      work = all.1;
    }

pub loop-preserved-in-Got : goal.loop-preserved-in-Got
loop-preserved-in-Got g c =
    let so_far = c.loop.invariant.4 in (
      tt,
      tt,
      c.in-Got.ensures.lock ∙ c.loop.invariant.2,
      c.in-Got.ensures.thread ∙ c.loop.invariant.3,
      errands_more c.args.clerk.now.thread c.loop.clerk.thread so_far.0 (own c.args.clerk.now.pass) (own c.loop.clerk.pass) (own c.step.new.clerk.pass) picked.Got
          c.loop.invariant.3 so_far.1 c.in-Got.ensures.work,
    )

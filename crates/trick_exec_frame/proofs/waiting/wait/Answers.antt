use Rattle.std.proofs.Common.{◌≡◌, ◌∙◌, ◌<◌, ◌≤◌, ℕ, length, length-set, refl, subst}
use Rattle.std.specs.List.{slice_index_or}
use Rattle.trick_exec_posts.proofs.Seats.{stations_many}
use Rattle.trick_exec_frame.proofs.ChoiceLemmas.{threads_here, waits_all, waits_more, waits_start}
use Rattle.trick_exec_frame.proofs.waiting.wait.Goals as goal
use Rattle.trick_model.specs.Plan.{threads_beside}
use Rattle.trick_model.specs.PlanOf.{plan_of}
use Rattle.trick_model.specs.State.{seen}
use Rattle.trick_model.specs.declared.thread.Thread.{Thread}

pub loop-place-init : goal.loop-place-init
loop-place-init g c = record {
  waiting = λ plan are. waits_start (seen g.M.Cells.numbers c.args.state.now) c.args.published.now (threads_beside (plan_of plan)) c.args.waits.now;
  as_many = c.requires;
}

pub loop-place-preserved : goal.loop-place-preserved
loop-place-preserved g c =
    let stations = c.args.stations.now in
    let k = c.loop-place.place in
    let thread : Thread = (slice_index_or stations k c.index-stations-place.result).thread in
    let less : k < length stations = c.loop-place-test.true in
    record {
      waiting = λ plan are. (let here = threads_here (plan_of plan) stations k c.index-stations-place.result are less in
          waits_more (seen g.M.Cells.numbers c.args.state.now) c.args.published.now (threads_beside (plan_of plan)) k thread c.args.waits.now c.loop-place.waits c.waited_at.result
          here.0 (c.requires ∙ stations_many (plan_of plan) stations are) here.1 c.waited_at.ensures (c.loop-place.invariant.waiting plan are));
      as_many = length-set c.loop-place.waits k c.waited_at.result ∙ c.loop-place.invariant.as_many;
    }

pub returns-clause-waits : goal.returns-clause-waits
returns-clause-waits g c = λ plan are.
    (let many = stations_many (plan_of plan) c.args.stations.now are in
    waits_all (seen g.M.Cells.numbers c.args.state.now) c.args.published.now (threads_beside (plan_of plan)) c.loop-place.place c.args.waits.now c.loop-place.waits
    (subst (λ (n : ℕ). n ≤ c.loop-place.place) many c.loop-place-test.false) (c.requires ∙ many) (c.loop-place.invariant.waiting plan are))

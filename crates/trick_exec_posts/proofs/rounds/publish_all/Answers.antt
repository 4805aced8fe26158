use Rattle.std.proofs.Common.{◌≡◌, ◌∷◌, [], refl, subst, sym}
use Rattle.std.specs.List.{slice_index_or}
use Rattle.trick_exec_posts.proofs.Loops.{asks_none, asks_then}
use Rattle.trick_exec_posts.proofs.RoundLemmas.{one_entry}
use Rattle.trick_exec_posts.proofs.rounds.publish_all.Goals as goal
use Rattle.trick_exec_posts.specs.Stations.{AreStations}
use Rattle.trick_model.specs.PlanOf.{plan_of}
use Rattle.trick_model.specs.State.{State, seen}
use Rattle.trick_model.specs.Turn.{publish_all}
use Rattle.trick_model.specs.declared.entry.Entry.{Entry}
use Rattle.trick_model.specs.declared.plan.Plan.{Plan as PlanValue}

pub loop-entry-init : goal.loop-entry-init
loop-entry-init g c = record {
  left = refl;
  goes = c.requires.goes;
  asks = asks_none g.P.Posts c.args.posts.now (g.met.P.Posts.asked_none c.args.posts.now);
}

pub publish_entry-requires-clause-stations : goal.publish_entry-requires-clause-stations
publish_entry-requires-clause-stations g c =
    subst (λ (x : PlanValue). AreStations (plan_of x) c.args.stations.now) (sym c.loop-entry.invariant.asks.plan) c.requires.stations

pub loop-entry-preserved : goal.loop-entry-preserved
loop-entry-preserved g c =
    let p = plan_of (g.P.Posts.plan c.args.posts.now) in
    let k = c.loop-entry.entry-index in
    let entries = c.args.entries.now in
    let entry = c.entry-item.result in
    let now : State = seen g.M.Cells.numbers c.loop-entry.state in
    let next : State = seen g.M.Cells.numbers c.publish_entry.new.state in
    let own : next ≡ publish_all p (entry ∷ []) now =
    subst (λ (x : PlanValue). next ≡ publish_all (plan_of x) (entry ∷ []) now) c.loop-entry.invariant.asks.plan c.publish_entry.ensures.state in
    let step : next ≡ publish_all p (slice_index_or entries k entry ∷ []) now =
    subst (λ (e : Entry). next ≡ publish_all p (e ∷ []) now) c.entry-item.is own in
    record {
      left = one_entry p entries k entry now next (publish_all p entries (seen g.M.Cells.numbers c.args.state.now)) c.loop-entry-test.true step
          c.loop-entry.invariant.left;
      goes = c.publish_entry.ensures.goes;
      asks = asks_then g.met.P.Posts.asked_join c.loop-entry.invariant.asks c.publish_entry.ensures.asks;
    }

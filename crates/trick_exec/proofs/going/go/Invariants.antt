use Rattle.std.proofs.Common.{◌≡◌, length}
use Rattle.trick_exec.proofs.GoLemmas.{IsUnder}
use Rattle.trick_exec.proofs.going.go.Given as goal
use Rattle.trick_exec_turn.specs.Known.{AreKnown}
use Rattle.trick_exec_turn.specs.Lent.{IsReady, IsSame, place}
use Rattle.trick_exec_turn.specs.Worlds.{world_of}
use Rattle.trick_model.specs.Plan.{threads_beside}
use Rattle.trick_model.specs.PlanOf.{plan_of}
use Rattle.trick_model.specs.State.{seen}
use Rattle.trick_exec_meaning.proofs.Gaps.{AreStill}
use Rattle.trick_exec_meaning.specs.Hosts.{hosts}

-- so many turns are done
abbrev pub invariant-loop-turn : goal.invariant-loop-turn
invariant-loop-turn g l =
    let plan = l.accepted.plan in
    let p = plan_of plan in
    record {
      same : IsSame l.initial.run l.run;
      under : IsUnder (hosts g.F.Shelf g.T.Turns g.P.Posts) p (seen g.M.Cells.numbers l.fn.world.state) (place l.initial.run)
          (place l.run) (world_of g.M.Cells.numbers l.world) l.run.waits.now.items;
      ready : IsReady g.H.Phases g.P.Posts plan l.run (seen g.M.Cells.numbers l.world.state) (g.M.Cells.scalars l.world.state.memory);
      waits : length l.run.waits.now.items ≡ length (threads_beside p);
      known : AreKnown p (g.T.Turns.sessions l.run.turns.now) l.world.sessions.items;
      still : AreStill l.world.sessions.items;
    }

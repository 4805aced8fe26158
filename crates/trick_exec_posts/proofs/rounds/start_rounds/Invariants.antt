use Rattle.std.proofs.Common.{◌≡◌, drop}
use Rattle.trick_exec_posts.proofs.rounds.start_rounds.Given as goal
use Rattle.trick_exec_posts.specs.Flight.{AsksNothing, GoesWith}
use Rattle.trick_model.specs.Beside.{each_thread, start_round, start_rounds}
use Rattle.trick_model.specs.Plan.{threads_beside}
use Rattle.trick_model.specs.PlanOf.{plan_of}
use Rattle.trick_model.specs.State.{seen}

-- what is left of the threads makes of what is there what all make of the beginning
abbrev pub invariant-loop-place : goal.invariant-loop-place
invariant-loop-place g l =
    let p = plan_of (g.P.Posts.plan l.fn.posts) in
    record {
      left : each_thread (start_round p) l.place (drop l.place (threads_beside p)) (seen g.M.Cells.numbers l.state)
          ≡ start_rounds p (seen g.M.Cells.numbers l.fn.state);
      goes : GoesWith (g.P.Posts.plan l.posts) (g.P.Posts.in_flight l.posts) l.state.tic (seen g.M.Cells.numbers l.state)
          (g.M.Cells.scalars l.state.memory);
      asks : AsksNothing g.P.Posts l.fn.posts l.posts;
    }

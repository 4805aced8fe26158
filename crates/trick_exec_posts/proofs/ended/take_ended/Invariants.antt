use Rattle.std.proofs.Common.{◌≡◌, drop, length}
use Rattle.std.specs.Prelude.{◌+◌}
use Rattle.trick_exec_posts.proofs.ended.take_ended.Given as goal
use Rattle.trick_exec_posts.specs.Flight.{AsksNothing, GoesWith, HoldNothing, ended_taken}
use Rattle.trick_model.specs.Beside.{each_thread, take, where_ends}
use Rattle.trick_model.specs.Plan.{threads_beside}
use Rattle.trick_model.specs.PlanOf.{plan_of}
use Rattle.trick_model.specs.State.{seen}

-- what is left of the threads makes of what is there what all make of the beginning
abbrev pub invariant-loop-place : goal.invariant-loop-place
invariant-loop-place g l =
    let p = plan_of (g.P.Posts.plan l.fn.posts) in
    record {
      left : each_thread (where_ends (take p) l.tic) l.place (drop l.place (threads_beside p)) (seen g.M.Cells.numbers l.state)
          ≡ ended_taken p l.tic (seen g.M.Cells.numbers l.fn.state);
      goes : GoesWith (g.P.Posts.plan l.posts) (g.P.Posts.in_flight l.posts) (l.tic + 1) (seen g.M.Cells.numbers l.state)
          (g.M.Cells.scalars l.state.memory);
      hold : HoldNothing p l.tic l.place (length (threads_beside p)) (seen g.M.Cells.numbers l.state);
      asks : AsksNothing g.P.Posts l.fn.posts l.posts;
    }

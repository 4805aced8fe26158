use Rattle.std.proofs.Common.{List, take}
use Rattle.trick_exec_frame.proofs.choice.choose.Given as goal
use Rattle.trick_exec_frame.specs.Adds.{AreAsIs}
use Rattle.trick_model.specs.Plan.{threads_beside}
use Rattle.trick_model.specs.PlanOf.{plan_of}
use Rattle.trick_model.specs.State.{seen}
use Rattle.trick_post_work.specs.Polls.{Poll}
use Rattle.trick_exec_meaning.specs.Rounds.{Chooses}

-- the choice for the threads so far
abbrev pub invariant-loop-place : goal.invariant-loop-place
invariant-loop-place g l =
    record {
      chosen : (polls : List Poll) × g.P.Posts.asked l.fn.posts polls l.posts
          × Chooses (seen g.M.Cells.numbers l.state) l.waits (take l.place (threads_beside (plan_of (g.P.Posts.plan l.fn.posts)))) l.chosen.items polls;
      same : AreAsIs g.P.Posts l.fn.posts l.posts;
    }

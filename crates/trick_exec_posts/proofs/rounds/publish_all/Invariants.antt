use Rattle.std.proofs.Common.{◌≡◌, drop}
use Rattle.trick_exec_posts.proofs.rounds.publish_all.Given as goal
use Rattle.trick_exec_posts.specs.Flight.{AsksNothing, GoesWith}
use Rattle.trick_model.specs.PlanOf.{plan_of}
use Rattle.trick_model.specs.State.{seen}
use Rattle.trick_model.specs.Turn.{publish_all}

-- what is left of the entries makes of what is there what all make of the beginning
abbrev pub invariant-loop-entry : goal.invariant-loop-entry
invariant-loop-entry g l =
    let p = plan_of (g.P.Posts.plan l.fn.posts) in
    record {
      left : publish_all p (drop l.entry-index l.entries) (seen g.M.Cells.numbers l.state)
          ≡ publish_all p l.entries (seen g.M.Cells.numbers l.fn.state);
      goes : GoesWith (g.P.Posts.plan l.posts) (g.P.Posts.in_flight l.posts) l.state.tic (seen g.M.Cells.numbers l.state)
          (g.M.Cells.scalars l.state.memory);
      asks : AsksNothing g.P.Posts l.fn.posts l.posts;
    }

use Rattle.trick_exec_posts.proofs.HeldLemmas.{AreStarted}
use Rattle.trick_exec_posts.proofs.held.start_held.Given as goal
use Rattle.trick_exec_posts.specs.Flight.{AsksNothing}
use Rattle.trick_model.specs.PlanOf.{plan_of}

-- so many threads are started
abbrev pub invariant-loop-place : goal.invariant-loop-place
invariant-loop-place g l = record {
  started : AreStarted (plan_of (g.P.Posts.plan l.fn.posts)) (g.P.Posts.in_flight l.posts) l.state.tic l.state.taken l.place;
  asks : AsksNothing g.P.Posts l.fn.posts l.posts;
}

use Rattle.std.proofs.Common.{◌≡◌, drop, map, take}
use Rattle.std.specs.Arc.{arc_value}
use Rattle.std.specs.Prelude.{All, filter}
use Rattle.trick_post.specs.Clerks.{AreClerkPasses, has_clerk}
use Rattle.trick_post.proofs.post.clerks_with.Given as goal

-- the first threads have their clerks, and the passes that are left are for the others
abbrev pub invariant-loop-number : goal.invariant-loop-number
invariant-loop-number g l = record {
  threads : map (λ c. c.thread) l.clerks.items ≡ filter (has_clerk (arc_value l.held.accepted).plan) (take l.number-index l.numbers);
  lock : All (λ c. arc_value c.lock ≡ arc_value l.lock) l.clerks.items;
  plan : All (λ c. arc_value c.held.accepted ≡ arc_value l.held.accepted) l.clerks.items;
  passes : AreClerkPasses (arc_value l.lock) (drop l.number-index l.numbers) l.passes.items;
}

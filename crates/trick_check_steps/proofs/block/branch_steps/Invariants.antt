use Rattle.std.proofs.Common.{◌≡◌, ◌+◌, ◌<◌, ◌^◌, drop, max}
use Rattle.trick_base.specs.Capped.{capped}
use Rattle.trick_lang.specs.Count.{branch_steps}
use Rattle.trick_lang.specs.TreeOf.{branches_of, else_of}
use Rattle.trick_check_steps.proofs.block.branch_steps.Given as goal
use Rattle.trick_check_steps.specs.Steps.{count_at}

-- the most so far, or what is left after the conditions so far
abbrev pub invariant-loop-branch : goal.invariant-loop-branch
invariant-loop-branch l = record {
  told : capped (max l.most (l.tests + branch_steps (branches_of (drop l.branch-index l.branches) (else_of l.otherwise)) (count_at l.counts)))
      ≡ capped (branch_steps (branches_of l.branches (else_of l.otherwise)) (count_at l.counts));
  tests : l.tests < 2 ^ 64;
  most : l.most < 2 ^ 64;
}

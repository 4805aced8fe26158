use Rattle.std.proofs.Common.{◌≡◌, ◌+◌, ◌<◌, ◌^◌, drop}
use Rattle.trick_base.specs.Capped.{capped}
use Rattle.trick_lang.specs.Count.{all_steps}
use Rattle.trick_lang.specs.TreeOf.{code_list}
use Rattle.trick_check_steps.proofs.block.all_steps.Given as goal
use Rattle.trick_check_steps.specs.Steps.{count_at}

-- what is counted and what is left are all
abbrev pub invariant-loop-statement : goal.invariant-loop-statement
invariant-loop-statement l = record {
  told : capped (l.total + all_steps (code_list (drop l.statement-index l.statements)) (count_at l.counts))
      ≡ capped (all_steps (code_list l.statements) (count_at l.counts));
  small : l.total < 2 ^ 64;
}

use Rattle.std.proofs.Common.{◌≡◌, ◌+◌, ◌-◌, ◌<◌, ◌^◌, drop, min}
use Rattle.trick_check_bodies.proofs.line.job_count.Given as goal
use Rattle.trick_check_bodies.specs.Jobs.{job_count}
use Rattle.trick_lang.specs.Syntax.{definitions_of}

-- what is counted and what is left are all
abbrev pub invariant-loop-object : goal.invariant-loop-object
invariant-loop-object l = record {
  told : min (l.count + job_count (definitions_of l.definitions) (drop l.object-index l.objects)) (2 ^ 64 - 1)
      ≡ min (job_count (definitions_of l.definitions) l.objects) (2 ^ 64 - 1);
  small : l.count < 2 ^ 64;
}

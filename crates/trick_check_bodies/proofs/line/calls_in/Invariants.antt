use Rattle.std.proofs.Common.{◌≡◌, ◌≤◌, ◌+◌, drop}
use Rattle.trick_check_bodies.proofs.line.calls_in.Given as goal
use Rattle.trick_check_bodies.specs.Jobs.{calls_in}
use Rattle.trick_lang.specs.Syntax.{jobs_of}

-- what is counted and what is left are all
abbrev pub invariant-loop-line : goal.invariant-loop-line
invariant-loop-line l = record {
  told : l.count + calls_in l.method (jobs_of (drop l.line-index l.lines)) ≡ calls_in l.method (jobs_of l.lines);
  within : l.count ≤ l.line-index;
}

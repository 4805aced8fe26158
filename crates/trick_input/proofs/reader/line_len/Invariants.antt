use Rattle.std.proofs.Common.{◌≡◌, ◌+◌, length, nat_eq}
use Rattle.std.specs.List.{prefix_len}
use Rattle.trick_input.proofs.reader.line_len.Given as goal

abbrev pub invariant-loop-rest : goal.invariant-loop-rest
invariant-loop-rest l = record {
  counted : l.count + prefix_len (λ t. nat_eq t.line l.line) l.rest ≡ prefix_len (λ t. nat_eq t.line l.line) l.fn.rest;
  within : l.count + length l.rest ≡ length l.fn.rest;
}

abbrev pub decreases-loop-rest : goal.decreases-loop-rest
decreases-loop-rest l = length l.rest

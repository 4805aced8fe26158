use Rattle.std.proofs.Common.{◌≡◌, ◌++◌, drop}
use Rattle.trick_codes.proofs.print.push_others.Given as goal
use Rattle.trick_codes.specs.Named.{others_text}

abbrev pub invariant-loop-number : goal.invariant-loop-number
invariant-loop-number l = l.text.items ++ others_text (drop l.number-index l.numbers) ≡ l.fn.text.items ++ others_text l.numbers

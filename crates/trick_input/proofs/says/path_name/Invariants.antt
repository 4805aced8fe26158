use Rattle.std.proofs.Common.{◌≡◌, ◌++◌, drop}
use Rattle.trick_input.specs.Says.{path_name}
use Rattle.trick_input.specs.Seen.{all_seen}
use Rattle.trick_input.proofs.says.path_name.Given as goal

abbrev pub invariant-loop-lexeme : goal.invariant-loop-lexeme
invariant-loop-lexeme l = l.name.items ++ path_name (all_seen (drop l.lexeme-index l.line)) ≡ path_name (all_seen l.line)

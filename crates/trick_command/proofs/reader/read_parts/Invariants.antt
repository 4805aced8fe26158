use Rattle.std.proofs.Common.{◌≡◌, ◌≤◌, ◌++◌, length}
use Rattle.std.specs.Prelude.{option_map}
use Rattle.trick_command.specs.Answers.{actions_of_words}
use Rattle.trick_command.specs.Seen.{lexemes_in}
use Rattle.trick_command.proofs.reader.read_parts.Given as goal

abbrev pub invariant-loop-found : goal.invariant-loop-found
invariant-loop-found l = record {
  read : option_map (λ others. l.found.items ++ others) (actions_of_words (lexemes_in l.rest)) ≡ actions_of_words (lexemes_in l.fn.words);
  within : length l.rest ≤ length l.fn.words;
}

abbrev pub decreases-loop-found : goal.decreases-loop-found
decreases-loop-found l = length l.rest

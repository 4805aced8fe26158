use Rattle.std.proofs.Common.{◌≡◌, ◌≤◌, ◌-◌, drop, length}
use Rattle.trick_command.specs.Seen.{lexemes_in}
use Rattle.trick_model.specs.Forms.{read_members}
use Rattle.trick_command.proofs.path.read_members.Given as goal

abbrev pub invariant-loop-rest : goal.invariant-loop-rest
invariant-loop-rest l = record {
  read : read_members l.name.items (lexemes_in l.rest) ≡ read_members l.fn.name.items (lexemes_in l.fn.words);
  within : length l.rest ≤ length l.fn.words;
  rest : l.rest ≡ drop (length l.fn.words - length l.rest) l.fn.words;
}

abbrev pub decreases-loop-rest : goal.decreases-loop-rest
decreases-loop-rest l = length l.rest

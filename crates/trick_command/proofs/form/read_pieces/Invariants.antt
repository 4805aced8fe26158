use Rattle.std.proofs.Common.{◌≡◌, ◌≤◌, ◌++◌, drop, length}
use Rattle.std.specs.Prelude.{option_map}
use Rattle.trick_command.specs.Seen.{lexemes_in, pieces_in, values_in}
use Rattle.trick_model.specs.Forms.{read_pieces}
use Rattle.trick_command.proofs.form.read_pieces.Given as goal

abbrev pub invariant-loop-piece : goal.invariant-loop-piece
invariant-loop-piece l = record {
  read : option_map (λ others. values_in l.values.items ++ others) (read_pieces (pieces_in (drop l.piece-index l.pieces)) (lexemes_in l.rest)) ≡ read_pieces (pieces_in l.pieces) (lexemes_in l.fn.words);
  within : length l.rest ≤ length l.fn.words;
}

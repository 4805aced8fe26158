use Rattle.std.proofs.Common.{◌≡◌, ◌+◌, [], drop, length, take}
use Rattle.trick_command.specs.Seen.{lexemes_in}
use Rattle.trick_model.specs.Commands.{parts_of}
use Rattle.trick_command.proofs.reader.part_len.Given as goal

abbrev pub invariant-loop-rest : goal.invariant-loop-rest
invariant-loop-rest l = record {
  parts : parts_of (lexemes_in (take l.len l.words)) (lexemes_in l.rest) ≡ parts_of [] (lexemes_in l.words);
  rest : l.rest ≡ drop l.len l.words;
  within : l.len + length l.rest ≡ length l.words;
}

abbrev pub decreases-loop-rest : goal.decreases-loop-rest
decreases-loop-rest l = length l.rest

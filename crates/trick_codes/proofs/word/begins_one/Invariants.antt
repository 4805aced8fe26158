use Rattle.std.proofs.Common.{◌≡◌, drop}
use Rattle.trick_codes.proofs.word.begins_one.Given as goal
use Rattle.trick_codes.specs.Code.{begins_word}
use Rattle.trick_codes.specs.Gives.{bytes_of}

abbrev pub invariant-loop-word : goal.invariant-loop-word
invariant-loop-word l = begins_word (bytes_of (drop l.word-index l.words)) l.rest ≡ begins_word (bytes_of l.words) l.rest

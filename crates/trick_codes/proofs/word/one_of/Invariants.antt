use Rattle.std.proofs.Common.{◌≡◌, drop}
use Rattle.trick_codes.proofs.word.one_of.Given as goal
use Rattle.trick_codes.specs.Code.{word_from, begins_word, no_word}
use Rattle.trick_codes.specs.Gives.{bytes_of}

abbrev pub invariant-loop-place : goal.invariant-loop-place
invariant-loop-place l = word_from l.place (bytes_of (drop l.place l.words)) (no_word (begins_word (bytes_of l.words) l.rest)) l.rest ≡ word_from 0 (bytes_of l.words) (no_word (begins_word (bytes_of l.words) l.rest)) l.rest

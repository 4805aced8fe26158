use Rattle.std.proofs.Common.{◌≡◌, take}
use Rattle.trick_chkpt.proofs.job_texts.slices.Given as goal
use Rattle.trick_codes.specs.Gives.{bytes_of}

abbrev pub invariant-loop-word : goal.invariant-loop-word
invariant-loop-word l = bytes_of l.found.items ≡ take l.word-index l.words

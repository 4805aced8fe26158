use Rattle.std.proofs.Common.{◌≡◌, drop}
use Rattle.std.specs.List.{list_any}
use Rattle.std.specs.Str.{bytes_eq}
use Rattle.trick_chkpt.proofs.fault_kind.is_one_of.Given as goal
use Rattle.trick_codes.specs.Gives.{bytes_of}

abbrev pub invariant-loop-word : goal.invariant-loop-word
invariant-loop-word l =
    list_any (bytes_eq l.bytes) (bytes_of (drop l.word-index l.words)) ≡ list_any (bytes_eq l.bytes) (bytes_of l.words)

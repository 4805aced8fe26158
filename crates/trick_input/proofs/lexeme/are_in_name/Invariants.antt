use Rattle.std.proofs.Common.{◌≡◌, drop}
use Rattle.std.specs.List.{list_all}
use Rattle.trick_input.proofs.lexeme.are_in_name.Given as goal
use Rattle.trick_text.specs.Pieces.{is_in_name}

abbrev pub invariant-loop-byte : goal.invariant-loop-byte
invariant-loop-byte l = list_all is_in_name (drop l.byte-index l.bytes) ≡ list_all is_in_name l.bytes

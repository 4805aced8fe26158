use Rattle.std.proofs.Common.{◌≡◌, take}
use Rattle.trick_command.specs.Fed.{fed}
use Rattle.trick_command.proofs.feed.Feed.push.Given as goal

abbrev pub invariant-loop-byte : goal.invariant-loop-byte
invariant-loop-byte l = l.self ≡ fed l.fn.self (take l.byte-index l.piece)

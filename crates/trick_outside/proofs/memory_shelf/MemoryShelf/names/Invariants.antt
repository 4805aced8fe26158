use Rattle.std.proofs.Common.{◌≡◌, take}
use Rattle.trick_outside.proofs.KeptLemmas.{names_of}
use Rattle.trick_outside.proofs.memory_shelf.MemoryShelf.names.Given as goal

abbrev pub invariant-loop-file : goal.invariant-loop-file
invariant-loop-file l = l.names.items ≡ names_of (take l.file-index l.file-items)

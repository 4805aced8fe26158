-- The writes among calls.
use Rattle.std.specs.Prelude.{List, [], ◌∷◌}
use Rattle.trick_base.specs.Files.{Write}
use Rattle.trick_outside.specs.Calls.{Call, Read, Done, Stopped}

-- The writes that these calls did, in their order.
abbrev pub writes_of : List Call → List Write
writes_of [] = []
writes_of (Read name bytes ∷ calls) = writes_of calls
writes_of (Done write ∷ calls) = write ∷ writes_of calls
writes_of (Stopped wanted why ∷ calls) = writes_of calls

-- No call is one that stopped, as no step is.
abbrev pub AreDone : List Call → Type 0
AreDone [] = Unit {0}
AreDone (Read name bytes ∷ calls) = AreDone calls
AreDone (Done write ∷ calls) = AreDone calls
AreDone (Stopped wanted why ∷ calls) = ⊥

-- What was taken of a session's inbox, beside the bytes of its link.
use Rattle.std.specs.Prelude.{◌≡◌, ℕ, List, [], ◌++◌, Option, Some}
use Rattle.trick_model.specs.Commands.{lines}
use Rattle.trick_wire.specs.Puts.{IsTooLong, last_of, said}
use Rattle.trick_wire.specs.declared.heard.Heard.{Heard}
use Rattle.trick_wire.specs.declared.heard.ReadStop.{ReadStop}
use Rattle.trick_wire.specs.declared.heard.ReadStop.TheVariants as stop

-- which lines of these bytes may be missing where this was taken last
abbrev pub IsMissing : List ℕ → List (List ℕ) → ReadStop → Type 0
IsMissing bytes rest stop.End = rest ≡ []
IsMissing bytes rest stop.LongLine = (rest ≡ []) × IsTooLong bytes
IsMissing bytes rest stop.LinkFault = Unit {0}
IsMissing bytes rest stop.OutOfMemory = Unit {0}
IsMissing bytes rest stop.Closed = Unit {0}

-- The first lines of what the link had to give, each once and in order, and then at most one mark, which
-- is `Closed` where none was taken. End comes only after all of them, LongLine only after all before a
-- line that is too long, and LinkFault only where the link failed.
pub record HasHeard (told : Option (List ℕ)) (Failed : Type 0) (taken : List Heard) : Type 0 where
  pub some : List (List ℕ)
  pub mark : ReadStop
  pub are : taken ≡ said some ++ last_of mark
  pub lines_are : (bytes : List ℕ) → told ≡ Some bytes
      → (rest : List (List ℕ)) × (lines bytes ≡ some ++ rest) × IsMissing bytes rest mark
  pub fault : mark ≡ stop.LinkFault → Failed

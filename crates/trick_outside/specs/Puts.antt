-- A text that is put to a sink, piece after piece.
use Rattle.std.specs.Prelude.{◌≡◌, ℕ, List, [], ◌∷◌, true, drop}
use Rattle.trick_outside.specs.Pieces.{Piece, Pieces, Took, Failed, OutOfMemory, fails, stops, taken_of}
use Rattle.trick_outside.specs.declared.print.Printed.TheVariants as printed
use Rattle.trick_outside.specs.declared.print.Printed.{Printed}
use Rattle.trick_outside.specs.declared.sink.Sink.{Ghosts}

-- Each piece is what is left of the bytes, and after one of which nothing was taken there is no other.
abbrev pub ArePiecesOf : List ℕ → List Piece → Type 0
ArePiecesOf bytes [] = Unit {0}
ArePiecesOf bytes (Took piece count ∷ pieces) = (piece ≡ bytes) × ArePiecesOf (drop count bytes) pieces
ArePiecesOf bytes (Failed piece ∷ pieces) = (piece ≡ bytes) × (pieces ≡ [])
ArePiecesOf bytes (OutOfMemory piece ∷ pieces) = (piece ≡ bytes) × (pieces ≡ [])

-- From old to new the sink was given these bytes, and nothing else. The first argument is the bound's
-- record, as `O.Sink` under `O: Sink`. It is `Done` only where all were taken, it stopped at a piece
-- where it is not, and it is `Failed` exactly where the sink failed.
pub record Puts {O : Type 0} (sink : Ghosts O) (old new : O) (result : Printed) (bytes : List ℕ) : Type 0 where
  pub pieces : List Piece
  pub told : sink.called old pieces new
  pub went : Pieces (sink.holds old) (sink.holds new) (sink.failures old) (sink.failures new) pieces
  pub are : ArePiecesOf bytes pieces
  pub whole : result ≡ printed.Done → taken_of pieces ≡ bytes
  pub stopped : (result ≡ printed.Done → ⊥) → stops pieces ≡ true
  pub failed : result ≡ printed.Failed → fails pieces ≡ true
  pub fault : fails pieces ≡ true → result ≡ printed.Failed

-- The pieces that a sink was given, each with its answer, and what they leave of its bytes.
use Rattle.std.specs.Prelude.{◌≡◌, ◌<◌, ◌≤◌, ℕ, List, [], ◌∷◌, ◌++◌, Bool, true, false, ◌||◌, Option, Some, take}
use Rattle.trick_outside.specs.Causes.{HasCause}
use Rattle.trick_outside.specs.declared.sink.Taken1.TheVariants as taken
use Rattle.trick_outside.specs.declared.sink.Taken1.{Taken1}

-- A piece with its answer: so many of its first bytes were taken; or none, since the sink failed or
-- there was no memory.
pub data Piece : Type 0 where
  Took : (piece : List ℕ) → (count : ℕ) → Piece
  Failed : (piece : List ℕ) → Piece
  OutOfMemory : (piece : List ℕ) → Piece

-- A piece, with this answer.
abbrev pub piece_call : List ℕ → Taken1 → Piece
piece_call piece (taken.Took count) = Took piece count
piece_call piece taken.Failed = Failed piece
piece_call piece taken.OutOfMemory = OutOfMemory piece

-- Whether the sink failed at this piece.
abbrev pub is_fault : Piece → Bool
is_fault (Took piece count) = false
is_fault (Failed piece) = true
is_fault (OutOfMemory piece) = false

-- Whether the sink failed at one of these pieces.
abbrev pub fails : List Piece → Bool
fails [] = false
fails (piece ∷ pieces) = is_fault piece || fails pieces

-- Whether the sink failed or had no memory at one of these pieces.
abbrev pub stops : List Piece → Bool
stops [] = false
stops (Took piece count ∷ pieces) = stops pieces
stops (Failed piece ∷ pieces) = true
stops (OutOfMemory piece ∷ pieces) = true

-- The bytes that were taken, one piece's after another's.
abbrev pub taken_of : List Piece → List ℕ
taken_of [] = []
taken_of (Took piece count ∷ pieces) = take count piece ++ taken_of pieces
taken_of (Failed piece ∷ pieces) = taken_of pieces
taken_of (OutOfMemory piece ∷ pieces) = taken_of pieces

-- At most the whole piece, and something of one that is not empty.
abbrev pub Progress : Taken1 → ℕ → Type 0
Progress (taken.Took count) length = (count ≤ length) × (0 < length → 0 < count)
Progress taken.Failed length = Unit {0}
Progress taken.OutOfMemory length = Unit {0}

-- What these pieces made of a sink: the count of its faults has not fallen, and it rose where a piece
-- failed; and its bytes are those that it had and those that were taken, where it tells.
pub record Pieces (old new : Option (List ℕ)) (before now : ℕ) (pieces : List Piece) : Type 0 where
  pub cause : HasCause before now (fails pieces ≡ true)
  pub left : (bytes : List ℕ) → old ≡ Some bytes → new ≡ Some (bytes ++ taken_of pieces)

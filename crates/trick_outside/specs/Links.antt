-- What a client's two links give and take.
use Rattle.std.specs.Prelude.{◌≡◌, ◌<◌, ◌≤◌, ℕ, List, [], ◌++◌, Option, Some, take}
use Rattle.trick_outside.specs.declared.link_in.Read1.TheVariants as read
use Rattle.trick_outside.specs.declared.link_in.Read1.{Read1}
use Rattle.trick_outside.specs.declared.sink.Taken1.TheVariants as taken
use Rattle.trick_outside.specs.declared.sink.Taken1.{Taken1}

-- The bytes that a read gave, by its answer and by what then stands in the buffer.
abbrev pub bytes_given : Read1 → List ℕ → List ℕ
bytes_given (read.Count count) buffer = take count buffer
bytes_given read.End buffer = []
bytes_given read.Failed buffer = []

-- At most as many as the buffer is long, and something into one that is not empty.
abbrev pub ReadProgress : Read1 → ℕ → Type 0
ReadProgress (read.Count count) length = (count ≤ length) × (0 < length → 0 < count)
ReadProgress read.End length = Unit {0}
ReadProgress read.Failed length = Unit {0}

-- The bytes that a write took of the piece, by its answer.
abbrev pub bytes_taken : Taken1 → List ℕ → List ℕ
bytes_taken (taken.Took count) piece = take count piece
bytes_taken taken.Failed piece = []
bytes_taken taken.OutOfMemory piece = []

-- What the link had left is these bytes and then what it has left now, where it tells.
pub record Gave (old new : Option (List ℕ)) (bytes : List ℕ) : Type 0 where
  pub left : (all : List ℕ) → old ≡ Some all → (rest : List ℕ) × (new ≡ Some rest) × (all ≡ bytes ++ rest)

-- What the link has taken is what it had taken and then these bytes, where it tells.
pub record Took (old new : Option (List ℕ)) (bytes : List ℕ) : Type 0 where
  pub more : (all : List ℕ) → old ≡ Some all → new ≡ Some (all ++ bytes)

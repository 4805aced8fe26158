-- What an exact answer of reading is.
use Rattle.std.specs.Prelude.{◌≡◌, List, ℕ, ◌++◌, Ok, Err}
use Rattle.trick_codes.specs.Code.{Code, Told, spell, Fits, Begins}
use Rattle.trick_codes.specs.Lines.{Lines, Seen, cut, wrong, text, Holds, IsPrefix, IsDue, first_line}
use Rattle.trick_codes.specs.declared.kind.Kind.{Kind}
use Rattle.trick_codes.specs.declared.miss.Miss.TheVariants.{Ends, Differs}

-- A value is read exactly where its text stands at the front. Where none does, it is told whether
-- the text is a prefix of a value's text.
abbrev pub Tells : {A : Type 0} → Code A → List ℕ → Told A → Type 0
Tells c ts (Ok p) = (ts ≡ spell c p.0 ++ p.1) × Fits c p.0
Tells c ts (Err Ends) = Begins c ts
Tells c ts (Err Differs) = Begins c ts → ⊥

-- The same for lines. Where no value's text stands at the front, and the text is no prefix of one, it is told which
-- line is the first with which it is none, and what is wrong with that line by the one that is due.
abbrev pub TellsLines : {A : Type 0} → Lines A → List ℕ → Seen A → Type 0
TellsLines c ts (Ok p) = (ts ≡ text c p.0 ++ p.1) × Holds c p.0
TellsLines c ts (Err cut) = IsPrefix c ts
TellsLines c ts (Err (wrong kind rest)) =
    (front : List ℕ) × (ts ≡ front ++ rest) × IsPrefix c front × (IsPrefix c (front ++ first_line rest) → ⊥)
    × (k : List ℕ → Kind) × IsDue c front k × (kind ≡ k (first_line rest))
